-- Releasing a mutex: the call on the words and on the log.
use Prim.Native.Nat.{ℕ, ◌+◌}
use mathlib.Core.List.{List}
use mathlib.Core.Bool.{Bool, true, false, cond}
use mathlib.Core.Option.{Option, none, some}
use mathlib.Core.Path.{◌≡◌, refl, sym, ap, ◌∙◌, subst}
use native.Mathlib.Omega.{arith}
use lib.ListN.{get_or, set}
use lib.Dec.{eqb}
use Rattle.words.specs.Layout as at
use Rattle.objects.specs.Objects.{place_of}
use Rattle.wakes.specs.Wake.{awake}
use Rattle.answers.specs.Outcome.{outcome}
use Rattle.answers.specs.declared.Answer.TheVariants as answer
use Rattle.mutexes.specs.Mutexes as words
use Rattle.model.specs.Lists.{given}
use Rattle.model.specs.State.{State, Mutex, Object, mutex}
use Rattle.model.specs.Threads.{with_objects}
use Rattle.model.specs.Waits.{key_of, object_at, mutex_at, put_object, owned_by, wake}
use Rattle.model.specs.Valid.{Valid}
use Rattle.model.specs.Refusal.{release_refusal}
use Rattle.model.specs.Answer.{gives, Done}
use Rattle.model.specs.Call as call
use Rattle.model.specs.Step.{step, refusal, effect, with_dispatcher, mutex_released}
use Rattle.model.proofs.TableLaws.{found}
use Rattle.model.proofs.ObjectLaws.{mutex-found, mutex-absent}
use Rattle.agreement.specs.Records.{holder_of, active_address}
use Rattle.agreement.specs.Agree.{Agreeing, Agree}
use Rattle.agreement.specs.Matches.{Plainly}
use Rattle.agreement.proofs.Lookups.{object-place, object-row}
use Rattle.agreement.proofs.Objects.{sim-owner}
use Rattle.agreement.proofs.Matches.{plainly-unless}
use Rattle.agreement_wakes.proofs.Tests.{place_in, place_none, place-there}
use Rattle.agreement_wakes.proofs.Awake.{held-put, agree-awake}

module _ (w : List ℕ) (s : State) (a : Agree w s) (key : ℕ) where
  abbrev l : List Object
  l = s.dispatcher.objects

  abbrev held : ℕ → ℕ
  held = holder_of s.dispatcher.objects

  abbrev active : ℕ
  active = active_address s.dpcs.table

  abbrev c : ℕ
  c = s.dispatcher.current

  -- ---- what refuses

  known_is : ◌≡◌ {A = ℕ} (cond (eqb (place_of w 0 key) 0) 2 (cond (eqb (words.owner_of w key) s.dispatcher.current) 0 10))
      (given (mutex_at s.dispatcher.objects key) 2 (λ (m : Mutex). cond (eqb m.owner s.dispatcher.current) 0 10))
  unfolding words.owner_of
  known_is = go (mutex_at l key) refl
    where
      test : ℕ → ℕ
      test p = cond (eqb p 0) 2 (cond (eqb (cond (eqb p 0) 0 (get_or w (p + at.owner) 0)) c) 0 10)

      go : (o : Option Mutex) → mutex_at s.dispatcher.objects key ≡ o
          → test (place_of w 0 key) ≡ given o 2 (λ (m : Mutex). cond (eqb m.owner s.dispatcher.current) 0 10)
      go none e = ap test (place_none w s held active a (record { kind = 0; key = key }) (mutex-absent (object_at l key) e))
      go (some m) q =
          let e = mutex-found (object_at l key) m q in
          ap test (object-place w s held active a key (mutex m) e)
          ∙ ap (λ (b : Bool). cond b 2 (cond (eqb (cond b 0 (get_or w (p + at.owner) 0)) c) 0 10)) (place-there w s held active a key)
          ∙ ap (λ (n : ℕ). cond (eqb n c) 0 10) (object-row w s held active a key (mutex m) e 4 m.owner refl)
        where
          p : ℕ
          p = place_in w s held active a key

  refusal_is : words.release_refusal w key ≡ release_refusal s key
  unfolding words.release_refusal release_refusal
  refusal_is =
      ap (λ (n : ℕ). cond (eqb n 0) 3 (cond (eqb (place_of w 0 key) 0) 2 (cond (eqb (words.owner_of w key) n) 0 10))) (a.numbers at.current c refl)
      ∙ ap (λ (n : ℕ). cond (eqb c 0) 3 n) known_is

  -- ---- the release

  release-agrees : Valid s → Plainly (words.released w key) (step (call.ReleaseMutex key) s)
  unfolding words.released words.freed refusal release_refusal effect mutex_released
  release-agrees valid = plainly-unless w s a (call.ReleaseMutex key) (words.release_refusal w key) (outcome answer.Done (awake (set w (place_of w 0 key + at.owner) 0))) refusal_is (λ q. go (mutex_at l key) refl q)
    where
      go : (o : Option Mutex) → mutex_at s.dispatcher.objects key ≡ o → release_refusal s key ≡ 0
          → Plainly (outcome answer.Done (awake (set w (place_of w 0 key + at.owner) 0))) (gives Done (mutex_released s key))
      go none e q = absurd (never (eqb c 0) (sym (ap (λ (x : Option Mutex). cond (eqb c 0) 3 (given x 2 (λ (m : Mutex). cond (eqb m.owner c) 0 10))) e) ∙ q))
        where
          never : (b : Bool) → ◌≡◌ {A = ℕ} (cond b 3 2) 0 → ⊥
          never true z = omega (arith, z)
          never false z = omega (arith, z)
      go (some m) e q =
          let f = mutex-found (object_at l key) m e in
          let k : m.key ≡ key = (found key_of l key (mutex m) f).1 in
          let own : object_at l m.key ≡ some (mutex m) = ap (object_at l) k ∙ f in
          subst (λ (x : Option Mutex). Plainly (outcome answer.Done (awake (set w (place_of w 0 key + at.owner) 0)))
          (gives Done (given x s (λ (z : Mutex). with_dispatcher s (wake (with_objects s.dispatcher (put_object (owned_by 0 z) l))))))) (sym e)
          (record {
            answers = refl;
            agree = agree-awake (set w (place_of w 0 key + at.owner) 0) s (with_objects s.dispatcher (put_object (owned_by 0 m) l))
                (subst (λ (i : ℕ). Agreeing (set w (place_of w 0 i + at.owner) 0) (with_dispatcher s (with_objects s.dispatcher (put_object (owned_by 0 m) l))) held active) k (sim-owner w s held active a m 0 own))
                (held-put (owned_by 0 m) (mutex m) (λ b k. refl) l a.shape.rising own) valid.sound.standing;
          })

-- ---- the call

pub agree-release-mutex : (w : List ℕ) (s : State) → Agree w s → Valid s → (key : ℕ) → Plainly (words.released w key) (step (call.ReleaseMutex key) s)
agree-release-mutex w s a v key = release-agrees w s a key v
