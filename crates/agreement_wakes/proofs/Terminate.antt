-- Terminating: the call on the words and on the log.
use Prim.Native.Nat.{ℕ, suc, ◌+◌, ◌*◌, ◌≤◌}
use mathlib.Core.List.{List, [], ◌∷◌}
use mathlib.Core.Bool.{Bool, true, false, cond}
use mathlib.Core.Option.{some}
use mathlib.Core.Path.{◌≡◌, refl, sym, ap, ◌∙◌, subst}
use native.Mathlib.Omega.{arith}
use borrow.Author.Tests.{eq-eqb, eqb-false}
use lib.ListN.{get_or, set, length}
use lib.Dec.{eqb}
use Rattle.words.specs.Layout as at
use Rattle.objects.specs.Objects.{objects_base}
use Rattle.threads.specs.declared.Thread as stored
use Rattle.threads.specs.Thread.{put_thread}
use Rattle.wakes.specs.Wake.{awake}
use Rattle.answers.specs.Outcome.{outcome}
use Rattle.answers.specs.declared.Answer.TheVariants as answer
use Rattle.threading.specs.Thread as words
use Rattle.model.specs.Lists.{Mem, any, nth, without}
use Rattle.model.specs.State.{State, Dispatcher, Thread, running, exited, Mutex, Object, mutex}
use Rattle.model.specs.Threads.{thread_of, status_of, is_ready, is_waiting, change_at, with_status, with_thread, becomes, terminated}
use Rattle.model.specs.Waits.{kind_of, mutexes_of, wake}
use Rattle.model.specs.Valid.{Valid}
use Rattle.model.specs.Refusal.{owns_mutex, terminate_refusal}
use Rattle.model.specs.Call as call
use Rattle.model.specs.Step.{step, refusal, effect, with_dispatcher}
use Rattle.model.proofs.ListLaws.{not-both, mem-member, without-absent}
use Rattle.model.proofs.ThreadLaws.{standing-moved}
use Rattle.model.proofs.ObjectLaws.{on-mutex₂, on-mutex}
use Rattle.model.proofs.KeepLaws.{current-known}
use Rattle.agreement.specs.Records.{holder_of, active_address}
use Rattle.agreement.specs.Agree.{objects_from, Agreeing, Agree}
use Rattle.agreement.specs.Matches.{Plainly}
use Rattle.agreement.proofs.Places.{entry_place}
use Rattle.agreement.proofs.Headers.{with_current, objects-few, sim-current}
use Rattle.agreement.proofs.Threads.{stored_of, sim-thread}
use Rattle.agreement.proofs.Lookups.{base-is, object-count-is, object-kinds, thread-is}
use Rattle.agreement.proofs.Matches.{plainly-unless}
use Rattle.agreement_wakes.proofs.Awake.{agree-awake}

module _ (w : List ℕ) (s : State) (a : Agree w s) where
  abbrev l : List Object
  l = s.dispatcher.objects

  abbrev held : ℕ → ℕ
  held = holder_of s.dispatcher.objects

  abbrev active : ℕ
  active = active_address s.dpcs.table

  abbrev c : ℕ
  c = s.dispatcher.current

  abbrev base : ℕ
  base = objects_from s.limits

  -- ---- who owns a mutex

  owner_at_lem : (id i : ℕ) (x : Object) → nth s.dispatcher.objects i ≡ some x → i ≤ 4096
      → words.owner_at w (objects_from s.limits) i id ≡ any (λ (m : Mutex). eqb m.owner id) (mutexes_of (x ∷ []))
  unfolding words.owner_at
  owner_at_lem id i x e h =
      ap (λ (p : ℕ). cond (eqb (get_or w (p + at.kind) 0) 0) (eqb (get_or w (p + at.owner) 0) id) false) (entry_place base i (omega (arith, a.shape.sizes.limits.threads)) (omega arith))
      ∙ ap (λ (k : ℕ). cond (eqb k 0) (eqb (get_or w (base + 32 * i + at.owner) 0) id) false) (object-kinds w s held active a i x e)
      ∙ on-mutex (λ ms. cond (eqb (kind_of x) 0) owns false ≡ any (λ (m : Mutex). eqb m.owner id) ms) x (λ n. ap (λ (b : Bool). cond b owns false) n)
      (λ m q. ap (λ (y : Object). cond (eqb (kind_of y) 0) owns false) q ∙ ap (λ (n : ℕ). eqb n id) (a.objects i (mutex m) (e ∙ ap some q) 4 m.owner refl) ∙ once (eqb m.owner id))
    where
      owns : Bool
      owns = eqb (get_or w (base + 32 * i + at.owner) 0) id

      once : (b : Bool) → b ≡ cond b true false
      once true = refl
      once false = refl

  owns-in : (id : ℕ) (xs : List Object) (i : ℕ) → ((j : ℕ) (x : Object) → nth xs j ≡ some x → nth s.dispatcher.objects (i + j) ≡ some x) → i + length xs ≤ 4096
      → words.owns_in (length xs) w (objects_from s.limits) i id ≡ any (λ (m : Mutex). eqb m.owner id) (mutexes_of xs)
  unfolding words.owns_in
  owns-in id [] i h few = refl
  owns-in id (x ∷ xs) i h few =
      ap (λ (b : Bool). cond b true (words.owns_in (length xs) w base (i + 1) id))
      (owner_at_lem id i x (ap (nth l) (let e : i ≡ i + 0 = omega arith in e) ∙ h 0 x refl) (omega arith))
      ∙ ap (λ (b : Bool). cond (any (λ (m : Mutex). eqb m.owner id) (mutexes_of (x ∷ []))) true b)
      (owns-in id xs (i + 1) (λ j y e. ap (nth l) (let q : i + 1 + j ≡ i + suc j = omega arith in q) ∙ h (suc j) y e) (omega arith))
      ∙ join x
    where
      or : (b r : Bool) → cond (cond b true false) true r ≡ cond b true r
      or true r = refl
      or false r = refl

      join : (x : Object) → cond (any (λ (m : Mutex). eqb m.owner id) (mutexes_of (x ∷ []))) true (any (λ (m : Mutex). eqb m.owner id) (mutexes_of xs))
          ≡ any (λ (m : Mutex). eqb m.owner id) (mutexes_of (x ∷ xs))
      join x = on-mutex₂ (λ one more. cond (any (λ (m : Mutex). eqb m.owner id) one) true (any (λ (m : Mutex). eqb m.owner id) (mutexes_of xs)) ≡ any (λ (m : Mutex). eqb m.owner id) more)
          x (λ n. refl) (λ m q. or (eqb m.owner id) (any (λ (m : Mutex). eqb m.owner id) (mutexes_of xs)))

  pub owns-is : (id : ℕ) → words.owns_mutex w id ≡ owns_mutex s.dispatcher.objects id
  unfolding words.owns_mutex
  owns-is id =
      ap (λ (n : ℕ). words.owns_in n w (objects_base w) 0 id) (object-count-is w s held active a)
      ∙ ap (λ (b : ℕ). words.owns_in (length l) w b 0 id) (base-is w s held active a)
      ∙ owns-in id l 0 (λ j x e. ap (nth l) (let q : 0 + j ≡ j = omega arith in q) ∙ e) (omega (arith, objects-few w s held active a))

  refusal_is : words.terminate_refusal w ≡ terminate_refusal s
  unfolding words.terminate_refusal terminate_refusal
  refusal_is =
      ap (λ (n : ℕ). cond (eqb n 0) 3 (cond (words.owns_mutex w n) 10 0)) (a.numbers at.current c refl)
      ∙ ap (λ (b : Bool). cond (eqb c 0) 3 (cond b 10 0)) (owns-is c)

  -- ---- the thread exits

  module _ (v : Valid s) (ne : s.dispatcher.current ≡ 0 → ⊥) (status : ℕ) where
    abbrev t : Thread
    t = with_status (thread_of s.dispatcher s.dispatcher.current) (exited status)

    known : (1 ≤ s.dispatcher.current) × (s.dispatcher.current ≤ length s.dispatcher.threads) × (status_of s.dispatcher s.dispatcher.current ≡ running)
    known = current-known s v ne

    unplaced : Mem s.dispatcher.current s.dispatcher.placed → ⊥
    unplaced m = not-both (sym (mem-member c s.dispatcher.placed m) ∙ v.sound.standing.placed_ready c ∙ ap is_ready known.2)

    unblocked : Mem s.dispatcher.current s.dispatcher.waiters → ⊥
    unblocked m = not-both (sym (mem-member c s.dispatcher.waiters m) ∙ v.sound.standing.waiters_waiting c ∙ ap is_waiting known.2)

    exits : terminated s.dispatcher status ≡ with_current (with_thread s.dispatcher s.dispatcher.current t) 0
    unfolding terminated becomes
    exits =
        ap (λ (m : List ℕ). after m (without c s.dispatcher.waiters) (cond (eqb c c) 0 c)) (without-absent c s.dispatcher.placed unplaced)
        ∙ ap (λ (m : List ℕ). after s.dispatcher.placed m (cond (eqb c c) 0 c)) (without-absent c s.dispatcher.waiters unblocked)
        ∙ ap (λ (b : Bool). after s.dispatcher.placed s.dispatcher.waiters (cond b 0 c)) (eq-eqb c c refl)
      where
        after : List ℕ → List ℕ → ℕ → Dispatcher
        after placed waiters current = record {
          threads = change_at s.dispatcher.threads c t;
          current = current;
          placed = placed;
          waiters = waiters;
          sequence = s.dispatcher.sequence;
          objects = s.dispatcher.objects;
        }

    sim-exited : Agreeing (words.exited_words w s.dispatcher.current status) (with_dispatcher s (terminated s.dispatcher status)) held active
    unfolding words.exited_words
    sim-exited =
        let f = a.shape.fit c known.0 known.1 in
        subst (λ (d : Dispatcher). Agreeing (words.exited_words w c status) (with_dispatcher s d) held active) (sym exits)
        (subst (λ (x : stored.Thread). Agreeing (set (put_thread w c (record { priority = x.priority; state = 4; result = x.result; status = status })) 6 0) (with_dispatcher s (with_current (with_thread s.dispatcher c t) 0)) held active)
        (sym (thread-is w s held active a c known.0 known.1))
        (sim-current (put_thread w c (stored_of t)) (with_dispatcher s (with_thread s.dispatcher c t)) held active
        (sim-thread w s held active a c t known.0 known.1 (record { one = f.one; small = f.small; wait = tt }) (λ m. refl) tt) 0))

    agree-exited : Agree (awake (words.exited_words w s.dispatcher.current status)) (with_dispatcher s (wake (terminated s.dispatcher status)))
    unfolding terminated becomes
    agree-exited = agree-awake (words.exited_words w c status) s (terminated s.dispatcher status) sim-exited (record { rising = a.shape.rising; same = λ b. refl })
        (standing-moved s.dispatcher.threads s.dispatcher.placed s.dispatcher.waiters c s.dispatcher.sequence c t v.sound.standing
        (record { from = known.0; to = known.1; runs = λ q. absurd (not-both (sym q)); later = λ q. absurd (not-both (sym q)); below = λ q. absurd (not-both (sym q)) }))

  -- ---- the call

  pub agree-terminate : Valid s → (status : ℕ) → Plainly (words.terminated w status) (step (call.Terminate status) s)
  unfolding words.terminated refusal terminate_refusal effect
  agree-terminate v status =
      plainly-unless w s a (call.Terminate status) (words.terminate_refusal w) (outcome answer.Done (awake (words.exited_words w (get_or w at.current 0) status))) refusal_is
      (λ q. record {
        answers = refl;
        agree = subst (λ (n : ℕ). Agree (awake (words.exited_words w n status)) (with_dispatcher s (wake (terminated s.dispatcher status)))) (sym (a.numbers at.current c refl))
            (agree-exited v (eqb-false c 0 (runs (eqb c 0) q)) status);
      })
    where
      runs : (b : Bool) → ◌≡◌ {A = ℕ} (cond b 3 (cond (owns_mutex l c) 10 0)) 0 → b ≡ false
      runs true z = absurd (let e : ◌≡◌ {A = ℕ} 3 0 = z in omega arith)
      runs false z = refl
