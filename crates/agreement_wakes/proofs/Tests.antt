-- One object as a list names it: the words say of it what the log says.
use Prim.Native.Nat.{ℕ, ◌+◌, ◌*◌}
use mathlib.Core.List.{List}
use mathlib.Core.Bool.{Bool, true, false, cond, not}
use mathlib.Core.Option.{Option, none, some}
use mathlib.Core.Path.{◌≡◌, refl, sym, ap, ◌∙◌}
use native.Mathlib.Omega.{arith}
use borrow.Author.Tests.{eq-eqb, ne_eqb, eqb-true}
use lib.ListN.{get_or}
use lib.Dec.{eqb}
use Rattle.words.specs.Layout as at
use Rattle.objects.specs.Objects.{place_of}
use Rattle.waits.specs.Object as words
use Rattle.model.specs.Lists.{given, present}
use Rattle.model.specs.State.{State, Status, running, ready, waiting, exited, Named, Mutex, Object, mutex, event, timer}
use Rattle.model.specs.Threads.{is_thread, has_exited, status_of}
use Rattle.model.specs.Waits.{key_of, kind_of, object_at, mutex_at, of_kind, named_in, exists, is_free, is_available}
use Rattle.model.specs.Refusal.{is_own}
use Rattle.model.proofs.TableLaws.{none-some}
use Rattle.model.proofs.ObjectLaws.{mutex-found, mutex-absent, of-kind}
use Rattle.model.proofs.SoundLaws.{thread-is}
use Rattle.agreement_tables.specs.Tables.{below}
use Rattle.agreement.specs.Records.{flag, status_number}
use Rattle.agreement.specs.Agree.{objects_from, Agreeing}
use Rattle.agreement.proofs.Records.{flag-read}
use Rattle.agreement.proofs.Lookups.{known_is, thread-word-is, place-of, object-row}

exited-number : (x : Status) → eqb (status_number x) 4 ≡ has_exited x
exited-number running = refl
exited-number ready = refl
exited-number (waiting x) = refl
exited-number (exited n) = refl

module _ (w : List ℕ) (s : State) (holder : ℕ → ℕ) (active : ℕ) (a : Agreeing w s holder active) where
  abbrev l : List Object
  l = s.dispatcher.objects

  -- where the record with a key stands
  abbrev pub place_in : ℕ → ℕ
  place_in key = objects_from s.limits + 32 * below key_of key s.dispatcher.objects

  -- ---- an object that a list means, and one that is not there

  pub place_none : (n : Named) → named_in s.dispatcher.objects n ≡ none → place_of w n.kind n.key ≡ 0
  place_none n e = place-of w s holder active a n.kind n.key ∙ go (object_at l n.key) e
    where
      go : (o : Option Object) → of_kind n.kind o ≡ none → given o 0 (λ x. cond (eqb (kind_of x) n.kind) (place_in n.key) 0) ≡ 0
      go none q = refl
      go (some x) q = by (eqb (kind_of x) n.kind) q
        where
          by : (b : Bool) → cond b (some x) none ≡ none → cond b (place_in n.key) 0 ≡ 0
          by true q = absurd (none-some x (sym q))
          by false q = refl

  pub place-some : (n : Named) (o : Object) → named_in s.dispatcher.objects n ≡ some o
      → (place_of w n.kind n.key ≡ place_in n.key) × (n.kind ≡ kind_of o) × (object_at s.dispatcher.objects n.key ≡ some o)
  place-some n o e =
      let f = of-kind n.kind (object_at l n.key) o e in
      let k = kind (eqb (kind_of o) n.kind) refl (sym (ap (of_kind n.kind) f) ∙ e) in (
        place-of w s holder active a n.kind n.key
            ∙ ap (λ (x : Option Object). given x 0 (λ y. cond (eqb (kind_of y) n.kind) (place_in n.key) 0)) f
            ∙ ap (λ (b : Bool). cond b (place_in n.key) 0) (eq-eqb (kind_of o) n.kind (sym k)),
        k,
        f,
      )
    where
      kind : (b : Bool) → eqb (kind_of o) n.kind ≡ b → cond b (some o) none ≡ some o → n.kind ≡ kind_of o
      kind true q z = sym (eqb-true (kind_of o) n.kind q)
      kind false q z = absurd (none-some o z)

  pub place-there : (k : ℕ) → eqb (place_in k) 0 ≡ false
  place-there k = ne_eqb (place_in k) 0 (λ q. omega arith)

  -- ---- whether it exists

  pub valid-is : (n : Named) → words.valid w n.kind n.key ≡ exists s.dispatcher n
  unfolding words.valid
  valid-is n =
      ap (λ (b : Bool). cond (eqb n.kind 3) b (not (eqb (place_of w n.kind n.key) 0))) (known_is w s holder active a n.key)
      ∙ ap (λ (b : Bool). cond (eqb n.kind 3) (is_thread s.dispatcher n.key) b) (go (named_in l n) refl)
    where
      go : (o : Option Object) → named_in l n ≡ o → not (eqb (place_of w n.kind n.key) 0) ≡ present (named_in l n)
      go none e = ap (λ (p : ℕ). not (eqb p 0)) (place_none n e) ∙ sym (ap (λ (x : Option Object). present x) e)
      go (some o) e = ap (λ (p : ℕ). not (eqb p 0)) (place-some n o e).0 ∙ ap not (place-there n.key) ∙ sym (ap (λ (x : Option Object). present x) e)

  -- ---- whether it is available

  pub exited-is : (id : ℕ) → words.exited w id ≡ cond (is_thread s.dispatcher id) (has_exited (status_of s.dispatcher id)) false
  unfolding words.exited
  exited-is id =
      ap (λ (b : Bool). cond b (eqb (get_or w (at.thread_at id + at.state) 0) 4) false) (known_is w s holder active a id) ∙ go (is_thread s.dispatcher id) refl
    where
      go : (b : Bool) → is_thread s.dispatcher id ≡ b → cond b (eqb (get_or w (at.thread_at id + at.state) 0) 4) false ≡ cond b (has_exited (status_of s.dispatcher id)) false
      go true e =
          let r = thread-is s.dispatcher id e in
          ap (λ (v : ℕ). eqb v 4) (thread-word-is w s holder active a id r.0 r.1 1 (status_number (status_of s.dispatcher id)) refl)
          ∙ exited-number (status_of s.dispatcher id)
      go false e = refl

  free-is : (o : Object) (key : ℕ) → object_at s.dispatcher.objects key ≡ some o
      → cond (eqb (kind_of o) 0) (eqb (get_or w (place_in key + 4) 0) 0) (not (eqb (get_or w (place_in key + 3) 0) 0)) ≡ is_free o
  free-is (mutex m) key f = ap (λ (v : ℕ). eqb v 0) (object-row w s holder active a key (mutex m) f 4 m.owner refl)
  free-is (event v) key f = ap (λ (z : ℕ). not (eqb z 0)) (object-row w s holder active a key (event v) f 3 (flag v.signaled) refl) ∙ flag-read v.signaled
  free-is (timer t) key f = ap (λ (z : ℕ). not (eqb z 0)) (object-row w s holder active a key (timer t) f 3 (flag t.signaled) refl) ∙ flag-read t.signaled

  pub available-is : (n : Named) → words.available w n.kind n.key ≡ is_available s.dispatcher n
  unfolding words.available
  available-is n =
      ap (λ (b : Bool). cond (eqb n.kind 3) b (free_at (place_of w n.kind n.key) n.kind)) (exited-is n.key)
      ∙ ap (λ (b : Bool). cond (eqb n.kind 3) (cond (is_thread s.dispatcher n.key) (has_exited (status_of s.dispatcher n.key)) false) b) (go (named_in l n) refl)
    where
      free_at : ℕ → ℕ → Bool
      free_at place kind = cond (eqb place 0) false (cond (eqb kind 0) (eqb (get_or w (place + at.owner) 0) 0) (not (eqb (get_or w (place + at.signaled) 0) 0)))

      go : (o : Option Object) → named_in l n ≡ o → free_at (place_of w n.kind n.key) n.kind ≡ given (named_in l n) false is_free
      go none e = ap (λ (p : ℕ). free_at p n.kind) (place_none n e) ∙ sym (ap (λ (x : Option Object). given x false is_free) e)
      go (some o) e =
          let h = place-some n o e in
          ap (λ (p : ℕ). free_at p n.kind) h.0
          ∙ ap (λ (b : Bool). cond b false (cond (eqb n.kind 0) (eqb (get_or w (place_in n.key + 4) 0) 0) (not (eqb (get_or w (place_in n.key + 3) 0) 0)))) (place-there n.key)
          ∙ ap (λ (k : ℕ). cond (eqb k 0) (eqb (get_or w (place_in n.key + 4) 0) 0) (not (eqb (get_or w (place_in n.key + 3) 0) 0))) h.1
          ∙ free-is o n.key h.2
          ∙ sym (ap (λ (x : Option Object). given x false is_free) e)

  -- ---- whether it is a mutex of the current thread's

  pub owned-is : (n : Named) → words.owned_by w s.dispatcher.current n.kind n.key ≡ is_own s.dispatcher n
  unfolding words.owned_by
  owned-is n = go (eqb n.kind 0) refl
    where
      id : ℕ
      id = s.dispatcher.current

      by : (o : Option Mutex) → mutex_at l n.key ≡ o
          → cond (eqb (place_of w 0 n.key) 0) false (eqb (get_or w (place_of w 0 n.key + at.owner) 0) id) ≡ given o false (λ (m : Mutex). eqb m.owner id)
      by none e = ap (λ (p : ℕ). cond (eqb p 0) false (eqb (get_or w (p + at.owner) 0) id)) (place_none (record { kind = 0; key = n.key }) (mutex-absent (object_at l n.key) e))
      by (some m) q =
          let e = mutex-found (object_at l n.key) m q in
          let h = place-some (record { kind = 0; key = n.key }) (mutex m) (ap (of_kind 0) e) in
          ap (λ (p : ℕ). cond (eqb p 0) false (eqb (get_or w (p + at.owner) 0) id)) h.0
          ∙ ap (λ (b : Bool). cond b false (eqb (get_or w (place_in n.key + 4) 0) id)) (place-there n.key)
          ∙ ap (λ (v : ℕ). eqb v id) (object-row w s holder active a n.key (mutex m) e 4 m.owner refl)

      go : (b : Bool) → eqb n.kind 0 ≡ b
          → cond b (cond (eqb (place_of w n.kind n.key) 0) false (eqb (get_or w (place_of w n.kind n.key + at.owner) 0) id)) false
          ≡ cond b (given (mutex_at l n.key) false (λ (m : Mutex). eqb m.owner id)) false
      go true e =
          ap (λ (k : ℕ). cond (eqb (place_of w k n.key) 0) false (eqb (get_or w (place_of w k n.key + at.owner) 0) id)) (eqb-true n.kind 0 e)
          ∙ by (mutex_at l n.key) refl
      go false e = refl
