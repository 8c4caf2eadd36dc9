-- The records of threads in words that agree with a state in form pass the check.
use Prim.Native.Nat.{ℕ, zero, suc, ◌+◌, ◌*◌, ◌≤◌, ◌<◌}
use mathlib.Core.List.{List, [], ◌∷◌}
use mathlib.Core.Bool.{Bool, cond, true, false, not}
use mathlib.Core.Option.{Option, none, some}
use mathlib.Core.Path.{◌≡◌, refl, sym, ap, ◌∙◌, subst}
use native.Mathlib.Omega.{arith}
use borrow.Author.Tests.{eq-eqb, ne_eqb, le-leb, le-ltb, eqb-true, eqb-false}
use lib.ListN.{get_or, length}
use lib.Dec.{eqb}
use Rattle.words.specs.Layout as at
use Rattle.threads.specs.Thread as words
use Rattle.waits.specs.Lists.{kind_in, bad_kind_in}
use Rattle.opening.specs.Open.{bad_priority}
use Rattle.form_threads.specs.Thread.{has_state, bad_state, record_passes, exit_passes, wait_passes, delay_passes, thread_numbers, runs_if_current}
use Rattle.model.specs.Lists.{present}
use Rattle.model.specs.State.{State, Status, running, ready, waiting, exited, WaitResult, satisfied, timeout}
use Rattle.model.specs.Threads.{thread_of, status_of, is_running}
use Rattle.model.specs.Valid.{WaitingValid}
use Rattle.model.specs.Fits.{ResultFits, StatusFits}
use Rattle.model.proofs.ListLaws.{not-both}
use Rattle.agreement.specs.Records.{status_number, result_number, exit_status, timed, holder_of, active_address}
use Rattle.agreement.specs.Agree.{Agree, WaitKept}
use Rattle.agreement.proofs.Places.{thread-place}
use Rattle.agreement.proofs.Headers.{threads-few}
use Rattle.agreement.proofs.Lookups.{thread-is, thread-word-is, count-is, timed-is}
use Rattle.agreement_form.specs.Form.{Form}

-- ---- numbers of records

state-passes : (x : Status) → bad_state (status_number x) ≡ false
unfolding bad_state
state-passes running = refl
state-passes ready = refl
state-passes (waiting x) = refl
state-passes (exited n) = refl

result-passes : (r : Option WaitResult) → ResultFits r → result_number r ≤ 65
result-passes none h = omega arith
result-passes (some (satisfied i)) h = omega arith
result-passes (some timeout) h = omega arith

exit-passes : (x : Status) → StatusFits x → exit_status x ≤ 4294967295
exit-passes running h = omega arith
exit-passes ready h = omega arith
exit-passes (waiting x) h = omega arith
exit-passes (exited n) h = h

-- kinds of a list that stands in the words
kinds-pass : (m : ℕ) (w : List ℕ) (place i : ℕ) → ((k : ℕ) → k < i + m → kind_in w place k ≤ 3) → bad_kind_in m w place i ≡ false
unfolding bad_kind_in
kinds-pass zero w place i h = refl
kinds-pass (suc m) w place i h =
    ap (λ (t : Bool). cond t true (bad_kind_in m w place (i + 1))) (le-ltb 3 (kind_in w place i) (h i (omega arith))) ∙ kinds-pass m w place (i + 1) (λ k q. h k (omega arith))

timed-one : (o : Option ℕ) → present o ≡ true → timed o ≡ 1
timed-one none e = absurd (not-both (sym e))
timed-one (some t) e = refl

empty-list : {A : Type 0} (l : List A) → length l ≡ 0 → l ≡ []
empty-list [] e = refl
empty-list (x ∷ l) e = absurd (omega arith)

pub runs_number : (x : Status) → eqb (status_number x) 1 ≡ is_running x
runs_number running = refl
runs_number ready = refl
runs_number (waiting x) = refl
runs_number (exited n) = refl

module _ (w : List ℕ) (s : State) (a : Agree w s) (v : Form s) (id : ℕ) (one : 1 ≤ id) (le : id ≤ length s.dispatcher.threads) where
  few : id ≤ at.most_threads
  few = omega (arith, threads-few w s (holder_of s.dispatcher.objects) (active_address s.dpcs.table) a)

  pub has-state : (k : ℕ) → has_state w id k ≡ eqb (status_number (status_of s.dispatcher id)) k
  unfolding has_state
  has-state k = ap (λ (i : ℕ). eqb i k) (thread-word-is w s (holder_of s.dispatcher.objects) (active_address s.dpcs.table) a id one le 1 (status_number (status_of s.dispatcher id)) refl)

  record-passes : record_passes w id ≡ true
  unfolding record_passes bad_priority
  record-passes =
      let t = thread_of s.dispatcher id in
      let p = v.sound.priorities id one le in
      simp (
        thread-is w s (holder_of s.dispatcher.objects) (active_address s.dpcs.table) a id one le,
        le-ltb t.priority 1 p.0,
        le-ltb 31 t.priority p.1,
        state-passes t.status,
        le-ltb 65 (result_number t.result) (result-passes t.result (v.numbers.threads id).0),
        le-leb (exit_status t.status) 4294967295 (exit-passes t.status (v.numbers.threads id).1),
      )

  -- no exit, no exit status
  exit-none : exit_passes w id ≡ true
  unfolding exit_passes
  exit-none =
      ap (λ (t : Bool). cond t true (eqb (get_or w (at.thread_at id + at.status) 0) 0)) (has-state 4)
      ∙ ap (λ (n : ℕ). cond (eqb (status_number x) 4) true (eqb n 0)) (thread-word-is w s (holder_of s.dispatcher.objects) (active_address s.dpcs.table) a id one le 5 (exit_status x) refl)
      ∙ go x
    where
      x : Status
      x = status_of s.dispatcher id

      go : (x : Status) → cond (eqb (status_number x) 4) true (eqb (exit_status x) 0) ≡ true
      go running = refl
      go ready = refl
      go (waiting y) = refl
      go (exited n) = refl

  kept : WaitKept w id
  kept = a.waits.kept id one le

  at-word : (k j : ℕ) → at.thread_from id + k ≡ j → get_or w (at.thread_at id + k) 0 ≡ get_or w j 0
  at-word k j e = ap (λ (p : ℕ). get_or w (p + k) 0) (thread-place id few) ∙ ap (λ (p : ℕ). get_or w p 0) e

  count_kept : words.count_of w id ≡ get_or w (at.thread_word at.wait_count id) 0
  unfolding words.count_of
  count_kept = simp (at-word at.wait_count (at.thread_word at.wait_count id) (omega arith), le-leb (get_or w (at.thread_word at.wait_count id) 0) 64 kept.count)

  kind-kept : (k : ℕ) → k < 0 + words.count_of w id → kind_in w (words.places_at id) k ≤ 3
  unfolding kind_in words.places_at
  kind-kept k h =
      subst (λ (p : ℕ). get_or w p 0 ≤ 3) (let e : at.thread_word at.wait_places id + 2 * k ≡ at.thread_at id + at.wait_places + 2 * k = omega (arith, thread-place id few) in e)
      (kept.kinds k (omega (arith, count_kept)))

  wait-passes : wait_passes w id ≡ true
  unfolding wait_passes
  wait-passes =
      simp (
        at-word at.wait_all (at.thread_word at.wait_all id) (omega arith),
        at-word at.has_deadline (at.thread_word at.has_deadline id) (omega arith),
        at-word at.wait_count (at.thread_word at.wait_count id) (omega arith),
        le-ltb 1 (get_or w (at.thread_word at.wait_all id) 0) kept.all,
        le-ltb 1 (get_or w (at.thread_word at.has_deadline id) 0) kept.timed,
        le-ltb 64 (get_or w (at.thread_word at.wait_count id) 0) kept.count,
        kinds-pass (words.count_of w id) w (words.places_at id) 0 kind-kept,
      )

  delay-passes : delay_passes w id ≡ true
  unfolding delay_passes
  delay-passes = ap (λ (t : Bool). cond t (cond (eqb (words.count_of w id) 0) (eqb (get_or w (at.thread_at id + at.has_deadline) 0) 1) true) true) (has-state 3) ∙ go (status_of s.dispatcher id) refl
    where
      go : (x : Status) → status_of s.dispatcher id ≡ x
          → cond (eqb (status_number (status_of s.dispatcher id)) 3) (cond (eqb (words.count_of w id) 0) (eqb (get_or w (at.thread_at id + at.has_deadline) 0) 1) true) true ≡ true
      go running e = simp e
      go ready e = simp e
      go (exited m) e = simp e
      go (waiting x) e =
          ap (λ (y : Status). cond (eqb (status_number y) 3) (cond (eqb (words.count_of w id) 0) (eqb (get_or w (at.thread_at id + at.has_deadline) 0) 1) true) true) e ∙ last (eqb (words.count_of w id) 0) refl
        where
          last : (b : Bool) → eqb (words.count_of w id) 0 ≡ b → cond (eqb (words.count_of w id) 0) (eqb (get_or w (at.thread_at id + at.has_deadline) 0) 1) true ≡ true
          last false q = simp q
          last true q =
              let h = holder_of s.dispatcher.objects in
              let act = active_address s.dpcs.table in
              let none_named = empty-list x.objects (sym (count-is w s h act a id one le x e) ∙ eqb-true (words.count_of w id) 0 q) in
              let valid = subst (WaitingValid s.dispatcher) e (v.sound.waits id) in
              simp (q, timed-is w s h act a id one le x e, timed-one x.deadline (valid.delay none_named))

  pub thread-numbers : thread_numbers w id ≡ true
  unfolding thread_numbers
  thread-numbers = simp (record-passes, exit-none, wait-passes, delay-passes)

  pub runs-if-current : runs_if_current w id ≡ true
  unfolding runs_if_current
  runs-if-current =
      ap (λ (c : ℕ). cond (eqb c id) (has_state w id 1) (not (has_state w id 1))) (a.numbers at.current s.dispatcher.current refl)
      ∙ ap (λ (b : Bool). cond (eqb s.dispatcher.current id) b (not b)) (has-state 1 ∙ runs_number (status_of s.dispatcher id) ∙ sym (v.sound.standing.current_runs id one))
      ∙ go (eqb s.dispatcher.current id) refl
    where
      go : (b : Bool) → eqb s.dispatcher.current id ≡ b → cond (eqb s.dispatcher.current id) (eqb id s.dispatcher.current) (not (eqb id s.dispatcher.current)) ≡ true
      go true q = simp (q, eq-eqb id s.dispatcher.current (sym (eqb-true s.dispatcher.current id q)))
      go false q = simp (q, ne_eqb id s.dispatcher.current (λ z. eqb-false s.dispatcher.current id q (sym z)))
