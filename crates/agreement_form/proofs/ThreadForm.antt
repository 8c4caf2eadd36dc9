-- What the clauses on threads say of words in form.
use Prim.Native.Nat.{ℕ, zero, suc, ◌+◌, ◌*◌, ◌≤◌, ◌<◌}
use mathlib.Core.List.{List}
use mathlib.Core.Bool.{Bool, cond, true, false, not}
use mathlib.Core.Path.{◌≡◌, sym, ap, ◌∙◌, subst}
use native.Mathlib.Omega.{arith}
use native.Mathlib.Decide.{ℕ_discrete}
use borrow.Author.Tests.{eq-eqb, ne_eqb, eqb-true, leb-true, ltb-false, not-true, le-leb}
use lib.ListN.{get_or}
use lib.Dec.{eqb, leb, ltb}
use Rattle.words.specs.Layout as at
use Rattle.threads.specs.Thread.{thread_of, thread_count, count_of, places_at}
use Rattle.waits.specs.Lists.{kind_in, bad_kind_in, unknown_in, duplicate_in}
use Rattle.opening.specs.Open.{bad_priority}
use Rattle.form_threads.specs.Thread.{has_state, bad_state, record_passes, exit_passes, wait_passes, delay_passes, thread_numbers, runs_if_current, waits_for_known, waits_for_each_once, thread_passes, threads_in, threads_pass}
use Rattle.model.proofs.ListLaws.{neither}
use Rattle.agreement.specs.Agree.{WaitKept}
use Rattle.agreement.proofs.Places.{thread-place}
use Rattle.agreement_form.proofs.Clauses.{both, not_first, if-so, if-not}
use Rattle.agreement_form.proofs.HeaderForm.{Counted, thread-count}

pub record ThreadForm (w : List ℕ) (i : ℕ) : Type 0 where
  pub one-priority : 1 ≤ get_or w (at.thread_from i) 0
  pub small-priority : get_or w (at.thread_from i) 0 ≤ 31
  pub one_state : 1 ≤ get_or w (at.thread_word at.state i) 0
  pub small-state : get_or w (at.thread_word at.state i) 0 ≤ 4
  pub result : get_or w (at.thread_word at.result i) 0 ≤ 65
  pub status : get_or w (at.thread_word at.status i) 0 ≤ 4294967295
  pub no-exit : (get_or w (at.thread_word at.state i) 0 ≡ 4 → ⊥) → get_or w (at.thread_word at.status i) 0 ≡ 0
  pub kept : WaitKept w i
  pub delay : get_or w (at.thread_word at.state i) 0 ≡ 3 → get_or w (at.thread_word at.wait_count i) 0 ≡ 0 → get_or w (at.thread_word at.has_deadline i) 0 ≡ 1
  pub runs : eqb (get_or w at.current 0) i ≡ eqb (get_or w (at.thread_word at.state i) 0) 1
  pub known : get_or w (at.thread_word at.state i) 0 ≡ 3 → unknown_in (get_or w (at.thread_word at.wait_count i) 0) w w (at.thread_word at.wait_places i) 0 ≡ false
  pub once : get_or w (at.thread_word at.state i) 0 ≡ 3 → duplicate_in (get_or w (at.thread_word at.wait_count i) 0) w (at.thread_word at.wait_places i) 0 ≡ false

-- kinds of a list that stands in the words
kinds-form : (m : ℕ) (w : List ℕ) (place i : ℕ) → bad_kind_in m w place i ≡ false → (k : ℕ) → i ≤ k → k < i + m → get_or w (place + 2 * k) 0 ≤ 3
unfolding bad_kind_in kind_in
kinds-form zero w place i e k p q = absurd (omega arith)
kinds-form (suc m) w place i e k p q =
    let h = neither (ltb 3 (kind_in w place i)) (bad_kind_in m w place (i + 1)) e in
    go (ℕ_discrete i k) h.0 (λ r. kinds-form m w place (i + 1) h.1 k (omega arith) (omega arith))
  where
    go : Dec (i ≡ k) → ltb 3 (kind_in w place i) ≡ false → ((i ≡ k → ⊥) → get_or w (place + 2 * k) 0 ≤ 3) → get_or w (place + 2 * k) 0 ≤ 3
    go (yes r) b ih = subst (λ (j : ℕ). get_or w (place + 2 * j) 0 ≤ 3) r (ltb-false 3 (kind_in w place i) b)
    go (no r) b ih = ih r

module _ (w : List ℕ) (i : ℕ) (few : i ≤ at.most_threads) where
  word : (k j : ℕ) → at.thread_from i + k ≡ j → get_or w (at.thread_at i + k) 0 ≡ get_or w j 0
  word k j e = ap (λ (p : ℕ). get_or w (p + k) 0) (thread-place i few) ∙ ap (λ (p : ℕ). get_or w p 0) e

  pub state-word : (k : ℕ) → has_state w i k ≡ eqb (get_or w (at.thread_word at.state i) 0) k
  unfolding has_state
  state-word k = ap (λ (n : ℕ). eqb n k) (word 1 (at.thread_word at.state i) (omega arith))

  pub record Numbered : Type 0 where
    pub one-priority : 1 ≤ get_or w (at.thread_from i) 0
    pub small-priority : get_or w (at.thread_from i) 0 ≤ 31
    pub one_state : 1 ≤ get_or w (at.thread_word at.state i) 0
    pub small-state : get_or w (at.thread_word at.state i) 0 ≤ 4
    pub result : get_or w (at.thread_word at.result i) 0 ≤ 65
    pub status : get_or w (at.thread_word at.status i) 0 ≤ 4294967295

  record-form : record_passes w i ≡ true → Numbered
  unfolding record_passes bad_priority bad_state thread_of
  record-form e =
      let p = get_or w (at.thread_at i + at.priority) 0 in
      let st = get_or w (at.thread_at i + at.state) 0 in
      let r = get_or w (at.thread_at i + at.result) 0 in
      let x = get_or w (at.thread_at i + at.status) 0 in
      let a = not_first (bad_priority p) (cond (bad_state st) false (cond (ltb 65 r) false (leb x 4294967295))) e in
      let b = not_first (bad_state st) (cond (ltb 65 r) false (leb x 4294967295)) a.1 in
      let c = not_first (ltb 65 r) (leb x 4294967295) b.1 in
      let q = neither (ltb p 1) (ltb 31 p) a.0 in
      let t = neither (ltb st 1) (ltb 4 st) b.0 in
      record {
        one-priority = omega (arith, ltb-false p 1 q.0, word 0 (at.thread_from i) (omega arith));
        small-priority = omega (arith, ltb-false 31 p q.1, word 0 (at.thread_from i) (omega arith));
        one_state = omega (arith, ltb-false st 1 t.0, word 1 (at.thread_word at.state i) (omega arith));
        small-state = omega (arith, ltb-false 4 st t.1, word 1 (at.thread_word at.state i) (omega arith));
        result = omega (arith, ltb-false 65 r c.0, word 4 (at.thread_word at.result i) (omega arith));
        status = omega (arith, leb-true x 4294967295 c.1, word 5 (at.thread_word at.status i) (omega arith));
      }

  places : places_at i ≡ at.thread_word at.wait_places i
  unfolding places_at
  places = omega (arith, thread-place i few)

  count-form : get_or w (at.thread_word at.wait_count i) 0 ≤ 64 → count_of w i ≡ get_or w (at.thread_word at.wait_count i) 0
  unfolding count_of
  count-form h = simp (word at.wait_count (at.thread_word at.wait_count i) (omega arith), le-leb (get_or w (at.thread_word at.wait_count i) 0) 64 h)

  wait-form : wait_passes w i ≡ true → WaitKept w i
  unfolding wait_passes
  wait-form e =
      let x = get_or w (at.thread_at i + at.wait_all) 0 in
      let y = get_or w (at.thread_at i + at.has_deadline) 0 in
      let z = get_or w (at.thread_at i + at.wait_count) 0 in
      let a = not_first (ltb 1 x) (cond (ltb 1 y) false (cond (ltb 64 z) false (not (bad_kind_in (count_of w i) w (places_at i) 0)))) e in
      let b = not_first (ltb 1 y) (cond (ltb 64 z) false (not (bad_kind_in (count_of w i) w (places_at i) 0))) a.1 in
      let c = not_first (ltb 64 z) (not (bad_kind_in (count_of w i) w (places_at i) 0)) b.1 in
      let count : get_or w (at.thread_word at.wait_count i) 0 ≤ 64 = omega (arith, ltb-false 64 z c.0, word at.wait_count (at.thread_word at.wait_count i) (omega arith)) in
      let kinds = not-true (bad_kind_in (count_of w i) w (places_at i) 0) c.1 in
      record {
        all = omega (arith, ltb-false 1 x a.0, word at.wait_all (at.thread_word at.wait_all i) (omega arith));
        timed = omega (arith, ltb-false 1 y b.0, word at.has_deadline (at.thread_word at.has_deadline i) (omega arith));
        count = count;
        kinds = λ k h. subst (λ (p : ℕ). get_or w (p + 2 * k) 0 ≤ 3) places (kinds-form (count_of w i) w (places_at i) 0 kinds k (omega arith) (omega (arith, count-form count)));
      }

  delay-form : delay_passes w i ≡ true → get_or w (at.thread_word at.wait_count i) 0 ≤ 64 → get_or w (at.thread_word at.state i) 0 ≡ 3 → get_or w (at.thread_word at.wait_count i) 0 ≡ 0 → get_or w (at.thread_word at.has_deadline i) 0 ≡ 1
  unfolding delay_passes
  delay-form e few' q r =
      let a = if-so (has_state w i 3) (cond (eqb (count_of w i) 0) (eqb (get_or w (at.thread_at i + at.has_deadline) 0) 1) true) e (state-word 3 ∙ eq-eqb (get_or w (at.thread_word at.state i) 0) 3 q) in
      let b = if-so (eqb (count_of w i) 0) (eqb (get_or w (at.thread_at i + at.has_deadline) 0) 1) a (eq-eqb (count_of w i) 0 (count-form few' ∙ r)) in
      sym (word at.has_deadline (at.thread_word at.has_deadline i) (omega arith)) ∙ eqb-true (get_or w (at.thread_at i + at.has_deadline) 0) 1 b

  runs-form : runs_if_current w i ≡ true → eqb (get_or w at.current 0) i ≡ eqb (get_or w (at.thread_word at.state i) 0) 1
  unfolding runs_if_current
  runs-form e = go (eqb (get_or w at.current 0) i) e ∙ state-word 1
    where
      go : (b : Bool) → cond b (has_state w i 1) (not (has_state w i 1)) ≡ true → b ≡ has_state w i 1
      go true h = sym h
      go false h = sym (not-true (has_state w i 1) h)

  known-form : waits_for_known w i ≡ true → get_or w (at.thread_word at.wait_count i) 0 ≤ 64 → get_or w (at.thread_word at.state i) 0 ≡ 3 → unknown_in (get_or w (at.thread_word at.wait_count i) 0) w w (at.thread_word at.wait_places i) 0 ≡ false
  unfolding waits_for_known
  known-form e few' q =
      ap (λ (m : ℕ). unknown_in m w w (at.thread_word at.wait_places i) 0) (sym (count-form few')) ∙ ap (λ (p : ℕ). unknown_in (count_of w i) w w p 0) (sym places)
      ∙ not-true (unknown_in (count_of w i) w w (places_at i) 0)
      (if-so (has_state w i 3) (not (unknown_in (count_of w i) w w (places_at i) 0)) e (state-word 3 ∙ eq-eqb (get_or w (at.thread_word at.state i) 0) 3 q))

  once-form : waits_for_each_once w i ≡ true → get_or w (at.thread_word at.wait_count i) 0 ≤ 64 → get_or w (at.thread_word at.state i) 0 ≡ 3 → duplicate_in (get_or w (at.thread_word at.wait_count i) 0) w (at.thread_word at.wait_places i) 0 ≡ false
  unfolding waits_for_each_once
  once-form e few' q =
      ap (λ (m : ℕ). duplicate_in m w (at.thread_word at.wait_places i) 0) (sym (count-form few')) ∙ ap (λ (p : ℕ). duplicate_in (count_of w i) w p 0) (sym places)
      ∙ not-true (duplicate_in (count_of w i) w (places_at i) 0)
      (if-so (has_state w i 3) (not (duplicate_in (count_of w i) w (places_at i) 0)) e (state-word 3 ∙ eq-eqb (get_or w (at.thread_word at.state i) 0) 3 q))

  exit-form : exit_passes w i ≡ true → (get_or w (at.thread_word at.state i) 0 ≡ 4 → ⊥) → get_or w (at.thread_word at.status i) 0 ≡ 0
  unfolding exit_passes
  exit-form e q =
      let a = if-not (has_state w i 4) (eqb (get_or w (at.thread_at i + at.status) 0) 0) e (state-word 4 ∙ ne_eqb (get_or w (at.thread_word at.state i) 0) 4 q) in
      sym (word 5 (at.thread_word at.status i) (omega arith)) ∙ eqb-true (get_or w (at.thread_at i + at.status) 0) 0 a

  thread-form : thread_passes w i ≡ true → ThreadForm w i
  unfolding thread_passes thread_numbers
  thread-form e =
      let a = both (thread_numbers w i) (cond (runs_if_current w i) (cond (waits_for_known w i) (waits_for_each_once w i) false) false) e in
      let b = both (runs_if_current w i) (cond (waits_for_known w i) (waits_for_each_once w i) false) a.1 in
      let c = both (waits_for_known w i) (waits_for_each_once w i) b.1 in
      let d = both (record_passes w i) (cond (exit_passes w i) (cond (wait_passes w i) (delay_passes w i) false) false) a.0 in
      let x = both (exit_passes w i) (cond (wait_passes w i) (delay_passes w i) false) d.1 in
      let f = both (wait_passes w i) (delay_passes w i) x.1 in
      let r = record-form d.0 in
      let k = wait-form f.0 in
      record {
        one-priority = r.one-priority;
        small-priority = r.small-priority;
        one_state = r.one_state;
        small-state = r.small-state;
        result = r.result;
        status = r.status;
        no-exit = exit-form x.0;
        kept = k;
        delay = delay-form f.1 k.count;
        runs = runs-form b.0;
        known = known-form c.0 k.count;
        once = once-form c.1 k.count;
      }

-- ---- all of them

threads-in : (w : List ℕ) (m i : ℕ) → threads_in m w i ≡ true → (y : ℕ) → i ≤ y → y < i + m → thread_passes w y ≡ true
unfolding threads_in
threads-in w zero i e y p q = absurd (omega arith)
threads-in w (suc m) i e y p q =
    let h = both (thread_passes w i) (threads_in m w (i + 1)) e in
    go (ℕ_discrete i y) h.0 (λ r. threads-in w m (i + 1) h.1 y (omega arith) (omega arith))
  where
    go : Dec (i ≡ y) → thread_passes w i ≡ true → ((i ≡ y → ⊥) → thread_passes w y ≡ true) → thread_passes w y ≡ true
    go (yes r) h ih = subst (λ (j : ℕ). thread_passes w j ≡ true) r h
    go (no r) h ih = ih r

pub threads-form : (w : List ℕ) → Counted w → threads_pass w ≡ true → (i : ℕ) → 1 ≤ i → i ≤ get_or w at.threads 0 → ThreadForm w i
unfolding threads_pass
threads-form w c e i one le =
    thread-form w i (omega (arith, c.threads_fit, c.limits.threads))
    (threads-in w (thread_count w) 1 e i one (omega (arith, thread-count w c)))
