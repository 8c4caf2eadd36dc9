-- The threads of the state that words in form tell, and their waits: rows, and what the log asks of a thread.
use Prim.Native.Nat.{ℕ, zero, suc, ◌+◌, ◌-◌, ◌*◌, ◌≤◌, ◌<◌}
use mathlib.Core.List.{List}
use mathlib.Core.Bool.{Bool, cond, true, false}
use mathlib.Core.Option.{none, some}
use mathlib.Core.Path.{◌≡◌, refl, sym, ap, ◌∙◌, subst}
use native.Mathlib.Omega.{arith}
use borrow.Author.Tests.{ne_eqb}
use lib.ListN.{get_or, length}
use lib.Dec.{eqb}
use Rattle.words.specs.Layout as at
use Rattle.model.specs.State.{Thread, Named, satisfied, timeout}
use Rattle.model.specs.Threads.{thread_at, no_one}
use Rattle.model.proofs.TableLaws.{none-some, some_same}
use Rattle.agreement.specs.Row.{Row}
use Rattle.agreement.specs.Records.{timed, status_number, exit_status, result_number, thread_row, terms_row, places_row}
use Rattle.agreement.specs.Shape.{WaitFits, StatusFits, ThreadFits, ThreadsFit}
use Rattle.agreement.specs.Agree.{Threads, Waits, WaitIs, WaitOf}
use Rattle.agreement_form.specs.Decoded.{each, named_at, deadline_at, wait_at, status_by, result_by, thread_by, threads_of}
use Rattle.agreement_form.proofs.Each.{flag-number, length-each, mem-each, read-each, read_past, From, row_from, ends, says, skips, may}
use Rattle.agreement_form.proofs.ThreadForm.{ThreadForm}

module _ (w : List ℕ) where
  -- ---- the list of threads

  pub thread-at : (i : ℕ) → 1 ≤ i → i ≤ get_or w at.threads 0 → thread_at (threads_of w) i ≡ thread_by w i
  thread-at zero one le = absurd (omega arith)
  thread-at (suc k) one le = read-each (thread_by w) (get_or w at.threads 0) 1 k no_one (omega arith) ∙ ap (thread_by w) (let z : 1 + k ≡ suc k = omega arith in z)

  pub thread-past : (i : ℕ) → get_or w at.threads 0 < i → thread_at (threads_of w) i ≡ no_one
  thread-past zero h = refl
  thread-past (suc k) h = read_past (thread_by w) (get_or w at.threads 0) 1 k no_one (omega arith)

  -- ---- numbers that tell a record

  pub status-number : (i n : ℕ) → 1 ≤ n → n ≤ 4 → status_number (status_by w i n) ≡ n
  status-number i zero p q = absurd (omega arith)
  status-number i (suc zero) p q = refl
  status-number i (suc (suc zero)) p q = refl
  status-number i (suc (suc (suc zero))) p q = refl
  status-number i (suc (suc (suc (suc zero)))) p q = refl
  status-number i (suc (suc (suc (suc (suc n))))) p q = absurd (omega arith)

  exit-status : (i n : ℕ) → 1 ≤ n → n ≤ 4 → ((n ≡ 4 → ⊥) → get_or w (at.thread_word at.status i) 0 ≡ 0) → get_or w (at.thread_word at.status i) 0 ≡ exit_status (status_by w i n)
  exit-status i zero p q h = absurd (omega arith)
  exit-status i (suc zero) p q h = h (λ e. omega arith)
  exit-status i (suc (suc zero)) p q h = h (λ e. omega arith)
  exit-status i (suc (suc (suc zero))) p q h = h (λ e. omega arith)
  exit-status i (suc (suc (suc (suc zero)))) p q h = refl
  exit-status i (suc (suc (suc (suc (suc n))))) p q h = absurd (omega arith)

  result-number : (n : ℕ) → result_number (result_by w n) ≡ n
  result-number zero = refl
  result-number (suc zero) = refl
  result-number (suc (suc n)) =
      ap (λ (b : Bool). result_number (cond b none (cond (eqb (suc (suc n)) 1) (some timeout) (some (satisfied (suc (suc n) - 2)))))) (ne_eqb (suc (suc n)) 0 (λ q. omega arith))
      ∙ ap (λ (b : Bool). result_number (cond b (some timeout) (some (satisfied (suc (suc n) - 2))))) (ne_eqb (suc (suc n)) 1 (λ q. omega arith))
      ∙ (let z : suc (suc n) - 2 + 2 ≡ suc (suc n) = omega arith in z)

  timed-number : (n t : ℕ) → n ≤ 1 → n ≡ timed (cond (eqb n 0) none (some t))
  timed-number zero t h = refl
  timed-number (suc zero) t h = refl
  timed-number (suc (suc n)) t h = absurd (omega arith)

  deadline-word : (b : Bool) (t n : ℕ) → cond b none (some t) ≡ some n → t ≡ n
  deadline-word true t n e = absurd (none-some n e)
  deadline-word false t n e = some_same t n e

  -- ---- rows

  at-word : (i j k : ℕ) → i ≡ j + k → get_or w (j + k) 0 ≡ get_or w i 0
  at-word i j k e = ap (λ (p : ℕ). get_or w p 0) (sym e)

  thread-row : (i : ℕ) → ThreadForm w i → Row w (at.thread_from i) (thread_row (thread_by w i))
  thread-row i t = row_from w (at.thread_from i) (thread_row (thread_by w i))
      (says (at-word (at.thread_from i) (at.thread_from i) 0 (omega arith))
      (says (at-word (at.thread_word at.state i) (at.thread_from i) 1 (omega arith) ∙ sym (status-number i (get_or w (at.thread_word at.state i) 0) t.one_state t.small-state))
      (skips (skips
      (says (at-word (at.thread_word at.result i) (at.thread_from i) 4 (omega arith) ∙ sym (result-number (get_or w (at.thread_word at.result i) 0)))
      (says (at-word (at.thread_word at.status i) (at.thread_from i) 5 (omega arith) ∙ exit-status i (get_or w (at.thread_word at.state i) 0) t.one_state t.small-state t.no-exit) ends))))))

  places-from : (place m j : ℕ) → From w place (2 * j) (places_row (each (named_at w place) m j))
  places-from place zero j = ends
  places-from place (suc m) j =
      says refl (says refl
      (subst (λ (k : ℕ). From w place k (places_row (each (named_at w place) m (j + 1)))) (let z : 2 * (j + 1) ≡ 2 * j + 1 + 1 = omega arith in z) (places-from place m (j + 1))))

  wait-is : (i : ℕ) → ThreadForm w i → WaitIs w i (wait_at w i)
  wait-is i t =
      record {
        terms = row_from w (at.thread_word at.wait_all i) (terms_row (wait_at w i))
            (says (at-word (at.thread_word at.wait_all i) (at.thread_word at.wait_all i) 0 (omega arith) ∙ flag-number (get_or w (at.thread_word at.wait_all i) 0) t.kept.all)
            (says (at-word (at.thread_word at.has_deadline i) (at.thread_word at.wait_all i) 1 (omega arith) ∙ timed-number (get_or w (at.thread_word at.has_deadline i) 0) (get_or w (at.thread_word at.deadline i) 0) t.kept.timed)
            (may (deadline_at w i) (λ n e. at-word (at.thread_word at.deadline i) (at.thread_word at.wait_all i) 2 (omega arith) ∙ deadline-word (eqb (get_or w (at.thread_word at.has_deadline i) 0) 0) (get_or w (at.thread_word at.deadline i) 0) n e)
            (says (at-word (at.thread_word at.wait_sequence i) (at.thread_word at.wait_all i) 3 (omega arith))
            (says (at-word (at.thread_word at.wait_count i) (at.thread_word at.wait_all i) 4 (omega arith) ∙ sym (length-each (named_at w (at.thread_word at.wait_places i)) (get_or w (at.thread_word at.wait_count i) 0) 0)) ends)))));
        places = row_from w (at.thread_word at.wait_places i) (places_row (wait_at w i).objects) (places-from (at.thread_word at.wait_places i) (get_or w (at.thread_word at.wait_count i) 0) 0);
      }

  wait-of : (i n : ℕ) → 1 ≤ n → n ≤ 4 → ThreadForm w i → WaitOf w i (status_by w i n)
  wait-of i zero p q t = absurd (omega arith)
  wait-of i (suc zero) p q t = tt
  wait-of i (suc (suc zero)) p q t = tt
  wait-of i (suc (suc (suc zero))) p q t = wait-is i t
  wait-of i (suc (suc (suc (suc zero)))) p q t = tt
  wait-of i (suc (suc (suc (suc (suc n))))) p q t = absurd (omega arith)

  -- ---- what fits

  pub wait-fits : (i : ℕ) → ThreadForm w i → WaitFits (wait_at w i)
  wait-fits i t =
      record {
        few = omega (arith, length-each (named_at w (at.thread_word at.wait_places i)) (get_or w (at.thread_word at.wait_count i) 0) 0, t.kept.count);
        kinds = λ n m.
            let h = mem-each (named_at w (at.thread_word at.wait_places i)) (get_or w (at.thread_word at.wait_count i) 0) 0 n m in
            subst (λ (x : Named). x.kind ≤ 3) (sym h.3) (t.kept.kinds h.0 (omega (arith, h.2)));
      }

  status-fits : (i n : ℕ) → 1 ≤ n → n ≤ 4 → ThreadForm w i → StatusFits (status_by w i n)
  status-fits i zero p q t = absurd (omega arith)
  status-fits i (suc zero) p q t = tt
  status-fits i (suc (suc zero)) p q t = tt
  status-fits i (suc (suc (suc zero))) p q t = wait-fits i t
  status-fits i (suc (suc (suc (suc zero)))) p q t = tt
  status-fits i (suc (suc (suc (suc (suc n))))) p q t = absurd (omega arith)

  module _ (forms : (i : ℕ) → 1 ≤ i → i ≤ get_or w at.threads 0 → ThreadForm w i) where
    size : length (threads_of w) ≡ get_or w at.threads 0
    size = length-each (thread_by w) (get_or w at.threads 0) 1

    pub threads-hold : Threads w (threads_of w)
    threads-hold i one le =
        let few : i ≤ get_or w at.threads 0 = omega (arith, size) in
        subst (λ (t : Thread). Row w (at.thread_from i) (thread_row t)) (sym (thread-at i one few)) (thread-row i (forms i one few))

    pub waits-hold : Waits w (threads_of w)
    waits-hold =
        record {
          kept = λ i one le. (forms i one (omega (arith, size))).kept;
          current = λ i one le.
              let few : i ≤ get_or w at.threads 0 = omega (arith, size) in
              let t = forms i one few in
              subst (λ (x : Thread). WaitOf w i x.status) (sym (thread-at i one few)) (wait-of i (get_or w (at.thread_word at.state i) 0) t.one_state t.small-state t);
        }

    pub threads_fit : ThreadsFit (threads_of w)
    threads_fit i one le =
        let few : i ≤ get_or w at.threads 0 = omega (arith, size) in
        let t = forms i one few in
        subst ThreadFits (sym (thread-at i one few))
        (record { one = t.one-priority; small = t.small-priority; wait = status-fits i (get_or w (at.thread_word at.state i) 0) t.one_state t.small-state t })
