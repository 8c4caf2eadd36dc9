-- The wait for a list of pairs, as the words write it and as the log keeps it.
use Prim.Native.Nat.{ℕ, zero, suc, ◌+◌, ◌*◌, ◌≤◌, ◌<◌}
use mathlib.Core.List.{List, [], ◌∷◌}
use mathlib.Core.Bool.{Bool, true, false}
use mathlib.Core.Option.{Option, some}
use mathlib.Core.Logic.{inl, inr}
use mathlib.Core.Path.{◌≡◌, refl, sym, ap, ◌∙◌, subst}
use native.Mathlib.Omega.{arith}
use native.Mathlib.Decide.{ℕ_discrete}
use borrow.Author.Tests.{ltb-false}
use lib.ListN.{get_or, set, length, length-set}
use Rattle.answers.specs.Outcome.{bit}
use Rattle.threads.specs.Thread.{filled, recorded}
use Rattle.waits.specs.Lists.{kind_in}
use Rattle.model.specs.Lists.{Mem}
use Rattle.model.specs.State.{Dispatcher, Named}
use Rattle.model.specs.Waits.{no_object}
use Rattle.model.specs.Refusal.{pairs}
use Rattle.model.proofs.ListLaws.{any_false}
use Rattle.agreement_chains.proofs.Frames.{read-other, read_same}
use Rattle.agreement.specs.Row.{Row}
use Rattle.agreement.specs.Records.{places_row, timed}
use Rattle.agreement.specs.Shape.{WaitFits}
use Rattle.agreement.proofs.Rows.{says-short}
use Rattle.agreement.proofs.Frames.{length-places}
use Rattle.agreement.proofs.Waits.{Stored, InForm}
use Rattle.agreement_wakes.proofs.Lists.{pairs-row, pair_read}
use Rattle.agreement_waits.proofs.Parked.{new_wait}
use Rattle.agreement_waits.proofs.Listing.{Good, over_kind}

-- ---- the first words of a list in an array of 128

filled-length : (k : ℕ) (list : List ℕ) → length (filled k list) ≡ 128
unfolding filled
filled-length zero list = refl
filled-length (suc k) list = length-set (filled k list) k (get_or list k 0) ∙ filled-length k list

filled-read : (k : ℕ) (list : List ℕ) (j : ℕ) → k ≤ 128 → j < k → get_or (filled k list) j 0 ≡ get_or list j 0
unfolding filled
filled-read zero list j h l = absurd (omega arith)
filled-read (suc k) list j h l = go (ℕ_discrete j k) (filled-read k list j (omega arith))
  where
    go : Dec (j ≡ k) → (j < k → get_or (filled k list) j 0 ≡ get_or list j 0) → get_or (set (filled k list) k (get_or list k 0)) j 0 ≡ get_or list j 0
    go (yes e) r =
        ap (λ (i : ℕ). get_or (set (filled k list) k (get_or list k 0)) i 0) e ∙ read_same (filled k list) k (get_or list k 0) (omega (arith, filled-length k list))
        ∙ ap (λ (i : ℕ). get_or list i 0) (sym e)
    go (no n) r = read-other (filled k list) k j (get_or list k 0) n ∙ r (omega (arith, n))

filled_row : (list : List ℕ) → length (pairs list) ≤ 64 → Row (filled (2 * length (pairs list)) list) 0 (places_row (pairs list))
filled_row list few k n e =
    filled-read (2 * length (pairs list)) list (0 + k) (omega arith) (omega (arith, says-short (places_row (pairs list)) k n e, length-places (pairs list)))
    ∙ pairs-row list k n e

-- ---- kinds

get-mem : (l : List Named) (i : ℕ) → i < length l → Mem (get_or l i no_object) l
get-mem [] i h = absurd (omega arith)
get-mem (x ∷ xs) zero h = inl refl
get-mem (x ∷ xs) (suc i) h = inr (get-mem xs i (omega arith))

small-kind : (list : List ℕ) → Good list → (n : Named) → Mem n (pairs list) → n.kind ≤ 3
small-kind list g n m = ltb-false 3 n.kind (any_false over_kind (pairs list) g.kinds n m)

read-kind : (list : List ℕ) → Good list → (k : ℕ) → k < length (pairs list) → get_or (filled (2 * length (pairs list)) list) (2 * k) 0 ≤ 3
unfolding kind_in
read-kind list g k h =
    subst (λ (n : ℕ). n ≤ 3) (sym (filled-read (2 * length (pairs list)) list (2 * k) (omega (arith, g.few)) (omega arith) ∙ same))
    (small-kind list g (get_or (pairs list) k no_object) (get-mem (pairs list) k h))
  where
    same : get_or list (2 * k) 0 ≡ (get_or (pairs list) k no_object).kind
    same = ap (λ (i : ℕ). get_or list i 0) (let e : 2 * k ≡ 0 + 2 * k = omega arith in e) ∙ (pair_read list 0 (pairs list) k (pairs-row list) h).0

-- ---- the wait

module _ (d : Dispatcher) (list : List ℕ) (g : Good list) (all timedly : Bool) (deadline : ℕ) (ends : Option ℕ) (n sequence : ℕ)
    (count : n ≡ length (pairs list)) (next : sequence ≡ d.sequence) (is-timed : bit timedly ≡ timed ends) (is-deadline : (t : ℕ) → ends ≡ some t → deadline ≡ t) where
  bit-small : (b : Bool) → bit b ≤ 1
  bit-small true = omega arith
  bit-small false = omega arith

  pub recorded-stored : Stored (recorded list n (bit all) (bit timedly) deadline sequence) (new_wait d (pairs list) all ends)
  unfolding recorded
  recorded-stored = record {
    of-all = refl;
    of-timed = is-timed;
    of-deadline = is-deadline;
    of-sequence = next;
    of-count = count;
    of_places = subst (λ (m : ℕ). Row (filled (2 * m) list) 0 (places_row (pairs list))) (sym count) (filled_row list g.few);
  }

  pub recorded-form : InForm (recorded list n (bit all) (bit timedly) deadline sequence)
  unfolding recorded
  recorded-form = record {
    of-all = bit-small all;
    of-timed = bit-small timedly;
    few = subst (λ (m : ℕ). m ≤ 64) (sym count) g.few;
    kinds = λ k h. subst (λ (m : ℕ). get_or (filled (2 * m) list) (2 * k) 0 ≤ 3) (sym count) (read-kind list g k (subst (λ (m : ℕ). k < m) count h));
  }

  pub recorded-fits : WaitFits (new_wait d (pairs list) all ends)
  recorded-fits = record { few = g.few; kinds = small-kind list g }
