-- What the waiting threads of the state that words in form tell wait for: the objects exist, none is named twice.
use Prim.Native.Nat.{ℕ, zero, suc, ◌+◌, ◌≤◌, ◌<◌}
use mathlib.Core.List.{List, []}
use mathlib.Core.Bool.{Bool, cond, true, false}
use mathlib.Core.Option.{none, some}
use mathlib.Core.Path.{◌≡◌, refl, sym, ap, ◌∙◌, subst}
use native.Mathlib.Omega.{arith}
use native.Mathlib.Decide.{ℕ_discrete}
use borrow.Author.Tests.{leb-true, leb-false, ne_eqb}
use lib.ListN.{get_or, length}
use lib.Dec.{leb}
use Rattle.words.specs.Layout as at
use Rattle.waits.specs.Object.{valid}
use Rattle.waits.specs.Lists.{kind_in, key_in, unknown_in, duplicate_in}
use Rattle.model.specs.Lists.{Mem, present}
use Rattle.model.specs.State.{Thread, Named}
use Rattle.model.specs.Threads.{status_of}
use Rattle.model.specs.Waits.{exists}
use Rattle.model.specs.Valid.{WaitValid, WaitingValid}
use Rattle.model.specs.Refusal.{has_duplicate}
use Rattle.model.proofs.ListLaws.{not-both}
use Rattle.agreement_form.specs.Decoded.{each, named_at, deadline_at, wait_at, status_by, decoded}
use Rattle.agreement_form.specs.Words.{Words}
use Rattle.agreement_form.proofs.Each.{length-each, each-nth, mem-each}
use Rattle.agreement_form.proofs.ThreadForm.{ThreadForm}
use Rattle.agreement_form.proofs.ThreadWaits.{Pairs, duplicate-is, valid-is}
use Rattle.agreement_form.proofs.DecodedThreads.{thread-at, thread-past, wait-fits}
use Rattle.agreement_form.proofs.Parts.{Parts}
use Rattle.agreement_form.proofs.Told.{told, agreeing-told}

-- no one of a list is unknown
known-each : (w : List ℕ) (place m i : ℕ) → unknown_in m w w place i ≡ false → (k : ℕ) → i ≤ k → k < i + m → valid w (kind_in w place k) (key_in w place k) ≡ true
unfolding unknown_in
known-each w place zero i e k p q = absurd (omega arith)
known-each w place (suc m) i e k p q =
    let h = split (valid w (kind_in w place i) (key_in w place i)) (unknown_in m w w place (i + 1)) e in
    go (ℕ_discrete i k) h.0 (λ r. known-each w place m (i + 1) h.1 k (omega arith) (omega arith))
  where
    split : (a b : Bool) → cond a b true ≡ false → (a ≡ true) × (b ≡ false)
    split true b u = (refl, u)
    split false b u = absurd (not-both u)

    go : Dec (i ≡ k) → valid w (kind_in w place i) (key_in w place i) ≡ true → ((i ≡ k → ⊥) → valid w (kind_in w place k) (key_in w place k) ≡ true) → valid w (kind_in w place k) (key_in w place k) ≡ true
    go (yes r) h ih = subst (λ (j : ℕ). valid w (kind_in w place j) (key_in w place j) ≡ true) r h
    go (no r) h ih = ih r

module _ (w : List ℕ) (words : Words w) (p : Parts w) where
  module _ (i : ℕ) (t : ThreadForm w i) (three : get_or w (at.thread_word at.state i) 0 ≡ 3) where
    abbrev place : ℕ
    place = at.thread_word at.wait_places i

    abbrev size : ℕ
    size = get_or w (at.thread_word at.wait_count i) 0

    abbrev objects : List Named
    objects = each (named_at w (at.thread_word at.wait_places i)) (get_or w (at.thread_word at.wait_count i) 0) 0

    pair-words : (k : ℕ) → (kind_in w place k ≡ (named_at w place k).kind) × (key_in w place k ≡ (named_at w place k).key)
    unfolding kind_in key_in
    pair-words k = (refl, refl)

    pairs : Pairs w place 0 objects
    pairs k n e =
        let h = each-nth (named_at w place) size 0 k n e in
        let q = pair-words (0 + k) in
        (q.0 ∙ ap (λ (x : Named). x.kind) (sym h.1), q.1 ∙ ap (λ (x : Named). x.key) (sym h.1))

    named-once : has_duplicate objects ≡ false
    named-once =
        sym (duplicate-is w place 0 objects pairs) ∙ ap (λ (m : ℕ). duplicate_in m w place 0) (length-each (named_at w place) size 0) ∙ t.once three

    exist : (n : Named) → Mem n objects → exists (decoded w).dispatcher n ≡ true
    exist n m =
        let h = mem-each (named_at w place) size 0 n m in
        let q = pair-words h.0 in
        let known = known-each w place size 0 (t.known three) h.0 h.1 h.2 in
        sym (valid-is w (decoded w) (told w) (get_or w at.active 0) (agreeing-told w words p) n)
        ∙ ap (λ (x : Named). valid w x.kind x.key) h.3
        ∙ ap (λ (k : ℕ). valid w k (named_at w place h.0).key) (sym q.0) ∙ ap (valid w (kind_in w place h.0)) (sym q.1) ∙ known

    delay : objects ≡ [] → present (deadline_at w i) ≡ true
    delay e =
        let none_named : size ≡ 0 = sym (length-each (named_at w place) size 0) ∙ ap length e in
        let timed = t.delay three none_named in
        ap (λ (b : Bool). present (cond b none (some (get_or w (at.thread_word at.deadline i) 0)))) (ne_eqb (get_or w (at.thread_word at.has_deadline i) 0) 0 (λ q. omega (arith, q, timed)))

    wait-valid : WaitValid (decoded w).dispatcher (wait_at w i)
    wait-valid = record { few = (wait-fits w i t).few; kinds = (wait-fits w i t).kinds; once = named-once; exist = exist; delay = delay }

  by_state : (i n : ℕ) → 1 ≤ n → n ≤ 4 → (n ≡ 3 → WaitValid (decoded w).dispatcher (wait_at w i)) → WaitingValid (decoded w).dispatcher (status_by w i n)
  by_state i zero a b h = absurd (omega arith)
  by_state i (suc zero) a b h = tt
  by_state i (suc (suc zero)) a b h = tt
  by_state i (suc (suc (suc zero))) a b h = h refl
  by_state i (suc (suc (suc (suc zero)))) a b h = tt
  by_state i (suc (suc (suc (suc (suc n))))) a b h = absurd (omega arith)

  pub waits-valid : (i : ℕ) → WaitingValid (decoded w).dispatcher (status_of (decoded w).dispatcher i)
  waits-valid zero = tt
  waits-valid (suc i) = go (leb (suc i) (get_or w at.threads 0)) refl
    where
      go : (b : Bool) → leb (suc i) (get_or w at.threads 0) ≡ b → WaitingValid (decoded w).dispatcher (status_of (decoded w).dispatcher (suc i))
      go true e =
          let le = leb-true (suc i) (get_or w at.threads 0) e in
          let t = p.threads (suc i) (omega arith) le in
          subst (λ (x : Thread). WaitingValid (decoded w).dispatcher x.status) (sym (thread-at w (suc i) (omega arith) le))
          (by_state (suc i) (get_or w (at.thread_word at.state (suc i)) 0) t.one_state t.small-state (wait-valid (suc i) t))
      go false e =
          subst (λ (x : Thread). WaitingValid (decoded w).dispatcher x.status) (sym (thread-past w (suc i) (leb-false (suc i) (get_or w at.threads 0) e))) tt
