-- Counts of a table of DPCs: a queue without repeats that has exactly the queued DPCs is as long as they are many.
use Prim.Native.Nat.{ℕ, ◌+◌, ◌<◌}
use mathlib.Core.List.{List, [], ◌∷◌}
use mathlib.Core.Bool.{Bool, cond, true, false, not}
use mathlib.Core.Option.{Option, none, some}
use mathlib.Core.Path.{◌≡◌, refl, sym, ap, ◌∙◌, subst}
use mathlib.Core.Logic.{inl, inr}
use native.Mathlib.Omega.{arith}
use native.Mathlib.Decide.{ℕ_discrete}
use borrow.Author.Tests.{eq-eqb, ne_eqb}
use lib.ListN.{length}
use lib.Dec.{eqb}
use Rattle.images.specs.declared.Dpc.{Dpc}
use Rattle.images.specs.declared.DpcPhase.TheVariants.{Idle}
use Rattle.model.specs.Lists.{Mem, Distinct, member, count_of, without, given, first_of}
use Rattle.model.specs.Table.{Rising, Above}
use Rattle.model.specs.Dpcs.{address_of, dpc_at, phase_at, is_queued}
use Rattle.model.proofs.ListLaws.{not-both, member-mem, member-not, mem-member, length_without, without-absent, distinct-keep, out-own, out-other}
use Rattle.model.proofs.TableLaws.{absent, none-some}

above-mem : (k : ℕ) (l : List Dpc) → Above address_of k l → (x : Dpc) → Mem x l → k < x.address
above-mem k [] h x m = absurd m
above-mem k (y ∷ l) h x (inl e) = subst (λ (z : Dpc). k < z.address) (sym e) h.0
above-mem k (y ∷ l) h x (inr m) = above-mem k l h.1 x m

pub queue-length : (table : List Dpc) → Rising address_of table → (queue : List ℕ) → Distinct queue → ((b : ℕ) → member b queue ≡ is_queued (phase_at table b))
    → length queue ≡ count_of (λ (d : Dpc). is_queued d.phase) table
queue-length [] r [] o h = refl
queue-length [] r (x ∷ queue) o h = absurd (not-both (sym (mem-member x (x ∷ queue) (inl refl)) ∙ h x))
queue-length (d ∷ table) r queue o h =
    go (is_queued d.phase) refl (queue-length table r.1 (without d.address queue) (distinct-keep (λ x. not (eqb x d.address)) queue o) (λ b. others b (ℕ_discrete b d.address)))
  where
    own : member d.address queue ≡ is_queued d.phase
    own = h d.address ∙ ap (λ (b : Bool). is_queued (given (cond b (some d) (dpc_at table d.address)) Idle (λ (x : Dpc). x.phase))) (eq-eqb d.address d.address refl)

    gone : dpc_at table d.address ≡ none
    gone = absent address_of table d.address (λ x m e. omega (arith, e, above-mem d.address table r.0 x m))

    others : (b : ℕ) → Dec (b ≡ d.address) → member b (without d.address queue) ≡ is_queued (phase_at table b)
    others b (yes e) =
        subst (λ (c : ℕ). member c (without d.address queue) ≡ is_queued (phase_at table c)) (sym e)
        (out-own d.address queue ∙ ap (λ (x : Option Dpc). is_queued (given x Idle (λ (y : Dpc). y.phase))) (sym gone))
    others b (no e) =
        out-other b d.address queue e ∙ h b
        ∙ ap (λ (t : Bool). is_queued (given (cond t (some d) (dpc_at table b)) Idle (λ (x : Dpc). x.phase))) (ne_eqb d.address b (λ q. e (sym q)))

    rest : ℕ
    rest = count_of (λ (x : Dpc). is_queued x.phase) table

    go : (q : Bool) → is_queued d.phase ≡ q → length (without d.address queue) ≡ rest → length queue ≡ cond (is_queued d.phase) 1 0 + rest
    go true e ih =
        (let z : length queue ≡ 1 + rest = omega (arith, ih, length_without d.address queue o (member-mem d.address queue (own ∙ e))) in z)
        ∙ ap (λ (b : Bool). cond b 1 0 + rest) (sym e)
    go false e ih =
        (let z : length queue ≡ 0 + rest = omega (arith, ih, ap length (without-absent d.address queue (member-not d.address queue (own ∙ e)))) in z)
        ∙ ap (λ (b : Bool). cond b 1 0 + rest) (sym e)

-- ---- counts

module _ {A : Type 0} where
  pub count_same : (f g : A → Bool) (l : List A) → ((x : A) → f x ≡ g x) → count_of f l ≡ count_of g l
  count_same f g [] h = refl
  count_same f g (x ∷ l) h = ap (λ (b : Bool). cond b 1 0 + count_of f l) (h x) ∙ ap (λ (n : ℕ). cond (g x) 1 0 + n) (count_same f g l h)

  -- of two tests that never pass together
  pub count-either : (f g h : A → Bool) (l : List A) → ((x : A) → cond (h x) 1 0 ≡ cond (f x) 1 0 + cond (g x) 1 0) → count_of h l ≡ count_of f l + count_of g l
  count-either f g h [] e = refl
  count-either f g h (x ∷ l) e = omega (arith, e x, count-either f g h l e)

  pub count_none : (f : A → Bool) (l : List A) → first_of f l ≡ none → count_of f l ≡ 0
  count_none f [] e = refl
  count_none f (x ∷ l) e = go (f x) refl e (count_none f l)
    where
      go : (b : Bool) → f x ≡ b → cond b (some x) (first_of f l) ≡ none → (first_of f l ≡ none → count_of f l ≡ 0) → cond (f x) 1 0 + count_of f l ≡ 0
      go true q h ih = absurd (none-some x (sym h))
      go false q h ih = ap (λ (b : Bool). cond b 1 0 + count_of f l) q ∙ (let z : 0 + count_of f l ≡ 0 = omega (arith, ih h) in z)
