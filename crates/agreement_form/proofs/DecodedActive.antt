-- In words in form the active word names the DPC whose work is active.
use Prim.Native.Nat.{ℕ, ◌+◌, ◌≤◌}
use mathlib.Core.List.{List, [], ◌∷◌}
use mathlib.Core.Bool.{Bool, cond, true, false}
use mathlib.Core.Option.{Option, none, some}
use mathlib.Core.Path.{◌≡◌, refl, sym, ap, ◌∙◌, subst}
use mathlib.Core.Logic.{inl, inr}
use native.Mathlib.Omega.{arith}
use native.Mathlib.Decide.{ℕ_discrete}
use borrow.Author.Tests.{eqb-true, eqb-false, leb-true, ltb-false, ne_eqb, eq-eqb}
use lib.ListN.{get_or, length}
use lib.Dec.{eqb, leb, ltb}
use Rattle.words.specs.Layout as at
use Rattle.objects.specs.Objects.{dpc_found}
use Rattle.images.specs.declared.Dpc.{Dpc}
use Rattle.images.specs.declared.DpcPhase.{DpcPhase}
use Rattle.images.specs.declared.DpcPhase.TheVariants.{Idle, Queued, Running, Returning}
use Rattle.form_dpc.specs.Counts.{active_count, active_named, starts_pass}
use Rattle.model.specs.Lists.{Mem, count_of, given}
use Rattle.model.specs.Dpcs.{address_of, dpc_at, is_active, active_dpc}
use Rattle.model.proofs.TableLaws.{found, none-some}
use Rattle.agreement_tables.proofs.Lookups.{dpc-missing}
use Rattle.agreement.specs.Records.{phase_number, active_address}
use Rattle.agreement.specs.Agree.{Agreeing, dpcs_from}
use Rattle.agreement.proofs.Headers.{dpcs-few}
use Rattle.agreement.proofs.Lookups.{dpcs-base-is, dpc-keys, dpc-place, dpc-row}
use Rattle.agreement_form.specs.Decoded.{limits_of, table_of, decoded}
use Rattle.agreement_form.specs.Words.{Words}
use Rattle.agreement_form.proofs.Clauses.{not_first, both}
use Rattle.agreement_form.proofs.TimerRecords.{first-passing, first-is}
use Rattle.agreement_form.proofs.PhaseCounts.{active-count}
use Rattle.agreement_form.proofs.Parts.{Parts}
use Rattle.agreement_form.proofs.Told.{told, agreeing-told}

-- ---- counts of at most one

module _ {A : Type 0} (f : A → Bool) where
  pub count-some : (l : List A) (x : A) → Mem x l → f x ≡ true → 1 ≤ count_of f l
  count-some [] x m e = absurd m
  count-some (y ∷ l) x (inl q) e = subst (λ (b : Bool). 1 ≤ cond b 1 0 + count_of f l) (sym (ap f (sym q) ∙ e)) (omega arith)
  count-some (y ∷ l) x (inr m) e = omega (arith, count-some l x m e)

  pub count-one : (l : List A) → count_of f l ≤ 1 → (x y : A) → Mem x l → Mem y l → f x ≡ true → f y ≡ true → x ≡ y
  count-one [] h x y m n p q = absurd m
  count-one (z ∷ l) h x y (inl m) (inl n) p q = m ∙ sym n
  count-one (z ∷ l) h x y (inl m) (inr n) p q =
      let k : 1 + count_of f l ≤ 1 = subst (λ (b : Bool). cond b 1 0 + count_of f l ≤ 1) (ap f (sym m) ∙ p) h in
      absurd (omega (arith, k, count-some l y n q))
  count-one (z ∷ l) h x y (inr m) (inl n) p q =
      let k : 1 + count_of f l ≤ 1 = subst (λ (b : Bool). cond b 1 0 + count_of f l ≤ 1) (ap f (sym n) ∙ q) h in
      absurd (omega (arith, k, count-some l x m p))
  count-one (z ∷ l) h x y (inr m) (inr n) p q = count-one l (omega arith) x y m n p q

two-active : (p : DpcPhase) → 2 ≤ phase_number p → is_active p ≡ true
two-active Idle h = absurd (omega arith)
two-active (Queued x) h = absurd (omega arith)
two-active (Running x) h = refl
two-active (Returning x) h = refl

-- ---- the clause

pub record StartsForm (w : List ℕ) : Type 0 where
  pub one : active_count w ≤ 1
  pub started : get_or w at.started 0 ≡ get_or w at.restored 0 + active_count w
  pub idle : get_or w at.active 0 ≡ 0 → active_count w ≡ 0
  pub busy : (get_or w at.active 0 ≡ 0 → ⊥) → (dpc_found w (get_or w at.active 0) ≡ 0 → ⊥) × (2 ≤ get_or w (dpc_found w (get_or w at.active 0) + at.phase) 0)

pub starts-form : (w : List ℕ) → starts_pass w ≡ true → StartsForm w
unfolding starts_pass active_named
starts-form w e =
    let a = not_first (ltb 1 (active_count w)) (cond (eqb (get_or w at.started 0) (get_or w at.restored 0 + active_count w)) (active_named w) false) e in
    let b = both (eqb (get_or w at.started 0) (get_or w at.restored 0 + active_count w)) (active_named w) a.1 in
    record {
      one = ltb-false 1 (active_count w) a.0;
      started = eqb-true (get_or w at.started 0) (get_or w at.restored 0 + active_count w) b.0;
      idle = λ q. eqb-true (active_count w) 0 (ap (λ (t : Bool). cond t (eqb (active_count w) 0) (rest w)) (sym (eq-eqb (get_or w at.active 0) 0 q)) ∙ b.1);
      busy = λ q.
          let c = ap (λ (t : Bool). cond t (eqb (active_count w) 0) (rest w)) (sym (ne_eqb (get_or w at.active 0) 0 q)) ∙ b.1 in
          let d = not_first (eqb (dpc_found w (get_or w at.active 0)) 0) (leb 2 (get_or w (dpc_found w (get_or w at.active 0) + at.phase) 0)) c in
          (eqb-false (dpc_found w (get_or w at.active 0)) 0 d.0, leb-true 2 (get_or w (dpc_found w (get_or w at.active 0) + at.phase) 0) d.1);
    }
  where
    rest : List ℕ → Bool
    rest v = cond (eqb (dpc_found v (get_or v at.active 0)) 0) false (leb 2 (get_or v (dpc_found v (get_or v at.active 0) + at.phase) 0))

module _ (w : List ℕ) (words : Words w) (p : Parts w) where
  a₀ : Agreeing w (decoded w) (told w) (get_or w at.active 0)
  a₀ = agreeing-told w words p

  abbrev table : List Dpc
  table = table_of w

  -- a DPC that is found is one of the table
  pub found-there : (a : ℕ) → (dpc_found w a ≡ 0 → ⊥) → (d : Dpc) × (dpc_at table a ≡ some d)
  found-there a h = go (dpc_at table a) refl
    where
      go : (o : Option Dpc) → dpc_at table a ≡ o → (d : Dpc) × (dpc_at table a ≡ some d)
      go none e =
          absurd (h (dpc-missing address_of w (dpcs_from (limits_of w)) table (omega (arith, p.header.limits.threads, p.header.limits.objects)) (omega arith)
          (dpcs-base-is w (decoded w) (told w) (get_or w at.active 0) a₀) (a₀.numbers at.dpcs (length table) refl) (dpcs-few w (decoded w) (told w) (get_or w at.active 0) a₀) a₀.shape.dpcs.rising
          (dpc-keys w (decoded w) (told w) (get_or w at.active 0) a₀) a e))
      go (some d) e = (d, e)

  -- the DPC that the active word names
  named : (get_or w at.active 0 ≡ 0 → ⊥) → (d : Dpc) × (Mem d table) × (d.address ≡ get_or w at.active 0) × (is_active d.phase ≡ true)
  named h =
      let b = (starts-form w p.starts).busy h in
      let f = found-there (get_or w at.active 0) b.0 in
      let m = found address_of table (get_or w at.active 0) f.0 f.1 in
      let place = dpc-place w (decoded w) (told w) (get_or w at.active 0) a₀ (get_or w at.active 0) f.0 f.1 in
      let word = ap (λ (j : ℕ). get_or w (j + at.phase) 0) place ∙ dpc-row w (decoded w) (told w) (get_or w at.active 0) a₀ (get_or w at.active 0) f.0 f.1 1 (phase_number f.0.phase) refl in
      (f.0, m.0, m.1, two-active f.0.phase (omega (arith, word, b.1)))

  count : active_count w ≡ count_of (λ (d : Dpc). is_active d.phase) table
  count = active-count w (decoded w) (told w) (get_or w at.active 0) a₀

  pub active-told : get_or w at.active 0 ≡ active_address table
  active-told = go (active_dpc table) refl (ℕ_discrete (get_or w at.active 0) 0)
    where
      go : (o : Option Dpc) → active_dpc table ≡ o → Dec (get_or w at.active 0 ≡ 0) → get_or w at.active 0 ≡ active_address table
      go none e (yes q) = q ∙ ap (λ (o : Option Dpc). given o 0 (λ (d : Dpc). d.address)) (sym e)
      go none e (no q) =
          let n = named q in
          let f = first-passing (λ (d : Dpc). is_active d.phase) table n.0 n.1 n.3 in
          absurd (none-some f.0 (sym e ∙ f.1))
      go (some d) e (yes q) =
          let f = first-is (λ (x : Dpc). is_active x.phase) table d e in
          absurd (omega (arith, count, (starts-form w p.starts).idle q, count-some (λ (x : Dpc). is_active x.phase) table d f.0 f.1))
      go (some d) e (no q) =
          let f = first-is (λ (x : Dpc). is_active x.phase) table d e in
          let n = named q in
          let same = count-one (λ (x : Dpc). is_active x.phase) table (omega (arith, count, (starts-form w p.starts).one)) n.0 d n.1 f.0 n.3 f.1 in
          sym n.2 ∙ ap address_of same ∙ ap (λ (o : Option Dpc). given o 0 (λ (x : Dpc). x.address)) (sym e)
