-- The list of a wait, "pairs kind, key": what stands at each place, and no more.
use Prim.Native.Nat.{ℕ, zero, suc, ◌+◌, ◌*◌}
use mathlib.Core.List.{List, [], ◌∷◌}
use mathlib.Core.Option.{Option, some}
use mathlib.Core.Path.{◌≡◌, sym, ap, ◌∙◌}
use native.Mathlib.Omega.{arith}
use Rattle.model.specs.Lists.{nth}
use Rattle.model.specs.State.{Named}
use Rattle.model.specs.Refusal.{pairs}
use Rattle.model.proofs.TableLaws.{some_same, none-some}

-- the places of the next pair
next-kind : (a b : ℕ) (l : List ℕ) (p : ℕ) → nth (a ∷ b ∷ l) (2 * suc p) ≡ nth l (2 * p)
next-kind a b l p = ap (nth (a ∷ b ∷ l)) (let e : 2 * suc p ≡ suc (suc (2 * p)) = omega arith in e)

next-key : (a b : ℕ) (l : List ℕ) (p : ℕ) → nth (a ∷ b ∷ l) (2 * suc p + 1) ≡ nth l (2 * p + 1)
next-key a b l p = ap (nth (a ∷ b ∷ l)) (let e : 2 * suc p + 1 ≡ suc (suc (2 * p + 1)) = omega arith in e)

-- at place `p` stands the object with the kind at 2p and the key at 2p + 1
pub pair-at : (l : List ℕ) (p kind key : ℕ) → nth l (2 * p) ≡ some kind → nth l (2 * p + 1) ≡ some key → nth (pairs l) p ≡ some (record { kind = kind; key = key })
pair-at [] p kind key e f = absurd (none-some kind e)
pair-at (a ∷ []) zero kind key e f = absurd (none-some key f)
pair-at (a ∷ []) (suc p) kind key e f = absurd (none-some kind (sym (ap (nth (a ∷ [])) (let z : 2 * suc p ≡ suc (suc (2 * p)) = omega arith in z)) ∙ e))
pair-at (a ∷ b ∷ l) zero kind key e f =
    ap {B = Option Named} (λ (k : ℕ). some (record { kind = k; key = b })) (some_same a kind e) ∙ ap {B = Option Named} (λ (k : ℕ). some (record { kind = kind; key = k })) (some_same b key f)
pair-at (a ∷ b ∷ l) (suc p) kind key e f = pair-at l p kind key (sym (next-kind a b l p) ∙ e) (sym (next-key a b l p) ∙ f)

-- and whatever stands there is that
pub at_pair : (l : List ℕ) (p : ℕ) (n : Named) → nth (pairs l) p ≡ some n → (nth l (2 * p) ≡ some n.kind) × (nth l (2 * p + 1) ≡ some n.key)
at_pair [] p n e = absurd (none-some n e)
at_pair (a ∷ []) p n e = absurd (none-some n e)
at_pair (a ∷ b ∷ l) zero n e = let q : record { kind = a; key = b } ≡ n = some_same (record { kind = a; key = b }) n e in (ap {B = Option ℕ} (λ (m : Named). some m.kind) q, ap {B = Option ℕ} (λ (m : Named). some m.key) q)
at_pair (a ∷ b ∷ l) (suc p) n e = let h = at_pair l p n e in (next-kind a b l p ∙ h.0, next-key a b l p ∙ h.1)
