-- The pairs that a waiting thread's record has are those that its wait names.
use Prim.Native.Nat.{ℕ, suc, ◌+◌, ◌≤◌}
use mathlib.Core.List.{List, [], ◌∷◌}
use mathlib.Core.Bool.{Bool, true, false, cond, ◌&&◌}
use mathlib.Core.Option.{some}
use mathlib.Core.Path.{◌≡◌, refl, ap, ◌∙◌, subst}
use native.Mathlib.Omega.{arith}
use lib.ListN.{length}
use lib.Dec.{eqb}
use Rattle.threads.specs.Thread as words
use Rattle.waits.specs.Lists.{kind_in, key_in, is_pair, has_pair}
use Rattle.model.specs.Lists.{nth}
use Rattle.model.specs.State.{State, waiting, Wait, Named}
use Rattle.model.specs.Threads.{status_of}
use Rattle.model.specs.Waits.{same_named, listed}
use Rattle.agreement.specs.Agree.{Agreeing}
use Rattle.agreement.proofs.Lookups.{count-is, pair_is}

-- a list of pairs that stands in `src` from `at` on
abbrev pub Stands : List ℕ → ℕ → ℕ → List Named → Type 0
Stands src at i l = (j : ℕ) (n : Named) → nth l j ≡ some n → (kind_in src at (i + j) ≡ n.kind) × (key_in src at (i + j) ≡ n.key)

pub stands-rest : (src : List ℕ) (at i : ℕ) (x : Named) (l : List Named) → Stands src at i (x ∷ l) → Stands src at (i + 1) l
stands-rest src at i x l h j n e =
    let p = h (suc j) n e in
    let z : i + 1 + j ≡ i + suc j = omega arith in
    (ap (kind_in src at) z ∙ p.0, ap (key_in src at) z ∙ p.1)

pub pair_same : (src : List ℕ) (at i kind key : ℕ) (n : Named) → kind_in src at i ≡ n.kind → key_in src at i ≡ n.key
    → is_pair src at i kind key ≡ same_named n (record { kind = kind; key = key })
unfolding is_pair
pair_same src at i kind key n p q =
    ap (λ (k : ℕ). cond (eqb k key) (eqb (kind_in src at i) kind) false) q ∙ ap (λ (k : ℕ). cond (eqb n.key key) (eqb k kind) false) p
    ∙ go (eqb n.key key) (eqb n.kind kind)
  where
    go : (a b : Bool) → cond a b false ≡ b && a
    go true true = refl
    go true false = refl
    go false true = refl
    go false false = refl

pub has-pair : (src : List ℕ) (at i kind key : ℕ) (l : List Named) → Stands src at i l → has_pair (length l) src at i kind key ≡ listed (record { kind = kind; key = key }) l
unfolding has_pair
has-pair src at i kind key [] h = refl
has-pair src at i kind key (x ∷ l) h =
    let p = h 0 x refl in
    let z : i ≡ i + 0 = omega arith in
    let e = pair_same src at i kind key x (ap (kind_in src at) z ∙ p.0) (ap (key_in src at) z ∙ p.1) in
    ap (λ (b : Bool). cond b true (has_pair (length l) src at (i + 1) kind key)) e
    ∙ ap (λ (b : Bool). cond (same_named x (record { kind = kind; key = key })) true b) (has-pair src at (i + 1) kind key l (stands-rest src at i x l h))

module _ (w : List ℕ) (s : State) (holder : ℕ → ℕ) (active : ℕ) (a : Agreeing w s holder active)
    (id : ℕ) (one : 1 ≤ id) (le : id ≤ length s.dispatcher.threads) (x : Wait) (e : status_of s.dispatcher id ≡ waiting x) where
  -- the list of a waiting thread
  pub waited-stands : Stands w (words.places_at id) 0 x.objects
  waited-stands j n q =
      subst (λ (k : ℕ). (kind_in w (words.places_at id) k ≡ n.kind) × (key_in w (words.places_at id) k ≡ n.key)) (let z : j ≡ 0 + j = omega arith in z)
      (pair_is w s holder active a id one le x e j n q)

  pub has-pair-is : (kind key : ℕ) → has_pair (words.count_of w id) w (words.places_at id) 0 kind key ≡ listed (record { kind = kind; key = key }) x.objects
  has-pair-is kind key =
      ap (λ (m : ℕ). has_pair m w (words.places_at id) 0 kind key) (count-is w s holder active a id one le x e)
      ∙ has-pair w (words.places_at id) 0 kind key x.objects waited-stands
