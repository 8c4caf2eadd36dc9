-- The least of some times, by whatever walk it is found: it depends on which they are, not on their order.
use Prim.Native.Nat.{ℕ, min, ◌≤◌}
use mathlib.Core.List.{List, [], ◌∷◌}
use mathlib.Core.Bool.{Bool, true, false, cond}
use mathlib.Core.Option.{Option, none, some}
use mathlib.Core.Logic.{◌⊎◌, inl, inr}
use mathlib.Core.Path.{◌≡◌, refl, sym, ap, ◌∙◌, subst}
use native.Mathlib.Omega.{arith}
use native.Mathlib.Decide.{dec_le}
use native.Mathlib.Nat.{min-eq_left, min-eq_right}
use borrow.Author.Tests.{leb-true, leb-false}
use lib.Dec.{leb}
use Rattle.std.specs.Prelude as code
use Rattle.std.specs.Prelude.{Some, None}
use Rattle.dispatcher.specs.Dispatch.{sooner, due_at}
use Rattle.model.specs.Lists.{Mem, given}
use Rattle.model.specs.Step.{smallest}
use Rattle.model.proofs.TableLaws.{some_same, none-some}

-- of the times with a property: none, or one that none is before
abbrev pub Least : (ℕ → Type 0) → Option ℕ → Type 0
Least P none = (x : ℕ) → P x → ⊥
Least P (some m) = P m × ((x : ℕ) → P x → m ≤ x)

module _ (P Q : ℕ → Type 0) (to : (x : ℕ) → P x → Q x) (from : (x : ℕ) → Q x → P x) where
  pub least_on : (m : Option ℕ) → Least P m → Least Q m
  least_on none h = λ x q. h x (from x q)
  least_on (some m) h = (to m h.0, λ x q. h.1 x (from x q))

  pub least-same : (m n : Option ℕ) → Least P m → Least Q n → m ≡ n
  least-same none none h k = refl
  least-same none (some n) h k = absurd (h n (from n k.0))
  least-same (some m) none h k = absurd (k m (to m h.0))
  least-same (some m) (some n) h k = ap some (let a = h.1 n (from n k.0) in let b = k.1 m (to m h.0) in let e : m ≡ n = omega arith in e)

-- ---- the log's

pub least-smallest : (l : List ℕ) → Least (λ x. Mem x l) (smallest l)
least-smallest [] = λ x m. m
least-smallest (x ∷ xs) = go (smallest xs) (least-smallest xs)
  where
    alone : ((y : ℕ) → Mem y xs → ⊥) → (y : ℕ) → (y ≡ x) ⊎ Mem y xs → x ≤ y
    alone h y (inl e) = omega arith
    alone h y (inr m) = absurd (h y m)

    more : (z : ℕ) → ((y : ℕ) → Mem y xs → z ≤ y) → (m : ℕ) → m ≤ x → m ≤ z → (y : ℕ) → (y ≡ x) ⊎ Mem y xs → m ≤ y
    more z h m a b y (inl e) = omega arith
    more z h m a b y (inr k) = omega (arith, h y k)

    go : (m : Option ℕ) → Least (λ y. Mem y xs) m → Least (λ y. Mem y (x ∷ xs)) (given m (some x) (λ y. some (min x y)))
    go none h = (inl refl, alone h)
    go (some z) h = elim (dec_le x z) [
      | yes le ↦ subst (λ (m : ℕ). Least (λ y. Mem y (x ∷ xs)) (some m)) (sym (min-eq_left le)) (inl refl, more z h.1 x (omega arith) le)
      | no n ↦ subst (λ (m : ℕ). Least (λ y. Mem y (x ∷ xs)) (some m)) (sym (min-eq_right (let le : z ≤ x = omega (arith, n) in le))) (inr h.0, more z h.1 z (omega (arith, n)) (omega arith))
    ]

-- ---- the code's

-- the soonest time that a walk has seen, if any
abbrev pub Seen : Type 0
Seen = code.Option ℕ

-- the same as the log has it
abbrev pub due_of : Seen → Option ℕ
due_of None = none
due_of (Some t) = some t

-- one time more
pub least-sooner : (P : ℕ → Type 0) (d : Seen) (t : ℕ) → Least P (due_of d) → Least (λ x. P x ⊎ (some t ≡ some x)) (due_of (sooner d 1 t))
unfolding sooner due_at
least-sooner P None t h = (inr refl, below)
  where
    below : (x : ℕ) → P x ⊎ (some t ≡ some x) → t ≤ x
    below x (inl p) = absurd (h x p)
    below x (inr e) = omega (arith, some_same t x e)
least-sooner P (Some s) t h = by (leb s t) refl
  where
    below : (m : ℕ) → m ≤ s → m ≤ t → (x : ℕ) → P x ⊎ (some t ≡ some x) → m ≤ x
    below m a b x (inl p) = omega (arith, h.1 x p)
    below m a b x (inr e) = omega (arith, some_same t x e)

    by : (c : Bool) → leb s t ≡ c → Least (λ x. P x ⊎ (some t ≡ some x)) (due_of (cond c (Some s) (Some t)))
    by true r = (inl h.0, below s (omega arith) (leb-true s t r))
    by false r = (inr refl, below t (let z = leb-false s t r in omega arith) (omega arith))

pub least-perhaps : (P : ℕ → Type 0) (d : Seen) (o : Option ℕ) → Least P (due_of d) → Least (λ x. P x ⊎ (o ≡ some x)) (due_of (given o d (λ t. sooner d 1 t)))
least-perhaps P d none h = least_on P (λ x. P x ⊎ (none ≡ some x)) (λ x p. inl p) back (due_of d) h
  where
    back : (x : ℕ) → P x ⊎ (none ≡ some x) → P x
    back x (inl p) = p
    back x (inr e) = absurd (none-some x e)
least-perhaps P d (some t) h = least-sooner P d t h

-- ---- times of records of a list

module _ {A : Type 0} (f : A → Option ℕ) where
  -- the time of one of them
  abbrev pub Among : List A → ℕ → Type 0
  Among [] x = ⊥
  Among (a ∷ cs) x = (f a ≡ some x) ⊎ Among cs x

  pub among-mem : (l : List A) (x : ℕ) → Among l x → (a : A) × (Mem a l) × (f a ≡ some x)
  among-mem [] x m = absurd m
  among-mem (a ∷ cs) x (inl e) = (a, inl refl, e)
  among-mem (a ∷ cs) x (inr m) = let r = among-mem cs x m in (r.0, inr r.1, r.2)

  pub mem-among : (l : List A) (a : A) (x : ℕ) → Mem a l → f a ≡ some x → Among l x
  mem-among [] a x m e = absurd m
  mem-among (b ∷ bs) a x (inl q) e = inl (ap f (sym q) ∙ e)
  mem-among (b ∷ bs) a x (inr m) e = inr (mem-among bs a x m e)

  -- one step of a walk over them
  pub least_step : (P : ℕ → Type 0) (a : A) (cs : List A) (m : Option ℕ) → Least (λ x. (P x ⊎ (f a ≡ some x)) ⊎ Among cs x) m → Least (λ x. P x ⊎ Among (a ∷ cs) x) m
  least_step P a cs m h = least_on (λ x. (P x ⊎ (f a ≡ some x)) ⊎ Among cs x) (λ x. P x ⊎ Among (a ∷ cs) x) to from m h
    where
      to : (x : ℕ) → (P x ⊎ (f a ≡ some x)) ⊎ Among cs x → P x ⊎ Among (a ∷ cs) x
      to x (inl (inl p)) = inl p
      to x (inl (inr e)) = inr (inl e)
      to x (inr m) = inr (inr m)

      from : (x : ℕ) → P x ⊎ Among (a ∷ cs) x → (P x ⊎ (f a ≡ some x)) ⊎ Among cs x
      from x (inl p) = inl (inl p)
      from x (inr (inl e)) = inl (inr e)
      from x (inr (inr m)) = inr m

  pub least-stop : (P : ℕ → Type 0) (m : Option ℕ) → Least P m → Least (λ x. P x ⊎ Among [] x) m
  least-stop P m h = least_on P (λ x. P x ⊎ Among [] x) (λ x p. inl p) from m h
    where
      from : (x : ℕ) → P x ⊎ Among [] x → P x
      from x (inl p) = p
      from x (inr q) = absurd q
