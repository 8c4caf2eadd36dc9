-- One number ahead of another in a list, and what keeps it so.
use Prim.Native.Nat.{ℕ}
use mathlib.Core.List.{List, [], ◌∷◌, ◌++◌}
use mathlib.Core.Bool.{Bool, true, false, cond, not}
use mathlib.Core.Path.{◌≡◌, refl, sym, ap, ◌∙◌, subst}
use mathlib.Core.Logic.{◌⊎◌, inl, inr, ⊎_elim}
use native.Mathlib.Decide.{ℕ_discrete}
use lib.Dec.{eqb}
use Rattle.model.specs.Lists.{Mem, Before, Distinct, keep, without}
use Rattle.model.specs.State.{Status, running, ready, waiting, exited}
use Rattle.model.specs.Threads.{placed_as}
use Rattle.model.proofs.ListLaws.{not-both, differs, mem-without, without-mem, mem-last, append-mem-left, keep-mem}

-- ---- `Before`

pub before-left : (i j : ℕ) (l : List ℕ) → Before i j l → Mem i l
before-left i j [] b = absurd b
before-left i j (x ∷ xs) (inl b) = inl b.0
before-left i j (x ∷ xs) (inr b) = inr (before-left i j xs b)

pub before-right : (i j : ℕ) (l : List ℕ) → Before i j l → Mem j l
before-right i j [] b = absurd b
before-right i j (x ∷ xs) (inl b) = inr b.1
before-right i j (x ∷ xs) (inr b) = inr (before-right i j xs b)

-- of two in a list in which none stands twice, not each is before the other
pub before-once : (i j : ℕ) (l : List ℕ) → Distinct l → Before i j l → Before j i l → ⊥
before-once i j [] d a b = absurd a
before-once i j (x ∷ xs) d (inl a) (inl b) = d.0 (subst (λ (k : ℕ). Mem k xs) b.0 a.1)
before-once i j (x ∷ xs) d (inl a) (inr b) = d.0 (subst (λ (k : ℕ). Mem k xs) a.0 (before-right j i xs b))
before-once i j (x ∷ xs) d (inr a) (inl b) = d.0 (subst (λ (k : ℕ). Mem k xs) b.0 (before-right i j xs a))
before-once i j (x ∷ xs) d (inr a) (inr b) = before-once i j xs d.1 a b

before-keep : (f : ℕ → Bool) (i j : ℕ) (l : List ℕ) → Before i j l → f i ≡ true → f j ≡ true → Before i j (keep f l)
before-keep f i j [] b p q = absurd b
before-keep f i j (x ∷ xs) b p q = go (f x) refl (λ c. before-keep f i j xs c p q) b
  where
    go : (t : Bool) → f x ≡ t → (Before i j xs → Before i j (keep f xs)) → ((i ≡ x) × Mem j xs) ⊎ Before i j xs → Before i j (cond t (x ∷ keep f xs) (keep f xs))
    go true e ih (inl c) = inl (c.0, keep-mem f j xs c.1 q)
    go true e ih (inr c) = inr (ih c)
    go false e ih (inl c) = absurd (not-both (sym p ∙ ap f c.0 ∙ e))
    go false e ih (inr c) = ih c

before-append : (i j : ℕ) (l m : List ℕ) → Before i j l → Before i j (l ++ m)
before-append i j [] m b = absurd b
before-append i j (x ∷ xs) m (inl b) = inl (b.0, append-mem-left j xs m b.1)
before-append i j (x ∷ xs) m (inr b) = inr (before-append i j xs m b)

before_last : (i j : ℕ) (l : List ℕ) → Mem i l → Before i j (l ++ (j ∷ []))
before_last i j [] m = absurd m
before_last i j (x ∷ xs) (inl e) = inl (e, last xs)
  where
    last : (l : List ℕ) → Mem j (l ++ (j ∷ []))
    last [] = inl refl
    last (y ∷ ys) = inr (last ys)
before_last i j (x ∷ xs) (inr m) = inr (before_last i j xs m)

-- ---- ahead of one that stands behind it, or not in the list

abbrev pub Ahead : ℕ → ℕ → List ℕ → Type 0
Ahead i j l = Before i j l ⊎ (Mem j l → ⊥)

pub ahead_before : (i j : ℕ) (l : List ℕ) → Ahead i j l → Mem j l → Before i j l
ahead_before i j l (inl b) m = b
ahead_before i j l (inr n) m = absurd (n m)

-- from one list to the next a number stays, and stays ahead of whom it was ahead of
pub record Keeps (i : ℕ) (l l' : List ℕ) : Type 0 where
  pub stays : Mem i l → Mem i l'
  pub back : Mem i l' → Mem i l
  pub ahead : (j : ℕ) → Mem i l → Ahead i j l → Ahead i j l'

pub keeps_same : (i : ℕ) (l l' : List ℕ) → l' ≡ l → Keeps i l l'
keeps_same i l l' e = subst (Keeps i l) (sym e) (record { stays = λ m. m; back = λ m. m; ahead = λ j m a. a })

pub keeps_on : (i : ℕ) (l l' l'' : List ℕ) → Keeps i l l' → Keeps i l' l'' → Keeps i l l''
keeps_on i l l' l'' a b = record {
  stays = λ m. b.stays (a.stays m);
  back = λ m. a.back (b.back m);
  ahead = λ j m h. b.ahead j (a.stays m) (a.ahead j m h);
}

module _ (i id : ℕ) (l : List ℕ) (n : i ≡ id → ⊥) where
  -- another is taken out
  keeps-out : Keeps i l (without id l)
  keeps-out = record {
    stays = λ m. without-mem i id l m n;
    back = λ m. (mem-without i id l m).0;
    ahead = λ j m h. go j (ℕ_discrete j id) h;
  }
    where
      go : (j : ℕ) → Dec (j ≡ id) → Ahead i j l → Ahead i j (without id l)
      go j (yes e) h = inr (λ m. (mem-without j id l m).1 e)
      go j (no e) (inl b) = inl (before-keep (λ x. not (eqb x id)) i j l b (differs i id n) (differs j id e))
      go j (no e) (inr u) = inr (λ m. u (mem-without j id l m).0)

  -- and placed last
  keeps-last : Keeps i l (without id l ++ (id ∷ []))
  keeps-last = record {
    stays = λ m. append-mem-left i (without id l) (id ∷ []) (keeps-out.stays m);
    back = λ m. ⊎_elim (λ (a : Mem i (without id l)). keeps-out.back a) (λ (e : i ≡ id). absurd (n e)) (mem-last i (without id l) id m);
    ahead = λ j m h. go j m (ℕ_discrete j id) (keeps-out.ahead j m h);
  }
    where
      go : (j : ℕ) → Mem i l → Dec (j ≡ id) → Ahead i j (without id l) → Ahead i j (without id l ++ (id ∷ []))
      go j m (yes e) h = inl (subst (λ (k : ℕ). Before i k (without id l ++ (id ∷ []))) (sym e) (before_last i id (without id l) (keeps-out.stays m)))
      go j m (no e) (inl b) = inl (before-append i j (without id l) (id ∷ []) b)
      go j m (no e) (inr u) = inr (λ a. ⊎_elim (λ (b : Mem j (without id l)). u b) (λ (z : j ≡ id). e z) (mem-last j (without id l) id a))

  -- whatever becomes of another thread, one keeps its place
  pub keeps_placed : (x : Status) → Keeps i l (placed_as x id l)
  keeps_placed running = keeps-out
  keeps_placed ready = keeps-last
  keeps_placed (waiting w) = keeps-out
  keeps_placed (exited k) = keeps-out

  -- and is ahead of one that is made ready
  pub ahead-placed : Mem i l → Before i id (placed_as ready id l)
  ahead-placed m = before_last i id (without id l) (keeps-out.stays m)
