-- Laws of bytes at places.
use Rattle.std.proofs.Common.{◌≡◌, ℕ, zero, suc, ◌+◌, ◌-◌, ◌*◌, ◌/◌, ◌%◌, ◌^◌, ◌<◌, ◌≤◌, ◌⊎◌, List, [], ◌∷◌, ◌++◌, length, get_or, drop, take, set, refl, ap, ◌∙◌, inl, inr, ⊎_elim, add-one, arith, length-set, get_or-set_other, get_or-set_same}
use lib.Pow.{mod-mod-pow, mod-pow-add, field}
use lib.Seq.{set_out}
use Rattle.images.specs.Field.{Field, placed, little, number, laid}

less_one : (k : ℕ) → suc k - 1 ≡ k
less_one k = omega arith

-- ---- as the code counts

pub placed-out : (bs : List ℕ) (p : ℕ) (out : List ℕ) → length out ≤ p → placed p bs out ≡ out
unfolding placed
placed-out [] p out h = refl
placed-out (b ∷ bs) p out h = rw (set_out out p b h) (placed-out bs (suc p) out (omega arith))

-- the bytes that fit
placed-cons : (bs : List ℕ) (p x : ℕ) (out : List ℕ) → placed (suc p) bs (x ∷ out) ≡ x ∷ placed p bs out
unfolding placed
placed-cons [] p x out = refl
placed-cons (b ∷ bs) p x out = placed-cons bs (suc p) x (set out p b)

pub placed-start : (bs out : List ℕ) → length bs ≤ length out → placed 0 bs out ≡ bs ++ drop (length bs) out
unfolding placed
placed-start [] out h = refl
placed-start (b ∷ bs) [] h = absurd (omega arith)
placed-start (b ∷ bs) (x ∷ out) h = placed-cons bs 0 b out ∙ ap (λ (l : List ℕ). b ∷ l) (placed-start bs out (omega arith))

pub placed-mid : (p : ℕ) (bs out : List ℕ) → p + length bs ≤ length out → placed p bs out ≡ take p out ++ (bs ++ drop (length bs) (drop p out))
placed-mid zero bs out h = placed-start bs out (omega arith)
placed-mid (suc p) bs [] h = absurd (omega arith)
placed-mid (suc p) bs (x ∷ out) h = placed-cons bs p x out ∙ ap (λ (l : List ℕ). x ∷ l) (placed-mid p bs out (omega arith))

pub placed-cut : (bs : List ℕ) (p n : ℕ) (out : List ℕ) → ((k : ℕ) → k < length bs → p + k < length out → k < n) → placed p bs out ≡ placed p (take n bs) out
unfolding placed
placed-cut [] p zero out h = refl
placed-cut [] p (suc n) out h = refl
placed-cut (b ∷ bs) p zero out h = placed-out (b ∷ bs) p out (short (λ l. omega (arith, h 0 (omega arith) (omega (arith, l)))))
  where
    short : (p < length out → ⊥) → length out ≤ p
    short n = grind arith
placed-cut (b ∷ bs) p (suc n) out h =
    placed-cut bs (suc p) n (set out p b) (λ k l m. let j = h (suc k) (omega arith) (omega (arith, length-set out p b)) in omega arith)

pub number-end : (p k n : ℕ) (out : List ℕ) → (0 < k → length out ≤ p) → placed p (little k n) out ≡ out
unfolding placed little
number-end p zero n out h = refl
number-end p (suc k) n out h = placed-out (little (suc k) n) p out (h (omega arith))

pub number_more : (p k n : ℕ) (out : List ℕ) → 0 < k → placed p (little k n) out ≡ placed (p + 1) (little (k - 1) (n / 256)) (set out p (n % 256))
unfolding placed little
number_more p zero n out h = absurd (omega arith)
number_more p (suc k) n out h = rw (less_one k, add-one p)

-- the bytes beyond those kept may go before the cut
cut-above : (k j n : ℕ) → little k (n % 2 ^ (j + 8 * k)) ≡ little k n
unfolding little
cut-above zero j n = refl
cut-above (suc k) j n =
    let e : j + 8 * suc k ≡ j + 8 * k + 8 = omega arith in
    rw e
    (ap (λ (b : ℕ). b ∷ little k (n % 2 ^ (j + 8 * k + 8) / 256)) (mod-mod-pow n (j + 8 * k) 8)
    ∙ ap (λ (r : ℕ). n % 256 ∷ little k r) (field n (j + 8 * k) 8)
    ∙ ap (λ (l : List ℕ). n % 256 ∷ l) (cut-above k j (n / 256)))

pub cut : (k n : ℕ) → k ≤ 8 → little k (n % 2 ^ 64) ≡ little k n
cut k n h = let e : 64 - 8 * k + 8 * k ≡ 64 = omega arith in rw e at (cut-above k (64 - 8 * k) n)

pub laid_both : (fs gs : List Field) (out : List ℕ) → laid (fs ++ gs) out ≡ laid gs (laid fs out)
unfolding laid
laid_both [] gs out = refl
laid_both (f ∷ fs) gs out = laid_both fs gs (placed f.place f.bytes out)

-- ---- which byte stands where

pub length-placed : (bs : List ℕ) (p : ℕ) (out : List ℕ) → length (placed p bs out) ≡ length out
unfolding placed
length-placed [] p out = refl
length-placed (b ∷ bs) p out = length-placed bs (suc p) (set out p b) ∙ length-set out p b

pub length-little : (k n : ℕ) → length (little k n) ≡ k
unfolding little
length-little zero n = refl
length-little (suc k) n = ap suc (length-little k (n / 256))

pub placed_below : (bs : List ℕ) (p : ℕ) (out : List ℕ) (j : ℕ) → j < p → get_or (placed p bs out) j 0 ≡ get_or out j 0
unfolding placed
placed_below [] p out j h = refl
placed_below (b ∷ bs) p out j h =
    let n : j ≡ p → ⊥ = λ q. omega arith in placed_below bs (suc p) (set out p b) j (omega arith) ∙ get_or-set_other out p j b 0 n

pub placed-above : (bs : List ℕ) (p : ℕ) (out : List ℕ) (j : ℕ) → p + length bs ≤ j → get_or (placed p bs out) j 0 ≡ get_or out j 0
unfolding placed
placed-above [] p out j h = refl
placed-above (b ∷ bs) p out j h =
    let n : j ≡ p → ⊥ = λ q. omega arith in placed-above bs (suc p) (set out p b) j (omega arith) ∙ get_or-set_other out p j b 0 n

pub placed-here : (bs : List ℕ) (p : ℕ) (out : List ℕ) (i : ℕ) → i < length bs → p + length bs ≤ length out → get_or (placed p bs out) (p + i) 0 ≡ get_or bs i 0
unfolding placed
placed-here [] p out i h l = absurd (omega arith)
placed-here (b ∷ bs) p out zero h l =
    let e : p + 0 ≡ p = omega arith in
    rw e (placed_below bs (suc p) (set out p b) p (omega arith) ∙ get_or-set_same out p b 0 (omega arith))
placed-here (b ∷ bs) p out (suc i) h l =
    let e : p + suc i ≡ suc p + i = omega arith in
    rw e (placed-here bs (suc p) (set out p b) i (omega arith) (omega (arith, length-set out p b)))

-- ---- fields one behind the other

-- each field starts where the one before it ends, or later; the last ends by `end`
abbrev pub Rising : ℕ → ℕ → List Field → Type 0
Rising from end [] = from ≤ end
Rising from end (f ∷ fs) = (from ≤ f.place) × Rising (f.place + length f.bytes) end fs

abbrev pub In : Field → List Field → Type 0
In f [] = ⊥
In f (g ∷ gs) = (f ≡ g) ⊎ In f gs

-- no field has this place
abbrev pub Gap : ℕ → List Field → Type 0
Gap j [] = Unit {0}
Gap j (f ∷ fs) = ((j < f.place) ⊎ (f.place + length f.bytes ≤ j)) × Gap j fs

pub length-laid : (fs : List Field) (out : List ℕ) → length (laid fs out) ≡ length out
unfolding laid
length-laid [] out = refl
length-laid (f ∷ fs) out = length-laid fs (placed f.place f.bytes out) ∙ length-placed f.bytes f.place out

pub laid-below : (fs : List Field) (from end : ℕ) (out : List ℕ) → Rising from end fs → (j : ℕ) → j < from → get_or (laid fs out) j 0 ≡ get_or out j 0
unfolding laid
laid-below [] from end out r j h = refl
laid-below (f ∷ fs) from end out r j h =
    laid-below fs (f.place + length f.bytes) end (placed f.place f.bytes out) r.1 j (omega (arith, r.0))
    ∙ placed_below f.bytes f.place out j (omega (arith, r.0))

ends_by : (fs : List Field) (from end : ℕ) → Rising from end fs → from ≤ end
ends_by [] from end r = r
ends_by (f ∷ fs) from end r = omega (arith, r.0, ends_by fs (f.place + length f.bytes) end r.1)

pub laid-above : (fs : List Field) (from end : ℕ) (out : List ℕ) → Rising from end fs → (j : ℕ) → end ≤ j → get_or (laid fs out) j 0 ≡ get_or out j 0
unfolding laid
laid-above [] from end out r j h = refl
laid-above (f ∷ fs) from end out r j h =
    laid-above fs (f.place + length f.bytes) end (placed f.place f.bytes out) r.1 j h
    ∙ placed-above f.bytes f.place out j (omega (arith, ends_by fs (f.place + length f.bytes) end r.1))

pub laid-gap : (fs : List Field) (out : List ℕ) (j : ℕ) → Gap j fs → get_or (laid fs out) j 0 ≡ get_or out j 0
unfolding laid
laid-gap [] out j g = refl
laid-gap (f ∷ fs) out j g =
    laid-gap fs (placed f.place f.bytes out) j g.1
    ∙ ⊎_elim (λ h. placed_below f.bytes f.place out j h) (λ h. placed-above f.bytes f.place out j h) g.0

pub laid-field : (fs : List Field) (from end : ℕ) (out : List ℕ) → Rising from end fs → end ≤ length out
    → (f : Field) → In f fs → (i : ℕ) → i < length f.bytes → get_or (laid fs out) (f.place + i) 0 ≡ get_or f.bytes i 0
unfolding laid
laid-field [] from end out r l f m i h = absurd m
laid-field (g ∷ gs) from end out r l f (inl e) i h =
    let k : i < length g.bytes = rw e at h in
    rw e
    (laid-below gs (g.place + length g.bytes) end (placed g.place g.bytes out) r.1 (g.place + i) (omega arith)
    ∙ placed-here g.bytes g.place out i k (omega (arith, ends_by gs (g.place + length g.bytes) end r.1)))
laid-field (g ∷ gs) from end out r l f (inr m) i h =
    laid-field gs (g.place + length g.bytes) end (placed g.place g.bytes out) r.1
    (omega (arith, length-placed g.bytes g.place out)) f m i h

-- ---- numbers read back

pub number-reads : (k p n : ℕ) (out : List ℕ) → ((i : ℕ) → i < k → get_or out (p + i) 0 ≡ get_or (little k n) i 0) → number k p out ≡ n % 2 ^ (8 * k)
unfolding number little
number-reads zero p n out h = omega arith
number-reads (suc k) p n out h =
    let first : get_or out p 0 ≡ n % 256 = ap (λ (j : ℕ). get_or out j 0) (let z : p ≡ p + 0 = omega arith in z) ∙ h 0 (omega arith) in
    let rest : number k (suc p) out ≡ n / 256 % 2 ^ (8 * k) =
    number-reads k (suc p) (n / 256) out (λ i l. ap (λ (j : ℕ). get_or out j 0) (let z : suc p + i ≡ p + suc i = omega arith in z) ∙ h (suc i) (omega arith))
    in
    let e : 8 * suc k ≡ 8 * k + 8 = omega arith in
    rw (e, first, rest) (omega (arith, mod-pow-add n (8 * k) 8))
