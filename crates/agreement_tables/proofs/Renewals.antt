-- New numbers for the DPCs that stay, and the links of the queue by them.
use Prim.Native.Nat.{ℕ, zero, suc, ◌+◌, ◌*◌, ◌≤◌, ◌<◌}
use mathlib.Core.List.{List, [], ◌∷◌}
use mathlib.Core.Bool.{Bool, true, false, cond, not}
use mathlib.Core.Path.{◌≡◌, refl, sym, ap, ap₂, ◌∙◌, subst}
use mathlib.Core.Logic.{◌⊎◌, inl, inr}
use mathlib.Core.Option.{some}
use native.Mathlib.Omega.{arith}
use borrow.Author.Tests.{eq-eqb, ne_eqb}
use lib.Dec.{eqb}
use lib.ListN.{get_or, set, length, length-set}
use Rattle.words.specs.Layout as at
use Rattle.words.specs.Layout.{entry_at, objects_at}
use Rattle.tables.proofs.TableLaws.{entry-is}
use Rattle.objects.specs.Objects.{objects_base, dpcs_base}
use Rattle.chains.specs.Chain.{link_at, next_of}
use Rattle.dpcs.specs.Record.{place_at}
use Rattle.dpc_table.specs.Table.{number_put, number_to, numbered_in, new_number, link_renewed, links_renewed_in}
use Rattle.model.specs.Lists.{nth, Mem, Distinct}
use Rattle.model.proofs.ListLaws.{not-both}
use Rattle.model.proofs.TableLaws.{some_same, none-some}
use Rattle.agreement_tables.specs.Tables.{Same, Whole, Holds, kept_before, queue_of, Queued}
use Rattle.agreement_tables.proofs.Lookups.{place-of-number}
use Rattle.agreement_tables.proofs.Moves.{read-other, read_same, set-outside}
use Rattle.agreement_tables.proofs.Holds.{holds-depends, holds-head, holds-tail}
use Rattle.agreement_tables.proofs.Links.{queue-place, queue-apart}
use Rattle.agreement_tables.proofs.Compacts.{Marked, marked-local}

-- ---- new numbers: word 21 of each that stays

pub length-numbered : (m : ℕ) (w : List ℕ) (base i last : ℕ) → length (numbered_in m w base i last) ≡ length w
unfolding numbered_in number_put
length-numbered zero w base i last = refl
length-numbered (suc m) w base i last = length-numbered m (number_put w (entry_at base i) last) base (i + 1) (number_to w (entry_at base i) last) ∙ go (eqb (get_or w (entry_at base i + at.phase) 0) 9)
  where
    go : (b : Bool) → length (cond b w (set w (entry_at base i + at.new_number) (last + 1))) ≡ length w
    go true = refl
    go false = length-set w (entry_at base i + at.new_number) (last + 1)

pub numbered-outside : (m : ℕ) (R : ℕ → Type 0) (w : List ℕ) (base i last : ℕ) → base ≤ 1000000 → i + m ≤ 8192 → ((t : ℕ) → i ≤ t → t < i + m → R (base + 32 * t + at.new_number) → ⊥)
    → Same R w (numbered_in m w base i last)
unfolding numbered_in number_put
numbered-outside zero R w base i last low few far j r = refl
numbered-outside (suc m) R w base i last low few far j r =
    numbered-outside m R (number_put w (entry_at base i) last) base (i + 1) (number_to w (entry_at base i) last) low (omega arith) (λ t a b. far t (omega arith) (omega arith)) j r
    ∙ go (eqb (get_or w (entry_at base i + at.phase) 0) 9)
  where
    go : (b : Bool) → get_or (cond b w (set w (entry_at base i + at.new_number) (last + 1))) j 0 ≡ get_or w j 0
    go true = refl
    go false = set-outside R w (entry_at base i + at.new_number) (last + 1) (λ q. far i (omega arith) (omega arith) (subst R (ap (λ (p : ℕ). p + at.new_number) (entry-is base i low (omega arith))) q)) j r

pub numbered-shows : {A : Type 0} (f : A → Bool) (ys : List A) (w : List ℕ) (base i last : ℕ) → base ≤ 1000000 → i + length ys ≤ 8192 → base + 32 * (i + length ys) ≤ length w
    → Holds (Marked f 1 9) w (base + 32 * i) ys → (t : ℕ) (x : A) → nth ys t ≡ some x → f x ≡ true
    → get_or (numbered_in (length ys) w base i last) (base + 32 * (i + t) + at.new_number) 0 ≡ suc (last + kept_before f ys t)
unfolding numbered_in number_put number_to
numbered-shows f [] w base i last low few long marks t x e h = absurd (none-some x e)
numbered-shows {A} f (y ∷ ys) w base i last low few long marks t x e h =
    ap (λ (b : Bool). get_or (numbered_in (length ys) (cond b w (set w (entry_at base i + at.new_number) (last + 1))) base (i + 1) (cond b last (last + 1))) (base + 32 * (i + t) + at.new_number) 0)
    (ap (λ (p : ℕ). eqb (get_or w (p + at.phase) 0) 9) (entry-is base i low (omega arith)) ∙ holds-head Whole (Marked f 1 9) (marked-local f 1 9 (omega arith)) w (base + 32 * i) y ys marks)
    ∙ ap (λ (p : ℕ). get_or (numbered_in (length ys) (cond (not (f y)) w (set w (p + at.new_number) (last + 1))) base (i + 1) (cond (not (f y)) last (last + 1))) (base + 32 * (i + t) + at.new_number) 0) (entry-is base i low (omega arith))
    ∙ go t e (f y) refl (λ w₁ last₁ l m t₁ e₁. numbered-shows f ys w₁ base (i + 1) last₁ low (omega arith) l m t₁ x e₁ h)
  where
    w₁ : List ℕ
    w₁ = set w (base + 32 * i + at.new_number) (last + 1)

    rest : Holds (Marked f 1 9) w (base + 32 * (i + 1)) ys
    rest = subst (λ (p : ℕ). Holds (Marked f 1 9) w p ys) (let z : base + 32 * i + 32 ≡ base + 32 * (i + 1) = omega arith in z)
        (holds-tail Whole (Marked f 1 9) (marked-local f 1 9 (omega arith)) w (base + 32 * i) y ys marks)

    rest₁ : Holds (Marked f 1 9) w₁ (base + 32 * (i + 1)) ys
    rest₁ = holds-depends Whole (Marked f 1 9) (marked-local f 1 9 (omega arith)) w w₁ (base + 32 * (i + 1)) ys
        (λ j l k m d. read-other w (base + 32 * i + at.new_number) (base + 32 * (i + 1) + 32 * j + k) (last + 1) (λ q. omega arith)) rest

    len₁ : length w₁ ≡ length w
    len₁ = length-set w (base + 32 * i + at.new_number) (last + 1)

    go : (t : ℕ) → nth (y ∷ ys) t ≡ some x → (b : Bool) → f y ≡ b
        → ((v : List ℕ) (l : ℕ) → base + 32 * (i + 1 + length ys) ≤ length v → Holds (Marked f 1 9) v (base + 32 * (i + 1)) ys → (t₁ : ℕ) → nth ys t₁ ≡ some x
        → get_or (numbered_in (length ys) v base (i + 1) l) (base + 32 * (i + 1 + t₁) + at.new_number) 0 ≡ suc (l + kept_before f ys t₁))
        → get_or (numbered_in (length ys) (cond (not b) w (set w (base + 32 * i + at.new_number) (last + 1))) base (i + 1) (cond (not b) last (last + 1))) (base + 32 * (i + t) + at.new_number) 0 ≡ suc (last + kept_before f (y ∷ ys) t)
    go zero e true q ih =
        ap (λ (p : ℕ). get_or (numbered_in (length ys) w₁ base (i + 1) (last + 1)) p 0) (let z : base + 32 * (i + 0) + 21 ≡ base + 32 * i + 21 = omega arith in z)
        ∙ numbered-outside (length ys) (λ p. p ≡ base + 32 * i + at.new_number) w₁ base (i + 1) (last + 1) low (omega arith) (λ u a b r. omega arith) (base + 32 * i + at.new_number) refl
        ∙ read_same w (base + 32 * i + at.new_number) (last + 1) (omega arith) ∙ (let z : last + 1 ≡ suc (last + 0) = omega arith in z)
    go zero e false q ih = absurd (not-both (sym h ∙ ap f (sym (some_same y x e)) ∙ q))
    go (suc t) e true q ih =
        ap (λ (p : ℕ). get_or (numbered_in (length ys) w₁ base (i + 1) (last + 1)) p 0) (let z : base + 32 * (i + suc t) + 21 ≡ base + 32 * (i + 1 + t) + 21 = omega arith in z)
        ∙ ih w₁ (last + 1) (omega (arith, len₁)) rest₁ t e
        ∙ (let z : suc (last + 1 + kept_before f ys t) ≡ suc (last + (1 + kept_before f ys t)) = omega arith in z)
        ∙ sym (ap {B = ℕ} (λ (b : Bool). suc (last + (cond b 1 0 + kept_before f ys t))) q)
    go (suc t) e false q ih =
        ap (λ (p : ℕ). get_or (numbered_in (length ys) w base (i + 1) last) p 0) (let z : base + 32 * (i + suc t) + 21 ≡ base + 32 * (i + 1 + t) + 21 = omega arith in z)
        ∙ ih w last (omega arith) rest t e
        ∙ (let z : suc (last + kept_before f ys t) ≡ suc (last + (0 + kept_before f ys t)) = omega arith in z)
        ∙ sym (ap {B = ℕ} (λ (b : Bool). suc (last + (cond b 1 0 + kept_before f ys t))) q)

-- ---- the queue's links: the new numbers of what they were

-- where the table starts is said by words 0 and 1
pub base-depends : (w w' : List ℕ) → get_or w' at.thread_limit 0 ≡ get_or w at.thread_limit 0 → get_or w' at.object_limit 0 ≡ get_or w at.object_limit 0 → dpcs_base w' ≡ dpcs_base w
unfolding dpcs_base objects_base
base-depends w w' a b = ap₂ (λ (t o : ℕ). entry_at (objects_at t) o) a b

-- the new number of DPC `i + 1` is word 21 of record `i`
new-at : (w : List ℕ) (base : ℕ) → base ≤ 1000000 → dpcs_base w ≡ base → (i : ℕ) → i < 4096 → new_number w (suc i) ≡ get_or w (base + 32 * i + at.new_number) 0
unfolding new_number
new-at w base low based i h =
    ap (λ (b : Bool). cond b 0 (get_or w (place_at w (suc i) + at.new_number) 0)) (ne_eqb (suc i) 0 (λ e. omega arith))
    ∙ ap (λ (n : ℕ). get_or w (place_at w n + at.new_number) 0) (let z : suc i ≡ i + 1 = omega arith in z)
    ∙ ap (λ (p : ℕ). get_or w (p + at.new_number) 0) (place-of-number w base low based i h)

-- `N` gives the new numbers of the DPCs of which `G` holds
module _ (base n : ℕ) (low : base ≤ 1000000) (high : at.header_size ≤ base) (few : n ≤ 4096) (N : ℕ → ℕ) (none_stays : N 0 ≡ 0) (G : ℕ → Type 0) where
  pub record Renewable (w : List ℕ) : Type 0 where
    pub based : dpcs_base w ≡ base
    pub long : base + 32 * n ≤ length w
    pub news : (t : ℕ) → t < n → G (suc t) → get_or w (base + 32 * t + at.new_number) 0 ≡ N (suc t)

  abbrev pub Good : ℕ → Type 0
  Good y = (1 ≤ y) × (y ≤ n) × G y

  pub new_is : (w : List ℕ) → Renewable w → (y : ℕ) → (y ≡ 0) ⊎ Good y → new_number w y ≡ N y
  unfolding new_number
  new_is w r y (inl e) = ap (λ (b : Bool). cond b 0 (get_or w (place_at w y + at.new_number) 0)) (eq-eqb y 0 e) ∙ sym (ap N e ∙ none_stays)
  new_is w r zero (inr g) = absurd (omega (arith, g.0))
  new_is w r (suc t) (inr g) = new-at w base low r.based t (omega (arith, g.1)) ∙ r.news t (omega (arith, g.1)) g.2

  -- a store to a link leaves that so
  renewable-set : (w : List ℕ) (y v : ℕ) → y ≤ n → Renewable w → Renewable (set w (link_at (queue_of base) y) v)
  renewable-set w y v h r = record {
    based = base-depends w (set w (link_at (queue_of base) y) v) (keeps 0 (omega arith)) (keeps 1 (omega arith)) ∙ r.based;
    long = omega (arith, r.long, length-set w (link_at (queue_of base) y) v);
    news = λ t l g. read-other w (link_at (queue_of base) y) (base + 32 * t + at.new_number) v
        (queue-place base high (λ p. base + 32 * t + 21 ≡ p → ⊥) y (omega arith) (λ e q. omega arith) (λ u e q. omega arith)) ∙ r.news t l g;
  }
    where
      keeps : (p : ℕ) → p ≤ 1 → get_or (set w (link_at (queue_of base) y) v) p 0 ≡ get_or w p 0
      keeps p l = read-other w (link_at (queue_of base) y) p v (queue-place base high (λ q. p ≡ q → ⊥) y (omega arith) (λ e q. omega arith) (λ u e q. omega arith))

  -- the links from that of `x` on do not see a store to another
  pub queued-depends : (w w' : List ℕ) (x : ℕ) (xs : List ℕ) → ((y : ℕ) → Mem y (x ∷ xs) → get_or w' (link_at (queue_of base) y) 0 ≡ get_or w (link_at (queue_of base) y) 0) → Queued w (queue_of base) x xs → Queued w' (queue_of base) x xs
  queued-depends w w' x [] same q = same x (inl refl) ∙ q
  queued-depends w w' x (y ∷ ys) same q = (same x (inl refl) ∙ q.0, queued-depends w w' y ys (λ z m. same z (inr m)) q.1)

  pub length-renewed : (m : ℕ) (w : List ℕ) (before : ℕ) → length (links_renewed_in m w (queue_of base) before) ≡ length w
  unfolding links_renewed_in link_renewed
  length-renewed zero w before = refl
  length-renewed (suc m) w before =
      go (eqb (next_of w (queue_of base) before) 0)
      (length-renewed m (set w (link_at (queue_of base) before) (new_number w (next_of w (queue_of base) before))) (next_of w (queue_of base) before))
    where
      w₁ : List ℕ
      w₁ = set w (link_at (queue_of base) before) (new_number w (next_of w (queue_of base) before))

      go : (b : Bool) → length (links_renewed_in m w₁ (queue_of base) (next_of w (queue_of base) before)) ≡ length w₁
          → length (cond b w₁ (links_renewed_in m w₁ (queue_of base) (next_of w (queue_of base) before))) ≡ length w
      go true ih = length-set w (link_at (queue_of base) before) (new_number w (next_of w (queue_of base) before))
      go false ih = ih ∙ length-set w (link_at (queue_of base) before) (new_number w (next_of w (queue_of base) before))

  -- one step: the link of `before`, whose next is `x`
  renew-end : (m : ℕ) (w : List ℕ) (before : ℕ) → get_or w (link_at (queue_of base) before) 0 ≡ 0 → links_renewed_in (suc m) w (queue_of base) before ≡ set w (link_at (queue_of base) before) (new_number w 0)
  unfolding links_renewed_in link_renewed next_of
  renew-end m w before e = ap (λ (x : ℕ). cond (eqb x 0) (set w (link_at (queue_of base) before) (new_number w x)) (links_renewed_in m (set w (link_at (queue_of base) before) (new_number w x)) (queue_of base) x)) e

  renew-next : (m : ℕ) (w : List ℕ) (before x : ℕ) → get_or w (link_at (queue_of base) before) 0 ≡ x → 1 ≤ x
      → links_renewed_in (suc m) w (queue_of base) before ≡ links_renewed_in m (set w (link_at (queue_of base) before) (new_number w x)) (queue_of base) x
  unfolding links_renewed_in link_renewed next_of
  renew-next m w before x e h =
      ap (λ (x : ℕ). cond (eqb x 0) (set w (link_at (queue_of base) before) (new_number w x)) (links_renewed_in m (set w (link_at (queue_of base) before) (new_number w x)) (queue_of base) x)) e
      ∙ ap (λ (b : Bool). cond b (set w (link_at (queue_of base) before) (new_number w x)) (links_renewed_in m (set w (link_at (queue_of base) before) (new_number w x)) (queue_of base) x)) (ne_eqb x 0 (λ q. omega arith))

  pub renewed-outside : (ns : List ℕ) (m : ℕ) (R : ℕ → Type 0) (w : List ℕ) (before : ℕ) → Queued w (queue_of base) before ns → Distinct (before ∷ ns) → before ≤ n → ((y : ℕ) → Mem y ns → Good y)
      → ((y : ℕ) → Mem y (before ∷ ns) → R (link_at (queue_of base) y) → ⊥) → Same R w (links_renewed_in m w (queue_of base) before)
  unfolding links_renewed_in
  renewed-outside ns zero R w before q d h good far j r = refl
  renewed-outside [] (suc m) R w before q d h good far j r =
      ap (λ (v : List ℕ). get_or v j 0) (renew-end m w before q) ∙ set-outside R w (link_at (queue_of base) before) (new_number w 0) (far before (inl refl)) j r
  renewed-outside (x ∷ xs) (suc m) R w before q d h good far j r =
      ap (λ (v : List ℕ). get_or v j 0) (renew-next m w before x q.0 (good x (inl refl)).0)
      ∙ renewed-outside xs m R (set w (link_at (queue_of base) before) (new_number w x)) x
      (queued-depends w (set w (link_at (queue_of base) before) (new_number w x)) x xs
      (λ y i. read-other w (link_at (queue_of base) before) (link_at (queue_of base) y) (new_number w x) (λ e. d.0 (subst (λ (z : ℕ). Mem z (x ∷ xs)) (apart y i e) i))) q.1)
      d.1 (good x (inl refl)).1 (λ y i. good y (inr i)) (λ y i. far y (inr i)) j r
      ∙ set-outside R w (link_at (queue_of base) before) (new_number w x) (far before (inl refl)) j r
    where
      apart : (y : ℕ) → Mem y (x ∷ xs) → link_at (queue_of base) y ≡ link_at (queue_of base) before → y ≡ before
      apart y i e = queue-apart base high y before (omega (arith, (good y i).1)) (omega arith) e

  pub renewed-shows : (ns : List ℕ) (m : ℕ) (w : List ℕ) (before : ℕ) → length ns < m → Renewable w → Queued w (queue_of base) before ns → Distinct (before ∷ ns) → before ≤ n
      → ((y : ℕ) → Mem y ns → Good y) → ((y : ℕ) → Mem y (before ∷ ns) → link_at (queue_of base) y < length w)
      → (y : ℕ) → Mem y (before ∷ ns) → get_or (links_renewed_in m w (queue_of base) before) (link_at (queue_of base) y) 0 ≡ N (get_or w (link_at (queue_of base) y) 0)
  renewed-shows ns zero w before l r q d h good inside y i = absurd (omega arith)
  renewed-shows [] (suc m) w before l r q d h good inside y (inr i) = absurd i
  renewed-shows [] (suc m) w before l r q d h good inside y (inl e) =
      ap (λ (v : List ℕ). get_or v (link_at (queue_of base) y) 0) (renew-end m w before q)
      ∙ ap (λ (z : ℕ). get_or (set w (link_at (queue_of base) before) (new_number w 0)) (link_at (queue_of base) z) 0) e
      ∙ read_same w (link_at (queue_of base) before) (new_number w 0) (inside before (inl refl)) ∙ new_is w r 0 (inl refl)
      ∙ ap N (sym q ∙ ap (λ (z : ℕ). get_or w (link_at (queue_of base) z) 0) (sym e))
  renewed-shows (x ∷ xs) (suc m) w before l r q d h good inside y i =
      ap (λ (v : List ℕ). get_or v (link_at (queue_of base) y) 0) (renew-next m w before x q.0 (good x (inl refl)).0) ∙ go i
      (renewed-shows xs m w₁ x (omega arith) r₁ q₁ d.1 (good x (inl refl)).1 (λ y i. good y (inr i)) (λ y i. longer y (inr i)) y)
    where
      w₁ : List ℕ
      w₁ = set w (link_at (queue_of base) before) (new_number w x)

      r₁ : Renewable w₁
      r₁ = renewable-set w before (new_number w x) h r

      longer : (y : ℕ) → Mem y (before ∷ x ∷ xs) → link_at (queue_of base) y < length w₁
      longer y i = let z = inside y i in omega (arith, length-set w (link_at (queue_of base) before) (new_number w x))

      others : (y : ℕ) → Mem y (x ∷ xs) → get_or w₁ (link_at (queue_of base) y) 0 ≡ get_or w (link_at (queue_of base) y) 0
      others y i = read-other w (link_at (queue_of base) before) (link_at (queue_of base) y) (new_number w x)
          (λ e. d.0 (subst (λ (z : ℕ). Mem z (x ∷ xs)) (queue-apart base high y before (omega (arith, (good y i).1)) (omega arith) e) i))

      q₁ : Queued w₁ (queue_of base) x xs
      q₁ = queued-depends w w₁ x xs others q.1

      go : Mem y (before ∷ x ∷ xs) → (Mem y (x ∷ xs) → get_or (links_renewed_in m w₁ (queue_of base) x) (link_at (queue_of base) y) 0 ≡ N (get_or w₁ (link_at (queue_of base) y) 0))
          → get_or (links_renewed_in m w₁ (queue_of base) x) (link_at (queue_of base) y) 0 ≡ N (get_or w (link_at (queue_of base) y) 0)
      go (inr k) ih = ih k ∙ ap N (others y k)
      go (inl e) ih =
          renewed-outside xs m (λ p. p ≡ link_at (queue_of base) y) w₁ x q₁ d.1 (good x (inl refl)).1 (λ y i. good y (inr i))
          (λ z k u. d.0 (subst (λ (v : ℕ). Mem v (x ∷ xs)) (queue-apart base high z before (omega (arith, (good z k).1)) (omega arith) (u ∙ ap (link_at (queue_of base)) e)) k))
          (link_at (queue_of base) y) refl
          ∙ ap (λ (z : ℕ). get_or w₁ (link_at (queue_of base) z) 0) e ∙ read_same w (link_at (queue_of base) before) (new_number w x) (inside before (inl refl)) ∙ new_is w r x (inr (good x (inl refl)))
          ∙ ap N (sym q.0 ∙ ap (λ (z : ℕ). get_or w (link_at (queue_of base) z) 0) (sym e))
