-- The new numbers that DPCs get before some are taken out: of those that stay, the first gets 1, the next 2, and so on.
use Prim.Native.Nat.{ℕ, zero, suc, ◌+◌, ◌-◌, ◌*◌, ◌≤◌, ◌<◌}
use mathlib.Core.List.{List, map}
use mathlib.Core.Bool.{Bool, true, false, cond, not}
use mathlib.Core.Path.{◌≡◌, refl, sym, ap, ◌∙◌, subst}
use mathlib.Core.Logic.{◌⊎◌, inl, inr}
use native.Mathlib.Omega.{arith}
use native.Mathlib.Decide.{ℕ_discrete}
use native.Mathlib.Numerals.{add-one}
use borrow.Author.Tests.{ne_eqb}
use lib.Dec.{eqb}
use lib.ListN.{get_or, set, length, length-set}
use Rattle.words.specs.Layout as at
use Rattle.words.specs.Layout.{entry_at}
use Rattle.objects.specs.Objects.{dpcs_base}
use Rattle.dpcs.specs.Record.{place_at, dpc_count, queue_chain}
use Rattle.dpc_table.specs.Table.{number_put, number_to, numbered_in, numbered, new_number}
use Rattle.dpcs.proofs.RecordLaws.{base-least, count_most}
use Rattle.model.specs.Lists.{Mem}
use Rattle.model.proofs.ListLaws.{not-both}
use Rattle.agreement_chains.specs.Chains.{Holds, Standing, Same, Own}
use Rattle.agreement_chains.specs.Numbers.{stays, kept_below}
use Rattle.agreement_chains.proofs.Frames.{read-other, read_same, own-place, holds-depends}
use Rattle.agreement_chains.proofs.Renumbers.{standing-renumbered, rising-apart}
use Rattle.agreement_chains.proofs.Places.{queue-cases, base-depends, queue-depends, entry-is, place_is}

-- ---- how many stay below a position

pub kept_step : (f : ℕ → Bool) (i : ℕ) → f i ≡ true → kept_below f (suc i) ≡ suc (kept_below f i)
kept_step f i e = ap (λ (b : Bool). cond b (suc (kept_below f i)) (kept_below f i)) e

pub kept-mono : (f : ℕ → Bool) (i j : ℕ) → i ≤ j → kept_below f i ≤ kept_below f j
kept-mono f i zero l = let e : i ≡ 0 = omega arith in omega (arith, ap (kept_below f) e)
kept-mono f i (suc j) l = go (ℕ_discrete i (suc j)) (kept-mono f i j)
  where
    go : Dec (i ≡ suc j) → (i ≤ j → kept_below f i ≤ kept_below f j) → kept_below f i ≤ kept_below f (suc j)
    go (yes e) ih = omega (arith, ap (kept_below f) e)
    go (no n) ih = more (f j) (ih (omega (arith, n)))
      where
        more : (b : Bool) → kept_below f i ≤ kept_below f j → kept_below f i ≤ cond b (suc (kept_below f j)) (kept_below f j)
        more true h = omega arith
        more false h = h

-- one that stays has fewer before it than any behind it
pub kept-rises : (f : ℕ → Bool) (i j : ℕ) → f i ≡ true → i < j → kept_below f i < kept_below f j
kept-rises f i j e l = omega (arith, kept_step f i e, kept-mono f (suc i) j l)

-- ---- one record

module _ (base : ℕ) (near : base ≤ 1000000) (v : List ℕ) (i last : ℕ) (few : i ≤ 8192) where
  marked : Bool
  marked = eqb (get_or v (base + 32 * i + at.phase) 0) 9

  put_is : number_put v (entry_at base i) last ≡ cond marked v (set v (base + 32 * i + at.new_number) (last + 1))
  unfolding number_put marked
  put_is = ap (λ (p : ℕ). cond (eqb (get_or v (p + at.phase) 0) 9) v (set v (p + at.new_number) (last + 1))) (entry-is base i near few)

  to_is : (f : ℕ → Bool) → stays v base i ≡ f i → last ≡ kept_below f i → number_to v (entry_at base i) last ≡ kept_below f (i + 1)
  unfolding number_to marked
  to_is f s e =
      ap (λ (p : ℕ). cond (eqb (get_or v (p + at.phase) 0) 9) last (last + 1)) (entry-is base i near few)
      ∙ go marked (f i) s ∙ ap (kept_below f) (sym (add-one i))
    where
      go : (m b : Bool) → not m ≡ b → cond m last (last + 1) ≡ cond b (suc (kept_below f i)) (kept_below f i)
      go true false q = e
      go false true q = omega (arith, e)
      go true true q = absurd (not-both (sym q))
      go false false q = absurd (not-both q)

  put_other : (j : ℕ) → (j ≡ base + 32 * i + at.new_number → ⊥) → get_or (number_put v (entry_at base i) last) j 0 ≡ get_or v j 0
  put_other j ne = ap (λ (u : List ℕ). get_or u j 0) put_is ∙ go marked
    where
      go : (m : Bool) → get_or (cond m v (set v (base + 32 * i + at.new_number) (last + 1))) j 0 ≡ get_or v j 0
      go true = refl
      go false = read-other v (base + 32 * i + at.new_number) j (last + 1) ne

  put_same : stays v base i ≡ true → base + 32 * i + at.new_number < length v → get_or (number_put v (entry_at base i) last) (base + 32 * i + at.new_number) 0 ≡ suc last
  unfolding marked
  put_same s inside = ap (λ (u : List ℕ). get_or u (base + 32 * i + at.new_number) 0) put_is ∙ go marked s
    where
      go : (m : Bool) → not m ≡ true → get_or (cond m v (set v (base + 32 * i + at.new_number) (last + 1))) (base + 32 * i + at.new_number) 0 ≡ suc last
      go true q = absurd (not-both (sym q))
      go false q = read_same v (base + 32 * i + at.new_number) (last + 1) inside ∙ add-one last

  put-length : length (number_put v (entry_at base i) last) ≡ length v
  put-length = ap length put_is ∙ go marked
    where
      go : (m : Bool) → length (cond m v (set v (base + 32 * i + at.new_number) (last + 1))) ≡ length v
      go true = refl
      go false = length-set v (base + 32 * i + at.new_number) (last + 1)

-- ---- all from position `i` on

module _ (base n : ℕ) (near : base ≤ 1000000) (few : n ≤ 4096) (f : ℕ → Bool) where
  record Given (v v' : List ℕ) (i : ℕ) : Type 0 where
    others : (j : ℕ) → ((k : ℕ) → i ≤ k → k < n → j ≡ base + 32 * k + 21 → ⊥) → get_or v' j 0 ≡ get_or v j 0
    own : (k : ℕ) → i ≤ k → k < n → f k ≡ true → get_or v' (base + 32 * k + at.new_number) 0 ≡ suc (kept_below f k)
    size : length v' ≡ length v

  given-in : (m : ℕ) (v : List ℕ) (i last : ℕ) → i + m ≡ n → base + 32 * n ≤ length v → ((k : ℕ) → i ≤ k → k < n → stays v base k ≡ f k)
      → last ≡ kept_below f i → Given v (numbered_in m v base i last) i
  unfolding numbered_in
  given-in zero v i last all long same e = record { others = λ j out. refl; own = λ k a b t. absurd (omega arith); size = refl }
  given-in (suc m) v i last all long same e =
      go (given-in m v₁ (i + 1) last₁ (omega arith) (omega (arith, put-length base near v i last low))
      (λ k a b. ap (λ (x : ℕ). not (eqb x 9)) (put_other base near v i last low (base + 32 * k + at.phase) (λ q. omega (arith, q))) ∙ same k (omega arith) b)
      (to_is base near v i last low f (same i (omega arith) (omega arith)) e))
    where
      low : i ≤ 8192
      low = omega arith

      v₁ : List ℕ
      v₁ = number_put v (entry_at base i) last

      last₁ : ℕ
      last₁ = number_to v (entry_at base i) last

      go : Given v₁ (numbered_in m v₁ base (i + 1) last₁) (i + 1) → Given v (numbered_in m v₁ base (i + 1) last₁) i
      go g = record {
        others = λ j out. g.others j (λ k a b. out k (omega arith) b) ∙ put_other base near v i last low j (out i (omega arith) (omega arith));
        own = λ k a b t. own k a b t (ℕ_discrete k i);
        size = g.size ∙ put-length base near v i last low;
      }
        where
          own : (k : ℕ) → i ≤ k → k < n → f k ≡ true → Dec (k ≡ i) → get_or (numbered_in m v₁ base (i + 1) last₁) (base + 32 * k + at.new_number) 0 ≡ suc (kept_below f k)
          own k a b t (no ne) = g.own k (omega (arith, ne)) b t
          own k a b t (yes q) = subst (λ (z : ℕ). get_or (numbered_in m v₁ base (i + 1) last₁) (base + 32 * z + at.new_number) 0 ≡ suc (kept_below f z)) (sym q)
              (g.others (base + 32 * i + at.new_number) (λ z c d s. omega (arith, s))
              ∙ put_same base near v i last low (same i (omega arith) (omega arith) ∙ ap f (sym q) ∙ t) (omega arith) ∙ ap suc e)

-- ---- the table of DPCs

module _ (w : List ℕ) (near : dpcs_base w ≤ 1000000) (long : dpcs_base w + 32 * dpc_count w ≤ length w) where
  abbrev keeps : ℕ → Bool
  keeps = stays w (dpcs_base w)

  given : Given (dpcs_base w) (dpc_count w) near (count_most w) keeps w (numbered w) 0
  unfolding numbered
  given = given-in (dpcs_base w) (dpc_count w) near (count_most w) keeps (dpc_count w) w 0 0 (omega arith) long (λ k a b. refl) refl

  pub length-numbered : length (numbered w) ≡ length w
  length-numbered = given.size

  -- it writes word 21 of records
  pub numbered-outside : (R : ℕ → Type 0) → ((i : ℕ) → i < dpc_count w → R (dpcs_base w + 32 * i + at.new_number) → ⊥) → Same R w (numbered w)
  numbered-outside R out j x = given.others j (λ k a b e. out k b (subst R e x))

  numbered-limits : Same (λ (j : ℕ). j ≤ 1) w (numbered w)
  numbered-limits = numbered-outside (λ (j : ℕ). j ≤ 1) (λ i l h. omega arith)

  pub base-numbered : dpcs_base (numbered w) ≡ dpcs_base w
  base-numbered = base-depends w (numbered w) numbered-limits

  -- the queue stays as it is
  pub holds-numbered : (n : ℕ) (xs : List ℕ) → n ≤ 4096 → Standing n xs → Holds w (queue_chain w) xs → Holds (numbered w) (queue_chain (numbered w)) xs
  holds-numbered n xs few st h =
      subst (λ c. Holds (numbered w) c xs) (sym (queue-depends w (numbered w) numbered-limits))
      (holds-depends w (queue_chain w) xs h (numbered w)
      (numbered-outside (Own (queue_chain w) xs) (λ i l own. go i (queue-cases w n (dpcs_base w + 32 * i + at.new_number) few (own-place n xs st (queue_chain w) (dpcs_base w + 32 * i + at.new_number) own)))))
    where
      low : at.unused ≤ dpcs_base w
      low = base-least w

      go : (i : ℕ) → (dpcs_base w + 32 * i + at.new_number ≡ at.queue_last) ⊎ ((dpcs_base w + 32 * i + at.new_number ≡ at.queue_first) ⊎ ((y : ℕ) × (1 ≤ y) × (y ≤ n) × (dpcs_base w + 32 * i + at.new_number ≡ dpcs_base w - at.queue_link_before + 32 * y))) → ⊥
      go i (inl e) = omega (arith, low)
      go i (inr (inl e)) = omega (arith, low)
      go i (inr (inr (y, o, k, e))) = omega (arith, low)

  -- the new number of a DPC that stays
  pub new_is : (y : ℕ) → 1 ≤ y → y ≤ dpc_count w → stays w (dpcs_base w) (y - 1) ≡ true → new_number (numbered w) y ≡ suc (kept_below (stays w (dpcs_base w)) (y - 1))
  unfolding new_number
  new_is y one le t =
      ap (λ (b : Bool). cond b 0 (get_or (numbered w) (place_at (numbered w) y + at.new_number) 0)) (ne_eqb y 0 (λ e. omega (arith, e)))
      ∙ ap (λ (p : ℕ). get_or (numbered w) (p + at.new_number) 0)
      (place_is (numbered w) y (omega (arith, near, base-numbered)) one (omega (arith, count_most w)) ∙ ap (λ (b : ℕ). b + 32 * (y - 1)) base-numbered)
      ∙ given.own (y - 1) (omega arith) (omega arith) t

  -- members that all stay get numbers of 1 to as many as stay, none twice
  pub standing-numbered : (xs : List ℕ) → Standing (dpc_count w) xs → ((y : ℕ) → Mem y xs → stays w (dpcs_base w) (y - 1) ≡ true)
      → Standing (kept_below (stays w (dpcs_base w)) (dpc_count w)) (map (new_number (numbered w)) xs)
  standing-numbered xs st all =
      standing-renumbered (new_number (numbered w)) (dpc_count w) (kept_below keeps (dpc_count w)) xs st range
      (rising-apart (new_number (numbered w)) xs up)
    where
      is : (y : ℕ) → Mem y xs → new_number (numbered w) y ≡ suc (kept_below keeps (y - 1))
      is y m = new_is y (st.within y m).0 (st.within y m).1 (all y m)

      range : (y : ℕ) → Mem y xs → (1 ≤ new_number (numbered w) y) × (new_number (numbered w) y ≤ kept_below keeps (dpc_count w))
      range y m =
          let k = st.within y m in
          (omega (arith, is y m), omega (arith, is y m, kept-rises keeps (y - 1) (dpc_count w) (all y m) (omega (arith, k.0, k.1))))

      up : (y z : ℕ) → Mem y xs → Mem z xs → y < z → new_number (numbered w) y < new_number (numbered w) z
      up y z a b l = omega (arith, is y a, is z b, kept-rises keeps (y - 1) (z - 1) (all y a) (omega (arith, l, (st.within y a).0)))
