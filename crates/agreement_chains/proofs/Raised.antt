-- The DPC queue when a DPC is made: every number above its position is one more, in every link, the first and the last.
use Prim.Native.Nat.{ℕ, zero, suc, ◌+◌, ◌≤◌, ◌<◌}
use mathlib.Core.List.{List, ◌∷◌, map}
use mathlib.Core.Path.{◌≡◌, refl, sym, ap, ◌∙◌, subst}
use mathlib.Core.Logic.{inl, inr}
use native.Mathlib.Omega.{arith}
use native.Mathlib.Decide.{ℕ_discrete, dec_le}
use borrow.Author.Tests.{le-leb, lt-leb}
use lib.ListN.{get_or, length, length-set}
use Rattle.words.specs.Layout as at
use Rattle.chains.specs.declared.Chain.{Chain}
use Rattle.chains.specs.Chain.{link_at}
use Rattle.dpcs.specs.Record.{queue_chain}
use Rattle.dpc_table.specs.Table.{raised_number, number_raised, links_raised_in, links_raised}
use Rattle.model.specs.Lists.{Mem}
use Rattle.agreement_chains.specs.Chains.{Holds, Standing, Same, Places, Apart}
use Rattle.agreement_chains.proofs.Frames.{read-other, read_same, in-range}
use Rattle.agreement_chains.proofs.Renumbers.{holds-renumbered, standing-renumbered, rising-apart}

-- ---- the new number

-- a number up to the position stays
pub raised-low : (y i : ℕ) → y ≤ i → raised_number y i ≡ y
unfolding raised_number
raised-low y i h = simp (le-leb y i h)

-- one above it is one more
pub raised-high : (y i : ℕ) → i < y → y < 4096 → raised_number y i ≡ y + 1
unfolding raised_number
raised-high y i h k = simp (lt-leb y i h, lt-leb 4096 y k)

-- ---- the links

pub length-number : (w : List ℕ) (place i : ℕ) → length (number_raised w place i) ≡ length w
unfolding number_raised
length-number w place i = length-set w place (raised_number (get_or w place 0) i)

number-other : (w : List ℕ) (place i j : ℕ) → (j ≡ place → ⊥) → get_or (number_raised w place i) j 0 ≡ get_or w j 0
unfolding number_raised
number-other w place i j n = read-other w place j (raised_number (get_or w place 0) i) n

number_same : (w : List ℕ) (place i : ℕ) → place < length w → get_or (number_raised w place i) place 0 ≡ raised_number (get_or w place 0) i
unfolding number_raised
number_same w place i h = read_same w place (raised_number (get_or w place 0) i) h

pub length-links : (m : ℕ) (w : List ℕ) (c : Chain) (k i : ℕ) → length (links_raised_in m w c k i) ≡ length w
unfolding links_raised_in
length-links zero w c k i = refl
length-links (suc m) w c k i = length-links m (number_raised w (link_at c k) i) c (k + 1) i ∙ length-number w (link_at c k) i

links-other : (m : ℕ) (w : List ℕ) (c : Chain) (k i j : ℕ) → ((y : ℕ) → k ≤ y → y < k + m → j ≡ link_at c y → ⊥) → get_or (links_raised_in m w c k i) j 0 ≡ get_or w j 0
unfolding links_raised_in
links-other zero w c k i j out = refl
links-other (suc m) w c k i j out =
    links-other m (number_raised w (link_at c k) i) c (k + 1) i j (λ y a b. out y (omega arith) (omega arith))
    ∙ number-other w (link_at c k) i j (out k (omega arith) (omega arith))

links-raised : (m : ℕ) (w : List ℕ) (c : Chain) (n k i y : ℕ) → Apart c n (length w) → k + m ≤ suc n → k ≤ y → y < k + m
    → get_or (links_raised_in m w c k i) (link_at c y) 0 ≡ raised_number (get_or w (link_at c y) 0) i
unfolding links_raised_in
links-raised zero w c n k i y apart all from to = absurd (omega arith)
links-raised (suc m) w c n k i y apart all from to =
    go (ℕ_discrete y k) (λ ne. links-raised m w₁ c n (k + 1) i y (subst (Apart c n) (sym (length-number w (link_at c k) i)) apart) (omega arith) (omega (arith, ne)) (omega arith))
  where
    w₁ : List ℕ
    w₁ = number_raised w (link_at c k) i

    go : Dec (y ≡ k) → ((y ≡ k → ⊥) → get_or (links_raised_in m w₁ c (k + 1) i) (link_at c y) 0 ≡ raised_number (get_or w₁ (link_at c y) 0) i)
        → get_or (links_raised_in m w₁ c (k + 1) i) (link_at c y) 0 ≡ raised_number (get_or w (link_at c y) 0) i
    go (yes e) ih =
        links-other m w₁ c (k + 1) i (link_at c y) (λ z a b q. let s : y ≡ z = apart.links y z (omega arith) (omega arith) q in omega (arith, s))
        ∙ subst (λ (z : ℕ). get_or w₁ (link_at c z) 0 ≡ raised_number (get_or w (link_at c z) 0) i) (sym e) (number_same w (link_at c k) i (apart.link_in k (omega arith)))
    go (no ne) ih =
        ih ne ∙ ap (λ (v : ℕ). raised_number v i) (number-other w (link_at c k) i (link_at c y) (λ q. ne (apart.links y k (omega arith) (omega arith) q)))

-- ---- all of them, and the last

module _ (w : List ℕ) (n i : ℕ) (apart : Apart (queue_chain w) n (length w)) where
  c : Chain
  c = queue_chain w

  inner : List ℕ
  inner = links_raised_in (n + 1) w c 0 i

  last-place : c.last ≡ at.queue_last
  unfolding c queue_chain
  last-place = refl

  raised_is : links_raised w n i ≡ number_raised inner at.queue_last i
  unfolding links_raised inner c
  raised_is = refl

  not_last : (y : ℕ) → y ≤ n → link_at c y ≡ at.queue_last → ⊥
  unfolding c
  not_last y le e = apart.not_last y le (e ∙ sym last-place)

  pub length-raised : length (links_raised w n i) ≡ length w
  unfolding inner
  length-raised = ap length raised_is ∙ length-number inner at.queue_last i ∙ length-links (n + 1) w c 0 i

  pub raised-link : (y : ℕ) → y ≤ n → get_or (links_raised w n i) (link_at (queue_chain w) y) 0 ≡ raised_number (get_or w (link_at (queue_chain w) y) 0) i
  unfolding inner c
  raised-link y le =
      ap (λ (v : List ℕ). get_or v (link_at c y) 0) raised_is
      ∙ number-other inner at.queue_last i (link_at c y) (not_last y le)
      ∙ links-raised (n + 1) w c n 0 i y apart (omega arith) (omega arith) (omega arith)

  pub raised-last : get_or (links_raised w n i) at.queue_last 0 ≡ raised_number (get_or w at.queue_last 0) i
  unfolding inner c
  raised-last =
      ap (λ (v : List ℕ). get_or v at.queue_last 0) raised_is
      ∙ number_same inner at.queue_last i
      (subst (λ (k : ℕ). at.queue_last < k) (sym (length-links (n + 1) w c 0 i)) (subst (λ (k : ℕ). k < length w) last-place apart.last_in))
      ∙ ap (λ (v : ℕ). raised_number v i) (links-other (n + 1) w c 0 i at.queue_last (λ y a b e. not_last y (omega arith) (sym e)))

  -- it writes places of the queue
  pub raised-outside : (R : ℕ → Type 0) → ((j : ℕ) → Places (queue_chain w) n j → R j → ⊥) → Same R w (links_raised w n i)
  unfolding inner c
  raised-outside R out j x =
      ap (λ (v : List ℕ). get_or v j 0) raised_is
      ∙ number-other inner at.queue_last i j (λ e. out j (inl (e ∙ sym last-place)) x)
      ∙ links-other (n + 1) w c 0 i j (λ y a b e. out j (inr (y, omega arith, e)) x)

  -- record y is record `raised_number y i` afterwards, and the first and the last stay where they are
  pub holds-raised : (w' : List ℕ) (xs : List ℕ) → Standing n xs → Holds w (queue_chain w) xs
      → ((y : ℕ) → Mem y (0 ∷ xs) → get_or w' (link_at (queue_chain w) (raised_number y i)) 0 ≡ get_or (links_raised w n i) (link_at (queue_chain w) y) 0)
      → get_or w' at.queue_last 0 ≡ get_or (links_raised w n i) at.queue_last 0 → Holds w' (queue_chain w) (map (λ (y : ℕ). raised_number y i) xs)
  unfolding c
  holds-raised w' xs st h moved end =
      holds-renumbered (λ (y : ℕ). raised_number y i) w w' c c xs h (raised-low 0 i (omega arith))
      (λ y m. moved y m ∙ raised-link y (in-range n xs st y m))
      (subst (λ (k : ℕ). get_or w' k 0 ≡ raised_number (get_or w k 0) i) (sym last-place) (end ∙ raised-last))

-- the new numbers are of 1 to one more, none twice
pub standing-raised : (n i : ℕ) (xs : List ℕ) → n < 4096 → Standing n xs → Standing (suc n) (map (λ (y : ℕ). raised_number y i) xs)
standing-raised n i xs few st =
    standing-renumbered (λ (y : ℕ). raised_number y i) n (suc n) xs st (λ y m. range y (st.within y m).0 (st.within y m).1)
    (rising-apart (λ (y : ℕ). raised_number y i) xs (λ y z a b l. up y z (st.within y a).1 (st.within z b).1 l))
  where
    range : (y : ℕ) → 1 ≤ y → y ≤ n → (1 ≤ raised_number y i) × (raised_number y i ≤ suc n)
    range y one le = elim (dec_le y i) [
      | yes h ↦ (omega (arith, raised-low y i h), omega (arith, raised-low y i h))
      | no k ↦ let e = raised-high y i (omega (arith, k)) (omega arith) in (omega (arith, e), omega (arith, e))
    ]

    up : (y z : ℕ) → y ≤ n → z ≤ n → y < z → raised_number y i < raised_number z i
    up y z a b l = elim (dec_le y i) [
      | yes h ↦ elim (dec_le z i) [
        | yes k ↦ omega (arith, raised-low y i h, raised-low z i k)
        | no k ↦ omega (arith, raised-low y i h, raised-high z i (omega (arith, k)) (omega arith))
      ]
      | no h ↦ omega (arith, raised-high y i (omega (arith, h)) (omega arith), raised-high z i (omega (arith, h)) (omega arith))
    ]
