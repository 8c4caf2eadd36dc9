-- A DPC's number grows by one where a record is made before it: every link of the queue, its first and its last.
use Prim.Native.Nat.{ℕ, zero, suc, ◌+◌, ◌-◌, ◌*◌, ◌≤◌, ◌<◌}
use mathlib.Core.List.{List}
use mathlib.Core.Bool.{Bool, cond}
use mathlib.Core.Path.{◌≡◌, refl, sym, ap, ap₂, ◌∙◌, subst}
use native.Mathlib.Omega.{arith}
use native.Mathlib.Decide.{ℕ_discrete}
use borrow.Author.Tests.{ne_eqb, le-leb}
use lib.ListN.{get_or, set, length, length-set}
use Rattle.words.specs.Layout as at
use Rattle.objects.specs.Objects.{dpcs_base}
use Rattle.chains.specs.declared.Chain.{Chain}
use Rattle.chains.specs.Chain.{link_at}
use Rattle.dpcs.specs.Record.{queue_chain}
use Rattle.dpc_table.specs.Table.{raised_number, number_raised, links_raised_in, links_raised}
use Rattle.agreement_tables.specs.Tables.{Same, queue_of}
use Rattle.agreement_tables.proofs.Moves.{read-other, read_same, set-outside}

-- ---- where the links stand

pub queue-first : (base : ℕ) → link_at (queue_of base) 0 ≡ at.queue_first
unfolding link_at
queue-first base = refl

-- the link of DPC `i + 1` stands in record `i`
pub queue-link : (base : ℕ) → at.header_size ≤ base → (i : ℕ) → i < 4096 → link_at (queue_of base) (suc i) ≡ base + 32 * i + at.next_queued
unfolding link_at
queue-link base high i h =
    ap₂ (λ (a b : Bool). cond a at.queue_first (cond b (base - at.queue_link_before + 32 * suc i) at.queue_first)) (ne_eqb (suc i) 0 (λ e. omega arith)) (le-leb (suc i) 4096 (omega arith))
    ∙ (let z : base - at.queue_link_before + 32 * suc i ≡ base + 32 * i + at.next_queued = omega arith in z)

pub queue-is : (w : List ℕ) (base : ℕ) → dpcs_base w ≡ base → queue_chain w ≡ queue_of base
unfolding queue_chain
queue-is w base based = ap queue_of based

-- by cases: the first, or the link of a record
pub queue-place : (base : ℕ) → at.header_size ≤ base → (Q : ℕ → Type 0) (y : ℕ) → y ≤ 4096 → (y ≡ 0 → Q at.queue_first) → ((t : ℕ) → y ≡ suc t → Q (base + 32 * t + at.next_queued)) → Q (link_at (queue_of base) y)
queue-place base high Q zero h first link = subst Q (sym (queue-first base)) (first refl)
queue-place base high Q (suc t) h first link = subst Q (sym (queue-link base high t (omega arith))) (link t refl)

pub queue-apart : (base : ℕ) → at.header_size ≤ base → (y z : ℕ) → y ≤ 4096 → z ≤ 4096 → link_at (queue_of base) y ≡ link_at (queue_of base) z → y ≡ z
queue-apart base high y z hy hz = queue-place base high (λ p. p ≡ link_at (queue_of base) z → y ≡ z) y hy
    (λ e. queue-place base high (λ p. at.queue_first ≡ p → y ≡ z) z hz (λ q i. e ∙ sym q) (λ t q i. absurd (omega arith)))
    (λ t e. queue-place base high (λ p. base + 32 * t + at.next_queued ≡ p → y ≡ z) z hz (λ q i. absurd (omega arith)) (λ u q i. omega arith))

pub link-first : (w : List ℕ) → link_at (queue_chain w) 0 ≡ at.queue_first
unfolding link_at queue_chain
link-first w = refl

pub link-of : (w : List ℕ) (base : ℕ) → dpcs_base w ≡ base → at.header_size ≤ base → (i : ℕ) → i < 4096 → link_at (queue_chain w) (suc i) ≡ base + 32 * i + at.next_queued
link-of w base based high i h = ap (λ (c : Chain). link_at c (suc i)) (queue-is w base based) ∙ queue-link base high i h

-- ---- `m` links from that of `k` on

module _ (c : Chain) (i : ℕ) where
  length-links : (m : ℕ) (w : List ℕ) (k : ℕ) → length (links_raised_in m w c k i) ≡ length w
  unfolding links_raised_in number_raised
  length-links zero w k = refl
  length-links (suc m) w k =
      length-links m (set w (link_at c k) (raised_number (get_or w (link_at c k) 0) i)) (k + 1) ∙ length-set w (link_at c k) (raised_number (get_or w (link_at c k) 0) i)

  links-outside : (m : ℕ) (R : ℕ → Type 0) (w : List ℕ) (k : ℕ) → ((t : ℕ) → k ≤ t → t < k + m → R (link_at c t) → ⊥) → Same R w (links_raised_in m w c k i)
  unfolding links_raised_in number_raised
  links-outside zero R w k far j r = refl
  links-outside (suc m) R w k far j r =
      links-outside m R (set w (link_at c k) (raised_number (get_or w (link_at c k) 0) i)) (k + 1) (λ t a b. far t (omega arith) (omega arith)) j r
      ∙ set-outside R w (link_at c k) (raised_number (get_or w (link_at c k) 0) i) (far k (omega arith) (omega arith)) j r

  -- where no two of them stand at one place
  links-show : (m : ℕ) (w : List ℕ) (k : ℕ) → ((t u : ℕ) → t < k + m → u < k + m → link_at c t ≡ link_at c u → t ≡ u) → ((t : ℕ) → t < k + m → link_at c t < length w)
      → (t : ℕ) → k ≤ t → t < k + m → get_or (links_raised_in m w c k i) (link_at c t) 0 ≡ raised_number (get_or w (link_at c t) 0) i
  unfolding links_raised_in number_raised
  links-show zero w k apart in_words_lem t lo hi = absurd (omega arith)
  links-show (suc m) w k apart in_words_lem t lo hi = go (ℕ_discrete t k) (λ n.
      links-show m (set w (link_at c k) (raised_number (get_or w (link_at c k) 0) i)) (k + 1) (λ t u a b. apart t u (omega arith) (omega arith))
      (λ t a. let l = in_words_lem t (omega arith) in omega (arith, length-set w (link_at c k) (raised_number (get_or w (link_at c k) 0) i))) t (omega (arith, n)) (omega arith))
    where
      w₁ : List ℕ
      w₁ = set w (link_at c k) (raised_number (get_or w (link_at c k) 0) i)

      go : Dec (t ≡ k) → ((t ≡ k → ⊥) → get_or (links_raised_in m w₁ c (k + 1) i) (link_at c t) 0 ≡ raised_number (get_or w₁ (link_at c t) 0) i)
          → get_or (links_raised_in m w₁ c (k + 1) i) (link_at c t) 0 ≡ raised_number (get_or w (link_at c t) 0) i
      go (yes e) ih =
          links-outside m (λ p. p ≡ link_at c t) w₁ (k + 1) (λ u a b q. let z = apart u t (omega arith) (omega arith) q in omega arith) (link_at c t) refl
          ∙ ap (λ (u : ℕ). get_or w₁ (link_at c u) 0) e ∙ read_same w (link_at c k) (raised_number (get_or w (link_at c k) 0) i) (in_words_lem k (omega arith)) ∙ ap (λ (u : ℕ). raised_number (get_or w (link_at c u) 0) i) (sym e)
      go (no n) ih =
          ih n ∙ ap (λ (v : ℕ). raised_number v i) (read-other w (link_at c k) (link_at c t) (raised_number (get_or w (link_at c k) 0) i) (λ e. n (apart t k (omega arith) (omega arith) e)))

-- ---- all of the queue's, for a table of `n` DPCs

pub length-raised-links : (w : List ℕ) (n i : ℕ) → length (links_raised w n i) ≡ length w
unfolding links_raised number_raised
length-raised-links w n i =
    let w₁ = links_raised_in (n + 1) w (queue_chain w) 0 i in
    length-set w₁ at.queue_last (raised_number (get_or w₁ at.queue_last 0) i) ∙ length-links (queue_chain w) i (n + 1) w 0

module _ (w : List ℕ) (base n i : ℕ) (based : dpcs_base w ≡ base) (high : at.header_size ≤ base) (few : n ≤ 4096) where
  w₁ : List ℕ
  w₁ = links_raised_in (n + 1) w (queue_chain w) 0 i

  -- only word 2 of the records, the queue's first and its last are written
  pub raised-links-outside : (R : ℕ → Type 0) → (R 23 → ⊥) → (R 24 → ⊥) → ((t : ℕ) → t < n → R (base + 32 * t + at.next_queued) → ⊥) → Same R w (links_raised w n i)
  unfolding links_raised number_raised w₁
  raised-links-outside R first last far j r =
      set-outside R w₁ at.queue_last (raised_number (get_or w₁ at.queue_last 0) i) last j r ∙ links-outside (queue_chain w) i (n + 1) R w 0 (λ t a b. go t b) j r
    where
      go : (t : ℕ) → t < 0 + (n + 1) → R (link_at (queue_chain w) t) → ⊥
      go zero h q = first (subst R (link-first w) q)
      go (suc t) h q = far t (omega arith) (subst R (link-of w base based high t (omega arith)) q)

  module _ (long : base + 32 * n ≤ length w) (enough : 25 ≤ length w) where
    place : ℕ → ℕ
    place zero = 23
    place (suc t) = base + 32 * t + at.next_queued

    places : (t : ℕ) → t < n + 1 → link_at (queue_chain w) t ≡ place t
    unfolding place
    places zero h = link-first w
    places (suc t) h = link-of w base based high t (omega arith)

    apart : (t u : ℕ) → place t ≡ place u → t ≡ u
    unfolding place
    apart zero zero e = refl
    apart zero (suc u) e = absurd (omega arith)
    apart (suc t) zero e = absurd (omega arith)
    apart (suc t) (suc u) e = omega arith

    inside : (t : ℕ) → t < n + 1 → (place t < length w) × (place t ≡ at.queue_last → ⊥)
    unfolding place
    inside zero h = (omega arith, λ e. omega arith)
    inside (suc t) h = (omega arith, λ e. omega arith)

    raised_at : (t : ℕ) → t < n + 1 → get_or (links_raised w n i) (link_at (queue_chain w) t) 0 ≡ raised_number (get_or w (link_at (queue_chain w) t) 0) i
    unfolding links_raised number_raised w₁
    raised_at t h =
        read-other w₁ at.queue_last (link_at (queue_chain w) t) (raised_number (get_or w₁ at.queue_last 0) i) (λ e. (inside t h).1 (sym (places t h) ∙ e))
        ∙ links-show (queue_chain w) i (n + 1) w 0 (λ t u a b e. apart t u (sym (places t (omega arith)) ∙ e ∙ places u (omega arith)))
        (λ t a. let l = (inside t (omega arith)).0 in omega (arith, places t (omega arith))) t (omega arith) (omega arith)

    pub raised-first : get_or (links_raised w n i) at.queue_first 0 ≡ raised_number (get_or w at.queue_first 0) i
    raised-first = ap (λ (p : ℕ). get_or (links_raised w n i) p 0) (sym (link-first w)) ∙ raised_at 0 (omega arith) ∙ ap (λ (p : ℕ). raised_number (get_or w p 0) i) (link-first w)

    pub raised-last : get_or (links_raised w n i) at.queue_last 0 ≡ raised_number (get_or w at.queue_last 0) i
    unfolding links_raised number_raised w₁
    raised-last =
        read_same w₁ at.queue_last (raised_number (get_or w₁ at.queue_last 0) i) (omega (arith, length-links (queue_chain w) i (n + 1) w 0))
        ∙ ap (λ (v : ℕ). raised_number v i)
        (links-outside (queue_chain w) i (n + 1) (λ p. p ≡ at.queue_last) w 0 (λ t a b e. (inside t (omega arith)).1 (sym (places t (omega arith)) ∙ e)) 24 refl)

    pub raised-link : (t : ℕ) → t < n → get_or (links_raised w n i) (base + 32 * t + at.next_queued) 0 ≡ raised_number (get_or w (base + 32 * t + at.next_queued) 0) i
    raised-link t h =
        let e = link-of w base based high t (omega arith) in
        ap (λ (p : ℕ). get_or (links_raised w n i) p 0) (sym e) ∙ raised_at (suc t) (omega arith) ∙ ap (λ (p : ℕ). raised_number (get_or w p 0) i) e
