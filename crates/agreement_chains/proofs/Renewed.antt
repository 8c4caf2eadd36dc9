-- The DPC queue when DPCs are taken out: each link along it, the first and the last become the new numbers of what they were.
use Prim.Native.Nat.{ℕ, zero, suc, ◌+◌, ◌-◌, ◌*◌, ◌≤◌, ◌<◌}
use mathlib.Core.List.{List, [], ◌∷◌, map}
use mathlib.Core.Bool.{cond}
use mathlib.Core.Path.{◌≡◌, refl, sym, ap, ◌∙◌, subst}
use mathlib.Core.Logic.{◌⊎◌, inl, inr}
use native.Mathlib.Omega.{arith}
use lib.Dec.{eqb, ltb}
use lib.ListN.{get_or, set, length, length-set}
use Rattle.words.specs.Layout as at
use Rattle.words.specs.Layout.{entry_at}
use Rattle.chains.specs.declared.Chain.{Chain}
use Rattle.chains.specs.Chain.{link_at, next_of}
use Rattle.objects.specs.Objects.{dpcs_base}
use Rattle.dpcs.specs.Record.{place_at, queue_chain}
use Rattle.dpc_table.specs.Table.{new_number, link_renewed, links_renewed_in, links_renewed, relinked}
use Rattle.dpcs.proofs.RecordLaws.{base-least}
use Rattle.dpc_table.proofs.TableLaws.{renewed-stop, renewed-more}
use Rattle.model.specs.Lists.{Mem, Distinct}
use Rattle.agreement_chains.specs.Chains.{Linked, last_from, Holds, Standing, Same, Own, Places, Apart}
use Rattle.agreement_chains.specs.Numbers.{Told}
use Rattle.agreement_chains.proofs.Links.{relink, last_mem}
use Rattle.agreement_chains.proofs.Frames.{read-other, read_same, in-range, distinct-zero, standing-length}
use Rattle.agreement_chains.proofs.Renumbers.{holds-renumbered}
use Rattle.agreement_chains.proofs.Places.{queue-cases, base-depends, place_is}

-- ---- new numbers are read from few words

pub new-zero : (w : List ℕ) → new_number w 0 ≡ 0
unfolding new_number
new-zero w = refl

module _ (n : ℕ) (w v : List ℕ) (same : Same (Told w n) w v) where
  place_same : (y : ℕ) → place_at v y ≡ place_at w y
  unfolding place_at
  place_same y = ap (λ (b : ℕ). cond (eqb y 0) at.unused (cond (ltb 4096 y) at.unused (entry_at b (y - 1)))) (base-depends w v (λ j le. same j (inl le)))

  pub new-depends : (y : ℕ) → y ≤ n → new_number v y ≡ new_number w y
  unfolding new_number
  new-depends zero le = refl
  new-depends (suc k) le =
      ap (λ (m : ℕ). cond (eqb (suc k) 0) 0 m)
      (ap (λ (p : ℕ). get_or v (p + at.new_number) 0) (place_same (suc k)) ∙ same (place_at w (suc k) + at.new_number) (inr (suc k, omega arith, le, refl)))

-- ---- word 21 is no link

pub told-apart : (w : List ℕ) (n j : ℕ) → n ≤ 4096 → dpcs_base w ≤ 1000000 → Places (queue_chain w) n j → Told w n j → ⊥
told-apart w n j few near a b = go (queue-cases w n j few a) b
  where
    low : at.unused ≤ dpcs_base w
    low = base-least w

    go : (j ≡ at.queue_last) ⊎ ((j ≡ at.queue_first) ⊎ ((y : ℕ) × (1 ≤ y) × (y ≤ n) × (j ≡ dpcs_base w - at.queue_link_before + 32 * y))) → Told w n j → ⊥
    go (inl e) (inl f) = omega arith
    go (inr (inl e)) (inl f) = omega arith
    go (inr (inr (x, u, v, e))) (inl f) = omega (arith, low)
    go (inl e) (inr (y, o, k, f)) = omega (arith, low, place_is w y near o (omega arith))
    go (inr (inl e)) (inr (y, o, k, f)) = omega (arith, low, place_is w y near o (omega arith))
    go (inr (inr (x, u, v, e))) (inr (y, o, k, f)) = omega (arith, low, place_is w y near o (omega arith))

-- ---- along the chain

module _ (w : List ℕ) (c : Chain) (n : ℕ) (apart : Apart c n (length w)) (told : (j : ℕ) → Places c n j → Told w n j → ⊥) where
  -- the links after `b` have new numbers, and no other word has changed
  record Renewed (v v' : List ℕ) (b : ℕ) (xs : List ℕ) : Type 0 where
    links : (y : ℕ) → Mem y (b ∷ xs) → get_or v' (link_at c y) 0 ≡ new_number w (get_or v (link_at c y) 0)
    others : (j : ℕ) → ((y : ℕ) → Mem y (b ∷ xs) → j ≡ link_at c y → ⊥) → get_or v' j 0 ≡ get_or v j 0
    size : length v' ≡ length v

  -- one link
  module _ (v : List ℕ) (b : ℕ) (len : length v ≡ length w) (same : Same (Told w n) w v) (le : b ≤ n) where
    step-own : get_or v (link_at c b) 0 ≤ n → get_or (link_renewed v c b) (link_at c b) 0 ≡ new_number w (get_or v (link_at c b) 0)
    unfolding link_renewed next_of
    step-own k =
        read_same v (link_at c b) (new_number v (get_or v (link_at c b) 0)) (subst (λ (m : ℕ). link_at c b < m) (sym len) (apart.link_in b le))
        ∙ new-depends n w v same (get_or v (link_at c b) 0) k

    step_other : (j : ℕ) → (j ≡ link_at c b → ⊥) → get_or (link_renewed v c b) j 0 ≡ get_or v j 0
    unfolding link_renewed
    step_other j ne = read-other v (link_at c b) j (new_number v (next_of v c b)) ne

    step-told : Same (Told w n) w (link_renewed v c b)
    step-told j t = step_other j (λ e. told j (inr (b, le, e)) t) ∙ same j t

    step-length : length (link_renewed v c b) ≡ length v
    unfolding link_renewed
    step-length = length-set v (link_at c b) (new_number v (next_of v c b))

  renewed-in : (m : ℕ) (v : List ℕ) (b : ℕ) (xs : List ℕ) → length v ≡ length w → Same (Told w n) w v → Linked v c b xs → Distinct (b ∷ xs)
      → b ≤ n → ((y : ℕ) → Mem y xs → (1 ≤ y) × (y ≤ n)) → length xs < m → Renewed v (links_renewed_in m v c b) b xs
  unfolding next_of
  renewed-in m v b [] len same l d le known h =
      subst (λ (v' : List ℕ). Renewed v v' b []) (sym (renewed-stop m v c b (omega arith) l))
      (record { links = links; others = λ j out. step_other v b len same le j (out b (inl refl)); size = step-length v b len same le })
    where
      links : (y : ℕ) → Mem y (b ∷ []) → get_or (link_renewed v c b) (link_at c y) 0 ≡ new_number w (get_or v (link_at c y) 0)
      links y (inl e) = subst (λ (z : ℕ). get_or (link_renewed v c b) (link_at c z) 0 ≡ new_number w (get_or v (link_at c z) 0)) (sym e) (step-own v b len same le (omega (arith, l)))
      links y (inr m) = absurd m
  renewed-in m v b (x ∷ xs) len same l d le known h =
      let kx = known x (inl refl) in
      let v₁ = link_renewed v c b in
      let old : (y : ℕ) → Mem y (x ∷ xs) → get_or v₁ (link_at c y) 0 ≡ get_or v (link_at c y) 0 =
      λ y a. step_other v b len same le (link_at c y) (λ e. d.0 (subst (λ (z : ℕ). Mem z (x ∷ xs)) (apart.links y b (known y a).1 le e) a)) in
      go old
      (renewed-in (m - 1) v₁ x xs (step-length v b len same le ∙ len) (step-told v b len same le)
      (relink v v₁ c x x xs (old x (inl refl)) (λ y a. old y (inr a)) l.1) d.1 kx.1 (λ y a. known y (inr a)) (omega arith))
      (renewed-more m v c b (omega arith) (λ e. omega (arith, l.0, e, kx.0)) ∙ ap (λ (z : ℕ). links_renewed_in (m - 1) v₁ c z) l.0)
    where
      go : ((y : ℕ) → Mem y (x ∷ xs) → get_or (link_renewed v c b) (link_at c y) 0 ≡ get_or v (link_at c y) 0)
          → Renewed (link_renewed v c b) (links_renewed_in (m - 1) (link_renewed v c b) c x) x xs
          → links_renewed_in m v c b ≡ links_renewed_in (m - 1) (link_renewed v c b) c x → Renewed v (links_renewed_in m v c b) b (x ∷ xs)
      go old r e = subst (λ (v' : List ℕ). Renewed v v' b (x ∷ xs)) (sym e) (record {
        links = links;
        others = λ j out. r.others j (λ y a. out y (inr a)) ∙ step_other v b len same le j (out b (inl refl));
        size = r.size ∙ step-length v b len same le;
      })
        where
          links : (y : ℕ) → Mem y (b ∷ x ∷ xs) → get_or (links_renewed_in (m - 1) (link_renewed v c b) c x) (link_at c y) 0 ≡ new_number w (get_or v (link_at c y) 0)
          links y (inl q) = subst (λ (z : ℕ). get_or (links_renewed_in (m - 1) (link_renewed v c b) c x) (link_at c z) 0 ≡ new_number w (get_or v (link_at c z) 0)) (sym q)
              (r.others (link_at c b) (λ z a f. d.0 (subst (λ (i : ℕ). Mem i (x ∷ xs)) (sym (apart.links b z le (known z a).1 f)) a))
              ∙ step-own v b len same le (omega (arith, l.0, (known x (inl refl)).1)))
          links y (inr a) = r.links y a ∙ ap (new_number w) (old y a)

-- ---- the whole queue

module _ (w : List ℕ) (n : ℕ) (xs : List ℕ) (apart : Apart (queue_chain w) n (length w)) (near : dpcs_base w ≤ 1000000)
    (st : Standing n xs) (h : Holds w (queue_chain w) xs) where
  abbrev c : Chain
  c = queue_chain w

  told : (j : ℕ) → Places c n j → Told w n j → ⊥
  told j = told-apart w n j apart.few near

  renewed : List ℕ
  renewed = links_renewed w c

  along : Renewed w c n apart told w renewed 0 xs
  unfolding renewed links_renewed
  along = renewed-in w c n apart told 4097 w 0 xs refl (λ j t. refl) h.chain (distinct-zero n xs st) (omega arith) st.within
      (omega (arith, apart.few, standing-length n xs st))

  last-place : c.last ≡ at.queue_last
  unfolding queue_chain
  last-place = refl

  not_last : (y : ℕ) → Mem y (0 ∷ xs) → link_at c y ≡ at.queue_last → ⊥
  not_last y m e = apart.not_last y (in-range n xs st y m) (e ∙ sym last-place)

  relinked-is : relinked w ≡ set renewed at.queue_last (new_number renewed (get_or renewed at.queue_last 0))
  unfolding relinked renewed
  relinked-is = refl

  renewed-told : Same (Told w n) w renewed
  renewed-told j t = along.others j (λ y m e. told j (inr (y, in-range n xs st y m, e)) t)

  renewed-last : get_or renewed at.queue_last 0 ≡ get_or w at.queue_last 0
  renewed-last = along.others at.queue_last (λ y m e. not_last y m (sym e))

  pub length-relinked : length (relinked w) ≡ length w
  length-relinked = ap length relinked-is ∙ length-set renewed at.queue_last (new_number renewed (get_or renewed at.queue_last 0)) ∙ along.size

  pub relinked-link : (y : ℕ) → Mem y (0 ∷ xs) → get_or (relinked w) (link_at (queue_chain w) y) 0 ≡ new_number w (get_or w (link_at (queue_chain w) y) 0)
  relinked-link y m =
      ap (λ (v : List ℕ). get_or v (link_at c y) 0) relinked-is
      ∙ read-other renewed at.queue_last (link_at c y) (new_number renewed (get_or renewed at.queue_last 0)) (not_last y m) ∙ along.links y m

  last-known : get_or w at.queue_last 0 ≤ n
  last-known = subst (λ (k : ℕ). k ≤ n) (sym (subst (λ (i : ℕ). get_or w i 0 ≡ last_from 0 xs) last-place h.last)) (in-range n xs st (last_from 0 xs) (last_mem 0 xs))

  pub relinked-last : get_or (relinked w) at.queue_last 0 ≡ new_number w (get_or w at.queue_last 0)
  relinked-last =
      ap (λ (v : List ℕ). get_or v at.queue_last 0) relinked-is
      ∙ read_same renewed at.queue_last (new_number renewed (get_or renewed at.queue_last 0))
      (subst (λ (k : ℕ). at.queue_last < k) (sym along.size) (subst (λ (k : ℕ). k < length w) last-place apart.last_in))
      ∙ ap (new_number renewed) renewed-last ∙ new-depends n w renewed renewed-told (get_or w at.queue_last 0) last-known

  -- it writes the queue's own places
  pub relinked-outside : (R : ℕ → Type 0) → ((j : ℕ) → Own (queue_chain w) xs j → R j → ⊥) → Same R w (relinked w)
  relinked-outside R out j x =
      ap (λ (v : List ℕ). get_or v j 0) relinked-is
      ∙ read-other renewed at.queue_last j (new_number renewed (get_or renewed at.queue_last 0)) (λ e. out j (inl (e ∙ sym last-place)) x)
      ∙ along.others j (λ y m e. out j (inr (y, m, e)) x)

  -- record y is record `new_number w y` afterwards, and the first and the last stay where they are
  pub holds-relinked : (w' : List ℕ)
      → ((y : ℕ) → Mem y (0 ∷ xs) → get_or w' (link_at (queue_chain w) (new_number w y)) 0 ≡ get_or (relinked w) (link_at (queue_chain w) y) 0)
      → get_or w' at.queue_last 0 ≡ get_or (relinked w) at.queue_last 0 → Holds w' (queue_chain w) (map (new_number w) xs)
  holds-relinked w' moved end =
      holds-renumbered (new_number w) w w' c c xs h (new-zero w) (λ y m. moved y m ∙ relinked-link y m)
      (subst (λ (k : ℕ). get_or w' k 0 ≡ new_number w (get_or w k 0)) (sym last-place) (end ∙ relinked-last))
