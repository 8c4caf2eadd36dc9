-- The DPCs of phase 9 taken out: the records that stay, the count, and the queue by the new numbers.
use Prim.Native.Nat.{ℕ, suc, ◌+◌, ◌*◌, ◌≤◌, ◌<◌}
use mathlib.Core.List.{List, ◌∷◌}
use mathlib.Core.Bool.{Bool, cond}
use mathlib.Core.Path.{◌≡◌, refl, sym, ap, ap₂, ◌∙◌, subst}
use mathlib.Core.Logic.{inl, inr, ⊎_elim}
use mathlib.Core.Option.{some}
use native.Mathlib.Omega.{arith}
use borrow.Author.Tests.{le-leb}
use lib.Dec.{leb}
use lib.ListN.{get_or, set, length, length-set}
use Rattle.words.specs.Layout as at
use Rattle.tables.specs.Compact.{compacted, compacted_to}
use Rattle.objects.specs.Objects.{dpcs_base}
use Rattle.chains.specs.declared.Chain.{Chain}
use Rattle.chains.specs.Chain.{link_at}
use Rattle.dpcs.specs.Record.{dpc_count}
use Rattle.dpc_table.specs.Table.{numbered_in, numbered, new_number, links_renewed_in, links_renewed, relinked, settled, closed_up}
use Rattle.model.specs.Lists.{nth, keep, Mem, Distinct}
use Rattle.model.specs.Table.{Rising}
use Rattle.agreement_tables.specs.Tables.{Same, Copied, NoNumber, Local, Holds, kept_before, new_number_of, queue_of, Queued, Stays}
use Rattle.agreement_tables.proofs.Lists.{nth_in}
use Rattle.agreement_tables.proofs.Numbers.{kept-before-le}
use Rattle.agreement_tables.proofs.Moves.{read-other, read_same}
use Rattle.agreement_tables.proofs.Holds.{holds-depends}
use Rattle.agreement_tables.proofs.Links.{queue-first, queue-link, queue-is, queue-place}
use Rattle.agreement_tables.proofs.Compacts.{Marked, marked-at, compacted-holds, compacted-to-is, compacted-outside, compacted-copied, length-compacted}
use Rattle.agreement_tables.proofs.Renewals.{length-numbered, numbered-outside, numbered-shows, base-depends, Renewable, new_is, queued-depends, length-renewed, renewed-outside, renewed-shows}

count-is : (w : List ℕ) (n : ℕ) → get_or w at.dpcs 0 ≡ n → n ≤ 4096 → dpc_count w ≡ n
unfolding dpc_count
count-is w n e h = ap (λ (m : ℕ). cond (leb m 4096) m 4096) e ∙ ap (λ (b : Bool). cond b n 4096) (le-leb n 4096 h)

module _ {A : Type 0} (key : A → ℕ) (f : A → Bool) (w : List ℕ) (base : ℕ) (xs : List A) (ns : List ℕ)
    (low : base ≤ 1000000) (high : at.header_size ≤ base) (based : dpcs_base w ≡ base) (count : get_or w at.dpcs 0 ≡ length xs) (few : length xs ≤ 4096) (long : base + 32 * length xs ≤ length w)
    (rising : Rising key xs) (marks : Holds (Marked f 1 9) w base xs)
    (queued : Queued w (queue_of base) 0 ns) (once : Distinct ns) (short : length ns ≤ 4096) (stay : (y : ℕ) → Mem y ns → Stays f xs y) (last : Mem (get_or w at.queue_last 0) (0 ∷ ns)) where
  good : (y : ℕ) → Mem y ns → (1 ≤ y) × (y ≤ length xs) × Stays f xs y
  good y m = let s = stay y m in
      let l = nth_in xs s.position s.one s.here in
      (omega (arith, s.number), omega (arith, s.number, l), s)

  apart : Distinct (0 ∷ ns)
  apart = (λ m. omega (arith, (good 0 m).0), once)

  -- ---- numbered

  w₁ : List ℕ
  w₁ = numbered_in (length xs) w base 0 0

  numbered_is : numbered w ≡ w₁
  unfolding numbered w₁
  numbered_is = ap₂ (λ (m p : ℕ). numbered_in m w p 0 0) (count-is w (length xs) count few) based

  len₁ : length w₁ ≡ length w
  unfolding w₁
  len₁ = length-numbered (length xs) w base 0 0

  out₁ : (R : ℕ → Type 0) → ((t : ℕ) → t < length xs → R (base + 32 * t + at.new_number) → ⊥) → Same R w w₁
  unfolding w₁
  out₁ R far = numbered-outside (length xs) R w base 0 0 low (omega arith) (λ t a b. far t (omega arith))

  one₁ : (p : ℕ) → ((t : ℕ) → t < length xs → base + 32 * t + 21 ≡ p → ⊥) → get_or w₁ p 0 ≡ get_or w p 0
  one₁ p far = out₁ (λ q. q ≡ p) far p refl

  at₁ : dpcs_base w₁ ≡ base
  at₁ = base-depends w w₁ (one₁ 0 (λ t h e. omega arith)) (one₁ 1 (λ t h e. omega arith)) ∙ based

  links₁ : (y : ℕ) → y ≤ length xs → get_or w₁ (link_at (queue_of base) y) 0 ≡ get_or w (link_at (queue_of base) y) 0
  links₁ y h = one₁ (link_at (queue_of base) y) (λ t l. queue-place base high (λ p. base + 32 * t + 21 ≡ p → ⊥) y (omega arith) (λ e q. omega arith) (λ u e q. omega arith))

  in-range : (y : ℕ) → Mem y (0 ∷ ns) → y ≤ length xs
  in-range y (inl e) = omega arith
  in-range y (inr m) = (good y m).1

  queued₁ : Queued w₁ (queue_of base) 0 ns
  queued₁ = queued-depends base (length xs) low high few (new_number_of f xs) refl (Stays f xs) w w₁ 0 ns (λ y m. links₁ y (in-range y m)) queued

  renewable₁ : Renewable base (length xs) low high few (new_number_of f xs) refl (Stays f xs) w₁
  unfolding w₁
  renewable₁ = record {
    based = at₁;
    long = omega (arith, len₁);
    news = λ t l s. ap (λ (p : ℕ). get_or w₁ p 0) (let z : base + 32 * t + 21 ≡ base + 32 * (0 + t) + 21 = omega arith in z)
        ∙ numbered-shows f xs w base 0 0 low (omega arith) (omega arith) (subst (λ (p : ℕ). Holds (Marked f 1 9) w p xs) (let z : base ≡ base + 32 * 0 = omega arith in z) marks) t s.one
        (subst (λ (i : ℕ). nth xs i ≡ some s.one) (let n = s.number in let z : s.position ≡ t = omega (arith, n) in z) s.here) s.passes
        ∙ (let z : suc (0 + kept_before f xs t) ≡ suc (kept_before f xs t) = omega arith in z);
  }

  -- ---- relinked

  r : List ℕ
  r = links_renewed_in 4097 w₁ (queue_of base) 0

  len-r : length r ≡ length w
  unfolding r
  len-r = length-renewed base (length xs) low high few (new_number_of f xs) refl (Stays f xs) 4097 w₁ 0 ∙ len₁

  one-r : (p : ℕ) → (p ≡ 23 → ⊥) → ((t : ℕ) → t < length xs → p ≡ base + 32 * t + 2 → ⊥) → get_or r p 0 ≡ get_or w₁ p 0
  unfolding r
  one-r p first far = renewed-outside base (length xs) low high few (new_number_of f xs) refl (Stays f xs) ns 4097 (λ q. q ≡ p) w₁ 0 queued₁ apart (omega arith) good
      (λ y m. queue-place base high (λ q. q ≡ p → ⊥) y (let l = in-range y m in omega arith) (λ e q. first (sym q)) (λ t e q. far t (let l = in-range y m in omega arith) (sym q))) p refl

  links-r : (y : ℕ) → Mem y (0 ∷ ns) → get_or r (link_at (queue_of base) y) 0 ≡ new_number_of f xs (get_or w (link_at (queue_of base) y) 0)
  unfolding r
  links-r y m =
      renewed-shows base (length xs) low high few (new_number_of f xs) refl (Stays f xs) ns 4097 w₁ 0 (omega arith) renewable₁ queued₁ apart (omega arith) good
      (λ z k. let l = in-range z k in queue-place base high (λ p. p < length w₁) z (omega arith) (λ e. omega (arith, len₁)) (λ t e. omega (arith, len₁))) y m
      ∙ ap (new_number_of f xs) (links₁ y (in-range y m))

  renewable-r : Renewable base (length xs) low high few (new_number_of f xs) refl (Stays f xs) r
  renewable-r = record {
    based = base-depends w₁ r (one-r 0 (λ e. omega arith) (λ t l e. omega arith)) (one-r 1 (λ e. omega arith) (λ t l e. omega arith)) ∙ at₁;
    long = omega (arith, len-r);
    news = λ t l s. one-r (base + 32 * t + at.new_number) (λ e. omega arith) (λ u k e. omega arith) ∙ renewable₁.news t l s;
  }

  last-r : get_or r at.queue_last 0 ≡ get_or w at.queue_last 0
  last-r = one-r 24 (λ e. omega arith) (λ t l e. omega arith) ∙ one₁ 24 (λ t l e. omega arith)

  new-last : new_number r (get_or r at.queue_last 0) ≡ new_number_of f xs (get_or w at.queue_last 0)
  new-last = ap (new_number r) last-r
      ∙ new_is base (length xs) low high few (new_number_of f xs) refl (Stays f xs) r renewable-r (get_or w at.queue_last 0)
      (⊎_elim (λ (e : get_or w at.queue_last 0 ≡ 0). inl e) (λ (m : Mem (get_or w at.queue_last 0) ns). inr (good (get_or w at.queue_last 0) m)) last)

  w₂ : List ℕ
  w₂ = set r 24 (new_number r (get_or r at.queue_last 0))

  relinked-is : relinked (numbered w) ≡ w₂
  unfolding relinked links_renewed r w₂
  relinked-is =
      ap relinked numbered_is
      ∙ ap (λ (c : Chain). set (links_renewed_in 4097 w₁ c 0) 24 (new_number (links_renewed_in 4097 w₁ c 0) (get_or (links_renewed_in 4097 w₁ c 0) at.queue_last 0))) (queue-is w₁ base at₁)

  len₂ : length w₂ ≡ length w
  unfolding w₂
  len₂ = length-set r 24 (new_number r (get_or r at.queue_last 0)) ∙ len-r

  two : (p : ℕ) → (p ≡ 24 → ⊥) → get_or w₂ p 0 ≡ get_or r p 0
  unfolding w₂
  two p n = read-other r 24 p (new_number r (get_or r at.queue_last 0)) n

  -- a word apart from links, new numbers and the queue's ends
  one₂ : (p : ℕ) → (p ≡ 23 → ⊥) → (p ≡ 24 → ⊥) → ((t : ℕ) → t < length xs → p ≡ base + 32 * t + 2 → ⊥) → ((t : ℕ) → t < length xs → base + 32 * t + 21 ≡ p → ⊥) → get_or w₂ p 0 ≡ get_or w p 0
  one₂ p first end links numbers = two p end ∙ one-r p first links ∙ one₁ p numbers

  copied₂ : (j : ℕ) → j < length xs → Copied NoNumber w (base + 32 * j) w₂ (base + 32 * j)
  copied₂ j h k l d = one₂ (base + 32 * j + k) (λ e. omega arith) (λ e. omega arith) (λ t m e. d.0 (omega arith)) (λ t m e. d.1 (omega arith))

  marks₂ : Holds (Marked f 1 9) w₂ base xs
  marks₂ = holds-depends NoNumber (Marked f 1 9) (marked-at f 1 9 NoNumber (omega arith) (λ e. omega arith, λ e. omega arith)) w w₂ base xs copied₂ marks

  at₂ : dpcs_base w₂ ≡ base
  at₂ = base-depends w w₂ (low_word 0 (omega arith)) (low_word 1 (omega arith)) ∙ based
    where
      low_word : (p : ℕ) → p ≤ 1 → get_or w₂ p 0 ≡ get_or w p 0
      low_word p h = one₂ p (λ e. omega arith) (λ e. omega arith) (λ t m e. omega arith) (λ t m e. omega arith)

  -- ---- settled

  closed_is : closed_up w ≡ set (compacted w₂ base (length xs) 1 9) 5 (compacted_to w₂ base (length xs) 1 9)
  unfolding closed_up settled
  closed_is =
      ap (λ (v : List ℕ). set (compacted v (dpcs_base v) (dpc_count v) 1 9) 5 (compacted_to v (dpcs_base v) (dpc_count v) 1 9)) relinked-is
      ∙ ap₂ (λ (p n : ℕ). set (compacted w₂ p n 1 9) 5 (compacted_to w₂ p n 1 9)) at₂
      (count-is w₂ (length xs) (one₂ 5 (λ e. omega arith) (λ e. omega arith) (λ t m e. omega arith) (λ t m e. omega arith) ∙ count) few)

  compacted-word : (p : ℕ) → (p ≡ 5 → ⊥) → get_or (closed_up w) p 0 ≡ get_or (compacted w₂ base (length xs) 1 9) p 0
  compacted-word p n = ap (λ (v : List ℕ). get_or v p 0) closed_is ∙ read-other (compacted w₂ base (length xs) 1 9) 5 p (compacted_to w₂ base (length xs) 1 9) n

  pub length-closed-up : length (closed_up w) ≡ length w
  length-closed-up =
      ap length closed_is ∙ length-set (compacted w₂ base (length xs) 1 9) 5 (compacted_to w₂ base (length xs) 1 9) ∙ length-compacted w₂ base (length xs) 1 9 ∙ len₂

  -- how many stay
  pub closed-count : get_or (closed_up w) at.dpcs 0 ≡ length (keep f xs)
  closed-count =
      ap (λ (v : List ℕ). get_or v at.dpcs 0) closed_is
      ∙ read_same (compacted w₂ base (length xs) 1 9) 5 (compacted_to w₂ base (length xs) 1 9) (omega (arith, length-compacted w₂ base (length xs) 1 9, len₂))
      ∙ compacted-to-is NoNumber (Marked f 1 9) (marked-at f 1 9 NoNumber (omega arith) (λ e. omega arith, λ e. omega arith)) f 1 9 (omega arith) base low w₂ (length xs) xs refl few (omega (arith, len₂)) marks₂ marks₂

  -- the records that stay, but for links and new numbers
  pub closed-holds : (P : List ℕ → ℕ → A → Type 0) → Local NoNumber P → Holds P w base xs → Holds P (closed_up w) base (keep f xs)
  closed-holds P local h = holds-depends NoNumber P local (compacted w₂ base (length xs) 1 9) (closed_up w) base (keep f xs)
      (λ j l k m d. compacted-word (base + 32 * j + k) (λ e. omega arith))
      (compacted-holds NoNumber P local f 1 9 (omega arith) base low w₂ (length xs) xs refl few (omega (arith, len₂)) (holds-depends NoNumber P local w w₂ base xs copied₂ h) marks₂)

  -- only the count, the queue's ends and the table are written
  pub closed-up-outside : (R : ℕ → Type 0) → (R 5 → ⊥) → (R 23 → ⊥) → (R 24 → ⊥) → ((p : ℕ) → base ≤ p → p < base + 32 * length xs → R p → ⊥) → Same R w (closed_up w)
  closed-up-outside R five first end far j r =
      compacted-word j (λ e. five (subst R e r)) ∙ compacted-outside R w₂ base (length xs) 1 9 low far j r
      ∙ one₂ j (λ e. first (subst R e r)) (λ e. end (subst R e r)) (λ t m e. far (base + 32 * t + at.next_queued) (omega arith) (omega arith) (subst R e r))
      (λ t m e. far (base + 32 * t + at.new_number) (omega arith) (omega arith) (subst R (sym e) r))

  below-table : (p : ℕ) → p < base → (p ≡ 5 → ⊥) → get_or (closed_up w) p 0 ≡ get_or w₂ p 0
  below-table p h n = compacted-word p n ∙ compacted-outside (λ q. q ≡ p) w₂ base (length xs) 1 9 low (λ q a b e. omega arith) p refl

  pub closed-last : get_or (closed_up w) at.queue_last 0 ≡ new_number_of f xs (get_or w at.queue_last 0)
  unfolding w₂
  closed-last = below-table 24 (omega arith) (λ e. omega arith) ∙ read_same r 24 (new_number r (get_or r at.queue_last 0)) (omega (arith, len-r)) ∙ new-last

  -- the link of a DPC by its new number is the new number of its link
  pub closed-links : (y : ℕ) → Mem y (0 ∷ ns) → get_or (closed_up w) (link_at (queue_of base) (new_number_of f xs y)) 0 ≡ new_number_of f xs (get_or w (link_at (queue_of base) y) 0)
  closed-links y (inl e) =
      ap (λ (z : ℕ). get_or (closed_up w) (link_at (queue_of base) (new_number_of f xs z)) 0) e
      ∙ ap (λ (p : ℕ). get_or (closed_up w) p 0) (queue-first base) ∙ below-table 23 (omega arith) (λ q. omega arith) ∙ two 23 (λ q. omega arith)
      ∙ ap (λ (p : ℕ). get_or r p 0) (sym (queue-first base)) ∙ links-r 0 (inl refl) ∙ ap (λ (z : ℕ). new_number_of f xs (get_or w (link_at (queue_of base) z) 0)) (sym e)
  closed-links y (inr m) =
      ap (λ (z : ℕ). get_or (closed_up w) (link_at (queue_of base) (new_number_of f xs z)) 0) s.number
      ∙ ap (λ (p : ℕ). get_or (closed_up w) p 0) (queue-link base high (kept_before f xs s.position) (omega (arith, kept-before-le f xs s.position, l)))
      ∙ compacted-word (base + 32 * kept_before f xs s.position + at.next_queued) (λ e. omega arith)
      ∙ compacted-copied key f 1 9 (omega arith) base low w₂ (length xs) xs refl few (omega (arith, len₂)) rising marks₂ s.position s.one s.here s.passes 2 (omega arith) tt
      ∙ two (base + 32 * s.position + at.next_queued) (λ e. omega arith)
      ∙ ap (λ (p : ℕ). get_or r p 0) (sym (queue-link base high s.position (omega (arith, l))))
      ∙ ap (λ (z : ℕ). get_or r (link_at (queue_of base) z) 0) (sym s.number)
      ∙ links-r y (inr m)
    where
      s : Stays f xs y
      s = stay y m

      l : s.position < length xs
      l = nth_in xs s.position s.one s.here
