-- A DPC entered into its table: its record, the others, the count, the links of the queue, and that nothing else changes.
use Prim.Native.Nat.{ℕ, zero, suc, ◌+◌, ◌*◌, ◌≤◌, ◌<◌}
use mathlib.Core.List.{List}
use mathlib.Core.Bool.{Bool, cond}
use mathlib.Core.Path.{◌≡◌, refl, sym, ap, ap₂, ◌∙◌, subst}
use mathlib.Core.Option.{Option, none, some}
use native.Mathlib.Omega.{arith}
use native.Mathlib.Decide.{dec_lt}
use borrow.Author.Tests.{eq-eqb, ne_eqb, lt-leb}
use lib.Dec.{eqb, leb}
use lib.ListN.{get_or, set, length, length-set}
use Rattle.words.specs.Layout as at
use Rattle.words.specs.Layout.{entry_at}
use Rattle.tables.specs.Table.{position, gap_opened}
use Rattle.tables.proofs.TableLaws.{entry-is}
use Rattle.chains.specs.Chain.{link_at}
use Rattle.objects.specs.Objects.{dpcs_base, dpc_found, found_at}
use Rattle.dpc_table.specs.declared.NewDpc.{NewDpc}
use Rattle.dpc_table.specs.Table.{put_idle, put_image, put_dpc, raised_number, links_raised, inserted, entered}
use Rattle.model.specs.Table.{find, put, Rising}
use Rattle.model.proofs.TableLaws.{length-put-known}
use Rattle.agreement_tables.specs.Tables.{Same, Whole, NoLink, Local, Holds, Keyed, below, Grown, Others, DpcAt, queue_of}
use Rattle.agreement_tables.proofs.Lists.{below-le, find-in, put-new}
use Rattle.agreement_tables.proofs.Search.{position-is, found-is, missing-is}
use Rattle.agreement_tables.proofs.Moves.{read-other, read_same, set-outside, length-opened, opened-outside, opened-before, opened-behind}
use Rattle.agreement_tables.proofs.Holds.{opened-grown, grown-holds, others-holds, grown-then, grown-after}
use Rattle.agreement_tables.proofs.Numbers.{raised-zero, raised-before, raised-behind}
use Rattle.agreement_tables.proofs.Links.{queue-first, queue-link, length-raised-links, raised-links-outside, raised-first, raised-last, raised-link}

-- ---- a record written

pub length-dpc : (w : List ℕ) (place address : ℕ) (d : NewDpc) → length (put_dpc w place address d) ≡ length w
unfolding put_dpc put_idle put_image
length-dpc w place address d = simp length-set

pub dpc-outside : (R : ℕ → Type 0) (w : List ℕ) (place address : ℕ) (d : NewDpc) → ((k : ℕ) → k < 11 → R (place + k) → ⊥) → Same R w (put_dpc w place address d)
unfolding put_dpc put_idle put_image
dpc-outside R w place address d far j r =
    let w₁ = set w place address in
    let w₂ = set w₁ (place + at.phase) 0 in
    let w₃ = set w₂ (place + at.next_queued) 0 in
    let w₄ = set w₃ (place + at.named_by) 0 in
    let w₅ = set w₄ (place + at.dpc_architecture) d.architecture in
    let w₆ = set w₅ (place + at.dpc_backing) d.backing in
    let w₇ = set w₆ (place + at.dpc_base) d.base in
    let w₈ = set w₇ (place + at.dpc_size) d.size in
    let w₉ = set w₈ (place + at.dpc_mapped) d.mapped in
    let w₁₀ = set w₉ (place + at.routine) d.routine in
    set-outside R w₁₀ (place + at.context) d.context (far 10 (omega arith)) j r
    ∙ set-outside R w₉ (place + at.routine) d.routine (far 9 (omega arith)) j r
    ∙ set-outside R w₈ (place + at.dpc_mapped) d.mapped (far 8 (omega arith)) j r
    ∙ set-outside R w₇ (place + at.dpc_size) d.size (far 7 (omega arith)) j r
    ∙ set-outside R w₆ (place + at.dpc_base) d.base (far 6 (omega arith)) j r
    ∙ set-outside R w₅ (place + at.dpc_backing) d.backing (far 5 (omega arith)) j r
    ∙ set-outside R w₄ (place + at.dpc_architecture) d.architecture (far 4 (omega arith)) j r
    ∙ set-outside R w₃ (place + at.named_by) 0 (far 3 (omega arith)) j r
    ∙ set-outside R w₂ (place + at.next_queued) 0 (far 2 (omega arith)) j r
    ∙ set-outside R w₁ (place + at.phase) 0 (far 1 (omega arith)) j r
    ∙ set-outside R w place address (λ q. far 0 (omega arith) (subst R (let z : place ≡ place + 0 = omega arith in z) q)) j r

pub dpc-shows : (w : List ℕ) (place address : ℕ) (d : NewDpc) → place + 11 ≤ length w → DpcAt (put_dpc w place address d) place address d
unfolding put_dpc put_idle put_image
dpc-shows w place address d long = record {
  address_word =
      read-other w₁₀ (place + at.context) place d.context (λ e. omega arith)
      ∙ read-other w₉ (place + at.routine) place d.routine (λ e. omega arith)
      ∙ read-other w₈ (place + at.dpc_mapped) place d.mapped (λ e. omega arith)
      ∙ read-other w₇ (place + at.dpc_size) place d.size (λ e. omega arith)
      ∙ read-other w₆ (place + at.dpc_base) place d.base (λ e. omega arith)
      ∙ read-other w₅ (place + at.dpc_backing) place d.backing (λ e. omega arith)
      ∙ read-other w₄ (place + at.dpc_architecture) place d.architecture (λ e. omega arith)
      ∙ read-other w₃ (place + at.named_by) place 0 (λ e. omega arith)
      ∙ read-other w₂ (place + at.next_queued) place 0 (λ e. omega arith)
      ∙ read-other w₁ (place + at.phase) place 0 (λ e. omega arith)
      ∙ read_same w place address (omega arith);
  phase_word =
      read-other w₁₀ (place + at.context) (place + at.phase) d.context (λ e. omega arith)
      ∙ read-other w₉ (place + at.routine) (place + at.phase) d.routine (λ e. omega arith)
      ∙ read-other w₈ (place + at.dpc_mapped) (place + at.phase) d.mapped (λ e. omega arith)
      ∙ read-other w₇ (place + at.dpc_size) (place + at.phase) d.size (λ e. omega arith)
      ∙ read-other w₆ (place + at.dpc_base) (place + at.phase) d.base (λ e. omega arith)
      ∙ read-other w₅ (place + at.dpc_backing) (place + at.phase) d.backing (λ e. omega arith)
      ∙ read-other w₄ (place + at.dpc_architecture) (place + at.phase) d.architecture (λ e. omega arith)
      ∙ read-other w₃ (place + at.named_by) (place + at.phase) 0 (λ e. omega arith)
      ∙ read-other w₂ (place + at.next_queued) (place + at.phase) 0 (λ e. omega arith)
      ∙ read_same w₁ (place + at.phase) 0 (omega (arith, l₁));
  link_word =
      read-other w₁₀ (place + at.context) (place + at.next_queued) d.context (λ e. omega arith)
      ∙ read-other w₉ (place + at.routine) (place + at.next_queued) d.routine (λ e. omega arith)
      ∙ read-other w₈ (place + at.dpc_mapped) (place + at.next_queued) d.mapped (λ e. omega arith)
      ∙ read-other w₇ (place + at.dpc_size) (place + at.next_queued) d.size (λ e. omega arith)
      ∙ read-other w₆ (place + at.dpc_base) (place + at.next_queued) d.base (λ e. omega arith)
      ∙ read-other w₅ (place + at.dpc_backing) (place + at.next_queued) d.backing (λ e. omega arith)
      ∙ read-other w₄ (place + at.dpc_architecture) (place + at.next_queued) d.architecture (λ e. omega arith)
      ∙ read-other w₃ (place + at.named_by) (place + at.next_queued) 0 (λ e. omega arith)
      ∙ read_same w₂ (place + at.next_queued) 0 (omega (arith, l₁, l₂));
  timer_word =
      read-other w₁₀ (place + at.context) (place + at.named_by) d.context (λ e. omega arith)
      ∙ read-other w₉ (place + at.routine) (place + at.named_by) d.routine (λ e. omega arith)
      ∙ read-other w₈ (place + at.dpc_mapped) (place + at.named_by) d.mapped (λ e. omega arith)
      ∙ read-other w₇ (place + at.dpc_size) (place + at.named_by) d.size (λ e. omega arith)
      ∙ read-other w₆ (place + at.dpc_base) (place + at.named_by) d.base (λ e. omega arith)
      ∙ read-other w₅ (place + at.dpc_backing) (place + at.named_by) d.backing (λ e. omega arith)
      ∙ read-other w₄ (place + at.dpc_architecture) (place + at.named_by) d.architecture (λ e. omega arith)
      ∙ read_same w₃ (place + at.named_by) 0 (omega (arith, l₁, l₂, l₃));
  architecture_word =
      read-other w₁₀ (place + at.context) (place + at.dpc_architecture) d.context (λ e. omega arith)
      ∙ read-other w₉ (place + at.routine) (place + at.dpc_architecture) d.routine (λ e. omega arith)
      ∙ read-other w₈ (place + at.dpc_mapped) (place + at.dpc_architecture) d.mapped (λ e. omega arith)
      ∙ read-other w₇ (place + at.dpc_size) (place + at.dpc_architecture) d.size (λ e. omega arith)
      ∙ read-other w₆ (place + at.dpc_base) (place + at.dpc_architecture) d.base (λ e. omega arith)
      ∙ read-other w₅ (place + at.dpc_backing) (place + at.dpc_architecture) d.backing (λ e. omega arith)
      ∙ read_same w₄ (place + at.dpc_architecture) d.architecture (omega (arith, l₁, l₂, l₃, l₄));
  backing_word =
      read-other w₁₀ (place + at.context) (place + at.dpc_backing) d.context (λ e. omega arith)
      ∙ read-other w₉ (place + at.routine) (place + at.dpc_backing) d.routine (λ e. omega arith)
      ∙ read-other w₈ (place + at.dpc_mapped) (place + at.dpc_backing) d.mapped (λ e. omega arith)
      ∙ read-other w₇ (place + at.dpc_size) (place + at.dpc_backing) d.size (λ e. omega arith)
      ∙ read-other w₆ (place + at.dpc_base) (place + at.dpc_backing) d.base (λ e. omega arith)
      ∙ read_same w₅ (place + at.dpc_backing) d.backing (omega (arith, l₁, l₂, l₃, l₄, l₅));
  base_word =
      read-other w₁₀ (place + at.context) (place + at.dpc_base) d.context (λ e. omega arith)
      ∙ read-other w₉ (place + at.routine) (place + at.dpc_base) d.routine (λ e. omega arith)
      ∙ read-other w₈ (place + at.dpc_mapped) (place + at.dpc_base) d.mapped (λ e. omega arith)
      ∙ read-other w₇ (place + at.dpc_size) (place + at.dpc_base) d.size (λ e. omega arith)
      ∙ read_same w₆ (place + at.dpc_base) d.base (omega (arith, l₁, l₂, l₃, l₄, l₅, l₆));
  size_word =
      read-other w₁₀ (place + at.context) (place + at.dpc_size) d.context (λ e. omega arith)
      ∙ read-other w₉ (place + at.routine) (place + at.dpc_size) d.routine (λ e. omega arith)
      ∙ read-other w₈ (place + at.dpc_mapped) (place + at.dpc_size) d.mapped (λ e. omega arith)
      ∙ read_same w₇ (place + at.dpc_size) d.size (omega (arith, l₁, l₂, l₃, l₄, l₅, l₆, l₇));
  mapped_word =
      read-other w₁₀ (place + at.context) (place + at.dpc_mapped) d.context (λ e. omega arith)
      ∙ read-other w₉ (place + at.routine) (place + at.dpc_mapped) d.routine (λ e. omega arith)
      ∙ read_same w₈ (place + at.dpc_mapped) d.mapped (omega (arith, l₁, l₂, l₃, l₄, l₅, l₆, l₇, l₈));
  routine_word =
      read-other w₁₀ (place + at.context) (place + at.routine) d.context (λ e. omega arith)
      ∙ read_same w₉ (place + at.routine) d.routine (omega (arith, l₁, l₂, l₃, l₄, l₅, l₆, l₇, l₈, l₉));
  context_word =
      read_same w₁₀ (place + at.context) d.context (omega (arith, l₁, l₂, l₃, l₄, l₅, l₆, l₇, l₈, l₉, l₁₀));
}
  where
    w₁ : List ℕ
    w₁ = set w place address

    w₂ : List ℕ
    w₂ = set w₁ (place + at.phase) 0

    w₃ : List ℕ
    w₃ = set w₂ (place + at.next_queued) 0

    w₄ : List ℕ
    w₄ = set w₃ (place + at.named_by) 0

    w₅ : List ℕ
    w₅ = set w₄ (place + at.dpc_architecture) d.architecture

    w₆ : List ℕ
    w₆ = set w₅ (place + at.dpc_backing) d.backing

    w₇ : List ℕ
    w₇ = set w₆ (place + at.dpc_base) d.base

    w₈ : List ℕ
    w₈ = set w₇ (place + at.dpc_size) d.size

    w₉ : List ℕ
    w₉ = set w₈ (place + at.dpc_mapped) d.mapped

    w₁₀ : List ℕ
    w₁₀ = set w₉ (place + at.routine) d.routine

    l₁ : length w₁ ≡ length w
    l₁ = length-set w place address

    l₂ : length w₂ ≡ length w₁
    l₂ = length-set w₁ (place + at.phase) 0

    l₃ : length w₃ ≡ length w₂
    l₃ = length-set w₂ (place + at.next_queued) 0

    l₄ : length w₄ ≡ length w₃
    l₄ = length-set w₃ (place + at.named_by) 0

    l₅ : length w₅ ≡ length w₄
    l₅ = length-set w₄ (place + at.dpc_architecture) d.architecture

    l₆ : length w₆ ≡ length w₅
    l₆ = length-set w₅ (place + at.dpc_backing) d.backing

    l₇ : length w₇ ≡ length w₆
    l₇ = length-set w₆ (place + at.dpc_base) d.base

    l₈ : length w₈ ≡ length w₇
    l₈ = length-set w₇ (place + at.dpc_size) d.size

    l₉ : length w₉ ≡ length w₈
    l₉ = length-set w₈ (place + at.dpc_mapped) d.mapped

    l₁₀ : length w₁₀ ≡ length w₉
    l₁₀ = length-set w₉ (place + at.routine) d.routine

-- a DPC's words depend on its record
pub dpc-local : (address : ℕ) → Local Whole (λ w place d. DpcAt w place address d)
dpc-local address w w' a b d c h = record {
  address_word = at_zero ∙ h.address_word;
  phase_word = c 1 (omega arith) tt ∙ h.phase_word;
  link_word = c 2 (omega arith) tt ∙ h.link_word;
  timer_word = c 3 (omega arith) tt ∙ h.timer_word;
  architecture_word = c 4 (omega arith) tt ∙ h.architecture_word;
  backing_word = c 5 (omega arith) tt ∙ h.backing_word;
  base_word = c 6 (omega arith) tt ∙ h.base_word;
  size_word = c 7 (omega arith) tt ∙ h.size_word;
  mapped_word = c 8 (omega arith) tt ∙ h.mapped_word;
  routine_word = c 9 (omega arith) tt ∙ h.routine_word;
  context_word = c 10 (omega arith) tt ∙ h.context_word;
}
  where
    at_zero : get_or w' b 0 ≡ get_or w a 0
    at_zero = ap (λ (p : ℕ). get_or w' p 0) (let z : b ≡ b + 0 = omega arith in z) ∙ c 0 (omega arith) tt ∙ ap (λ (p : ℕ). get_or w p 0) (let z : a + 0 ≡ a = omega arith in z)

-- ---- a DPC made

module _ {A : Type 0} (key : A → ℕ) (w : List ℕ) (base : ℕ) (xs : List A) (low : base ≤ 1000000) (high : at.header_size ≤ base) (based : dpcs_base w ≡ base) (count : get_or w at.dpcs 0 ≡ length xs)
    (rising : Rising key xs) (keys : Holds (Keyed key) w base xs) (x : A) (d : NewDpc) where
  module _ (few : length xs < 4096) where
    inserted-is : inserted w (key x) d
        ≡ set (put_dpc (gap_opened (links_raised w (length xs) (below key (key x) xs)) base (length xs) (below key (key x) xs)) (base + 32 * below key (key x) xs) (key x) d) 5 (length xs + 1)
    unfolding inserted
    inserted-is =
        ap₂ (λ (n p : ℕ). cond (leb 4096 n) w (set (put_dpc (gap_opened (links_raised w n (position w p n (key x))) p n (position w p n (key x))) (entry_at p (position w p n (key x))) (key x) d) 5 (n + 1))) count based
        ∙ ap (λ (c : Bool). cond c w (set (put_dpc (gap_opened (links_raised w (length xs) (position w base (length xs) (key x))) base (length xs) (position w base (length xs) (key x)))
        (entry_at base (position w base (length xs) (key x))) (key x) d) 5 (length xs + 1)))
        (lt-leb 4096 (length xs) few)
        ∙ ap (λ (i : ℕ). set (put_dpc (gap_opened (links_raised w (length xs) i) base (length xs) i) (entry_at base i) (key x) d) 5 (length xs + 1))
        (position-is key w base xs low (omega arith) rising keys (length xs) (key x) refl)
        ∙ ap (λ (p : ℕ). set (put_dpc (gap_opened (links_raised w (length xs) (below key (key x) xs)) base (length xs) (below key (key x) xs)) p (key x) d) 5 (length xs + 1))
        (entry-is base (below key (key x) xs) low (omega (arith, below-le key (key x) xs)))

    w₁ : List ℕ
    w₁ = links_raised w (length xs) (below key (key x) xs)

    w₂ : List ℕ
    w₂ = gap_opened (links_raised w (length xs) (below key (key x) xs)) base (length xs) (below key (key x) xs)

    w₃ : List ℕ
    w₃ = put_dpc (gap_opened (links_raised w (length xs) (below key (key x) xs)) base (length xs) (below key (key x) xs)) (base + 32 * below key (key x) xs) (key x) d

    len₂ : length w₂ ≡ length w
    unfolding w₂
    len₂ = length-opened (links_raised w (length xs) (below key (key x) xs)) base (length xs) (below key (key x) xs) ∙ length-raised-links w (length xs) (below key (key x) xs)

    len₃ : length w₃ ≡ length w
    unfolding w₂ w₃
    len₃ = length-dpc w₂ (base + 32 * below key (key x) xs) (key x) d ∙ len₂

    inserted-three : inserted w (key x) d ≡ set w₃ at.dpcs (length xs + 1)
    unfolding w₃
    inserted-three = inserted-is

    -- a word apart from the count and the new record is that of the words with room made
    inserted-apart : (p : ℕ) → (p ≡ 5 → ⊥) → ((k : ℕ) → k < 11 → base + 32 * below key (key x) xs + k ≡ p → ⊥) → get_or (inserted w (key x) d) p 0 ≡ get_or w₂ p 0
    unfolding w₂ w₃
    inserted-apart p five far =
        ap (λ (v : List ℕ). get_or v p 0) inserted-three ∙ read-other w₃ at.dpcs p (length xs + 1) five
        ∙ dpc-outside (λ q. q ≡ p) w₂ (base + 32 * below key (key x) xs) (key x) d far p refl

    pub length_inserted : length (inserted w (key x) d) ≡ length w
    length_inserted = ap length inserted-three ∙ length-set w₃ at.dpcs (length xs + 1) ∙ len₃

    -- only the count, the queue's first, last and links, and the records from the position on are written
    pub inserted-outside : (R : ℕ → Type 0) → (R 5 → ⊥) → (R 23 → ⊥) → (R 24 → ⊥) → ((t : ℕ) → t < length xs → R (base + 32 * t + at.next_queued) → ⊥)
        → ((p : ℕ) → base + 32 * below key (key x) xs ≤ p → p < base + 32 * length xs + 32 → R p → ⊥) → Same R w (inserted w (key x) d)
    unfolding w₁ w₂ w₃
    inserted-outside R five first last links far j r =
        ap (λ (v : List ℕ). get_or v j 0) inserted-three
        ∙ set-outside R w₃ at.dpcs (length xs + 1) five j r
        ∙ dpc-outside R w₂ (base + 32 * below key (key x) xs) (key x) d (λ k h. far (base + 32 * below key (key x) xs + k) (omega arith) (omega (arith, below-le key (key x) xs))) j r
        ∙ opened-outside w₁ base (length xs) (below key (key x) xs) low (omega arith) (below-le key (key x) xs) R (λ p h l. far p (omega arith) l) j r
        ∙ raised-links-outside w base (length xs) (below key (key x) xs) based high (omega arith) R first last links j r

    module _ (long : base + 32 * length xs + 32 ≤ length w) where
      pub inserted-count : get_or (inserted w (key x) d) at.dpcs 0 ≡ length xs + 1
      inserted-count = ap (λ (v : List ℕ). get_or v at.dpcs 0) inserted-three ∙ read_same w₃ at.dpcs (length xs + 1) (omega (arith, len₃))

      pub inserted-shows : DpcAt (inserted w (key x) d) (base + 32 * below key (key x) xs) (key x) d
      unfolding w₂ w₃
      inserted-shows = dpc-local (key x) w₃ (inserted w (key x) d) (base + 32 * below key (key x) xs) (base + 32 * below key (key x) xs) d
          (λ k h u. ap (λ (v : List ℕ). get_or v (base + 32 * below key (key x) xs + k) 0) inserted-three ∙ read-other w₃ at.dpcs (base + 32 * below key (key x) xs + k) (length xs + 1) (λ e. omega arith))
          (dpc-shows w₂ (base + 32 * below key (key x) xs) (key x) d (omega (arith, below-le key (key x) xs, len₂)))

      -- the records but for their links
      pub inserted-grown : Grown NoLink w base (length xs) (below key (key x) xs) (inserted w (key x) d)
      unfolding w₁ w₂
      inserted-grown =
          grown-after NoLink w base (length xs) (below key (key x) xs) w₁ (inserted w (key x) d) (below-le key (key x) xs)
          (λ j h k l n. raised-links-outside w base (length xs) (below key (key x) xs) based high (omega arith) (λ p. p ≡ base + 32 * j + k) (λ e. omega arith) (λ e. omega arith) (λ t m e. n (omega arith)) (base + 32 * j + k) refl)
          (grown-then NoLink w₁ base (length xs) (below key (key x) xs) w₂ (inserted w (key x) d) (below-le key (key x) xs)
          (opened-grown NoLink w₁ base (length xs) (below key (key x) xs) low (omega arith) (below-le key (key x) xs) (omega (arith, length-raised-links w (length xs) (below key (key x) xs))))
          (λ j h n k l u. inserted-apart (base + 32 * j + k) (λ e. omega arith) (λ i m e. n (omega arith))))

      -- the queue's first, its last and the links: one more where the number is behind the new one
      pub inserted-first : get_or (inserted w (key x) d) at.queue_first 0 ≡ raised_number (get_or w at.queue_first 0) (below key (key x) xs)
      unfolding w₁ w₂
      inserted-first =
          inserted-apart 23 (λ e. omega arith) (λ i m e. omega arith)
          ∙ opened-outside w₁ base (length xs) (below key (key x) xs) low (omega arith) (below-le key (key x) xs) (λ p. p ≡ 23) (λ p h l e. omega arith) 23 refl
          ∙ raised-first w base (length xs) (below key (key x) xs) based high (omega arith) (omega arith) (omega arith)

      pub inserted-last : get_or (inserted w (key x) d) at.queue_last 0 ≡ raised_number (get_or w at.queue_last 0) (below key (key x) xs)
      unfolding w₁ w₂
      inserted-last =
          inserted-apart 24 (λ e. omega arith) (λ i m e. omega arith)
          ∙ opened-outside w₁ base (length xs) (below key (key x) xs) low (omega arith) (below-le key (key x) xs) (λ p. p ≡ 24) (λ p h l e. omega arith) 24 refl
          ∙ raised-last w base (length xs) (below key (key x) xs) based high (omega arith) (omega arith) (omega arith)

      pub inserted-link-before : (j : ℕ) → j < below key (key x) xs → get_or (inserted w (key x) d) (base + 32 * j + at.next_queued) 0 ≡ raised_number (get_or w (base + 32 * j + at.next_queued) 0) (below key (key x) xs)
      unfolding w₁ w₂
      inserted-link-before j h =
          inserted-apart (base + 32 * j + at.next_queued) (λ e. omega arith) (λ i m e. omega arith)
          ∙ opened-before w₁ base (length xs) (below key (key x) xs) low (omega arith) (below-le key (key x) xs) j 2 (omega arith) (omega arith)
          ∙ raised-link w base (length xs) (below key (key x) xs) based high (omega arith) (omega arith) (omega arith) j (omega (arith, below-le key (key x) xs))

      pub inserted-link-behind : (j : ℕ) → below key (key x) xs ≤ j → j < length xs
          → get_or (inserted w (key x) d) (base + 32 * suc j + at.next_queued) 0 ≡ raised_number (get_or w (base + 32 * j + at.next_queued) 0) (below key (key x) xs)
      unfolding w₁ w₂
      inserted-link-behind j h l =
          inserted-apart (base + 32 * suc j + at.next_queued) (λ e. omega arith) (λ i m e. omega arith)
          ∙ opened-behind w₁ base (length xs) (below key (key x) xs) low (omega arith) (below-le key (key x) xs) (omega (arith, length-raised-links w (length xs) (below key (key x) xs))) j 2 h l (omega arith)
          ∙ raised-link w base (length xs) (below key (key x) xs) based high (omega arith) (omega arith) (omega arith) j l

      -- the link of a DPC by its new number is the new number of its link
      pub inserted-links : (y : ℕ) → y ≤ length xs
          → get_or (inserted w (key x) d) (link_at (queue_of base) (raised_number y (below key (key x) xs))) 0 ≡ raised_number (get_or w (link_at (queue_of base) y) 0) (below key (key x) xs)
      inserted-links zero h =
          ap (λ (n : ℕ). get_or (inserted w (key x) d) (link_at (queue_of base) n) 0) (raised-zero (below key (key x) xs))
          ∙ ap (λ (p : ℕ). get_or (inserted w (key x) d) p 0) (queue-first base) ∙ inserted-first ∙ ap (λ (p : ℕ). raised_number (get_or w p 0) (below key (key x) xs)) (sym (queue-first base))
      inserted-links (suc j) h = go (dec_lt j (below key (key x) xs))
        where
          go : Dec (j < below key (key x) xs)
              → get_or (inserted w (key x) d) (link_at (queue_of base) (raised_number (suc j) (below key (key x) xs))) 0 ≡ raised_number (get_or w (link_at (queue_of base) (suc j)) 0) (below key (key x) xs)
          go (yes l) =
              ap (λ (n : ℕ). get_or (inserted w (key x) d) (link_at (queue_of base) n) 0) (raised-before j (below key (key x) xs) l)
              ∙ ap (λ (p : ℕ). get_or (inserted w (key x) d) p 0) (queue-link base high j (omega arith))
              ∙ inserted-link-before j l ∙ ap (λ (p : ℕ). raised_number (get_or w p 0) (below key (key x) xs)) (sym (queue-link base high j (omega arith)))
          go (no l) =
              ap (λ (n : ℕ). get_or (inserted w (key x) d) (link_at (queue_of base) n) 0) (raised-behind j (below key (key x) xs) (omega (arith, l)) (omega arith))
              ∙ ap (λ (p : ℕ). get_or (inserted w (key x) d) p 0) (queue-link base high (suc j) (omega arith))
              ∙ inserted-link-behind j (omega (arith, l)) (omega arith) ∙ ap (λ (p : ℕ). raised_number (get_or w p 0) (below key (key x) xs)) (sym (queue-link base high j (omega arith)))

  -- ---- a DPC entered: made, or written anew

  pub entered-new : length xs < 4096 → find key xs (key x) ≡ none → entered w (key x) d ≡ inserted w (key x) d
  unfolding entered dpc_found
  entered-new few h =
      ap (λ (c : Bool). cond c (inserted w (key x) d) (put_dpc w (found_at w (dpcs_base w) (get_or w at.dpcs 0) (key x)) (key x) d))
      (eq-eqb (found_at w (dpcs_base w) (get_or w at.dpcs 0) (key x)) 0
      (ap₂ (λ (p n : ℕ). found_at w p n (key x)) based count ∙ missing-is key w base xs low (omega arith) rising keys (length xs) (key x) refl h))

  pub entered-known : length xs ≤ 4096 → (z : A) → find key xs (key x) ≡ some z → entered w (key x) d ≡ put_dpc w (base + 32 * below key (key x) xs) (key x) d
  unfolding entered dpc_found
  entered-known few z h =
      let e : found_at w (dpcs_base w) (get_or w at.dpcs 0) (key x) ≡ base + 32 * below key (key x) xs =
      ap₂ (λ (p n : ℕ). found_at w p n (key x)) based count ∙ found-is key w base xs low (omega arith) rising keys (length xs) (key x) refl z h in
      ap (λ (p : ℕ). cond (eqb p 0) (inserted w (key x) d) (put_dpc w p (key x) d)) e
      ∙ ap (λ (c : Bool). cond c (inserted w (key x) d) (put_dpc w (base + 32 * below key (key x) xs) (key x) d)) (ne_eqb (base + 32 * below key (key x) xs) 0 (λ q. omega arith))

  -- what it does to the words, whether it is new or known
  module _ (few : length (put key x xs) ≤ 4096) (long : base + 32 * length (put key x xs) ≤ length w) where
    size-new : find key xs (key x) ≡ none → length (put key x xs) ≡ length xs + 1
    size-new h = (put-new key x xs h).size ∙ (let z : suc (length xs) ≡ length xs + 1 = omega arith in z)

    -- by cases on what the log finds
    cases : (Q : List ℕ → Type 0)
        → (find key xs (key x) ≡ none → Q (inserted w (key x) d))
        → ((z : A) → find key xs (key x) ≡ some z → Q (put_dpc w (base + 32 * below key (key x) xs) (key x) d))
        → Q (entered w (key x) d)
    cases Q new known = go (find key xs (key x)) refl
      where
        go : (f : Option A) → find key xs (key x) ≡ f → Q (entered w (key x) d)
        go none e = subst Q (sym (entered-new (omega (arith, size-new e)) e)) (new e)
        go (some z) e = subst Q (sym (entered-known (omega (arith, length-put-known key x xs rising z e)) z e)) (known z e)

    pub length-entered : length (entered w (key x) d) ≡ length w
    length-entered = cases (λ v. length v ≡ length w) (λ e. length_inserted (omega (arith, size-new e))) (λ z e. length-dpc w (base + 32 * below key (key x) xs) (key x) d)

    -- only the count, the queue's first, last and links, and the records from the position on are written
    pub entered-outside : (R : ℕ → Type 0) → (R 5 → ⊥) → (R 23 → ⊥) → (R 24 → ⊥) → ((t : ℕ) → t < length xs → R (base + 32 * t + at.next_queued) → ⊥)
        → ((p : ℕ) → base + 32 * below key (key x) xs ≤ p → p < base + 32 * length (put key x xs) → R p → ⊥) → Same R w (entered w (key x) d)
    entered-outside R five first last links far = cases (λ v. Same R w v)
        (λ e. inserted-outside (omega (arith, size-new e)) R five first last links (λ p h l. far p h (omega (arith, size-new e))))
        (λ z e. dpc-outside R w (base + 32 * below key (key x) xs) (key x) d
        (λ k h. far (base + 32 * below key (key x) xs + k) (omega arith) (omega (arith, length-put-known key x xs rising z e, find-in key xs rising (key x) z e))))

    pub entered-count : get_or (entered w (key x) d) at.dpcs 0 ≡ length (put key x xs)
    entered-count = cases (λ v. get_or v at.dpcs 0 ≡ length (put key x xs))
        (λ e. inserted-count (omega (arith, size-new e)) (omega (arith, size-new e)) ∙ sym (size-new e))
        (λ z e. dpc-outside (λ p. p ≡ 5) w (base + 32 * below key (key x) xs) (key x) d (λ k h q. omega arith) 5 refl ∙ count ∙ sym (length-put-known key x xs rising z e))

    -- its own record
    pub entered-shows : DpcAt (entered w (key x) d) (base + 32 * below key (key x) xs) (key x) d
    entered-shows = cases (λ v. DpcAt v (base + 32 * below key (key x) xs) (key x) d)
        (λ e. inserted-shows (omega (arith, size-new e)) (omega (arith, size-new e)))
        (λ z e. dpc-shows w (base + 32 * below key (key x) xs) (key x) d (omega (arith, length-put-known key x xs rising z e, find-in key xs rising (key x) z e)))

    -- all the records but for their links, also after more writes to its own record
    pub entered-holds : (P : List ℕ → ℕ → A → Type 0) → Local NoLink P → Holds P w base xs → (w' : List ℕ)
        → Others NoLink (entered w (key x) d) base (length (put key x xs)) (below key (key x) xs) w' → P w' (base + 32 * below key (key x) xs) x → Holds P w' base (put key x xs)
    entered-holds P local h w' = cases (λ v. Others NoLink v base (length (put key x xs)) (below key (key x) xs) w' → P w' (base + 32 * below key (key x) xs) x → Holds P w' base (put key x xs))
        (λ e s own. grown-holds NoLink P local key w base xs x w' h e
        (grown-then NoLink w base (length xs) (below key (key x) xs) (inserted w (key x) d) w' (below-le key (key x) xs) (inserted-grown (omega (arith, size-new e)) (omega (arith, size-new e)))
        (λ j l. s j (omega (arith, size-new e)))) own)
        (λ z e s own. others-holds NoLink P local key w base xs x z w' h rising e
        (λ j l n k m u. s j (omega (arith, length-put-known key x xs rising z e)) n k m u
        ∙ dpc-outside (λ p. p ≡ base + 32 * j + k) w (base + 32 * below key (key x) xs) (key x) d (λ i q v. n (omega arith)) (base + 32 * j + k) refl) own)
