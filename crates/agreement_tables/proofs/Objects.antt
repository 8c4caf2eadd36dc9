-- An object entered into its table: its record, the others, the count, and that nothing else changes.
use Prim.Native.Nat.{ℕ, suc, ◌+◌, ◌*◌, ◌≤◌, ◌<◌}
use mathlib.Core.List.{List}
use mathlib.Core.Bool.{Bool, cond}
use mathlib.Core.Path.{◌≡◌, refl, sym, ap, ap₂, ◌∙◌, subst}
use mathlib.Core.Option.{Option, none, some}
use native.Mathlib.Omega.{arith}
use borrow.Author.Tests.{eq-eqb, ne_eqb, lt-leb}
use lib.Dec.{eqb, leb}
use lib.ListN.{get_or, set, length, length-set}
use Rattle.words.specs.Layout as at
use Rattle.words.specs.Layout.{entry_at}
use Rattle.tables.specs.Table.{position, gap_opened}
use Rattle.tables.proofs.TableLaws.{entry-is}
use Rattle.objects.specs.declared.Object.{Object}
use Rattle.objects.specs.Objects.{objects_base, object_found, found_at, put_object, inserted, entered}
use Rattle.model.specs.Table.{find, put, Rising}
use Rattle.model.proofs.TableLaws.{length-put-known}
use Rattle.agreement_tables.specs.Tables.{Same, Whole, Local, Holds, Keyed, below, Grown, Others, ObjectAt}
use Rattle.agreement_tables.proofs.Lists.{below-le, find-in, put-new}
use Rattle.agreement_tables.proofs.Search.{position-is, found-is, missing-is}
use Rattle.agreement_tables.proofs.Moves.{read-other, read_same, set-outside, length-opened, opened-outside}
use Rattle.agreement_tables.proofs.Holds.{opened-grown, grown-holds, others-holds, grown-then}

-- ---- a record written

pub length-object : (w : List ℕ) (place key : ℕ) (o : Object) → length (put_object w place key o) ≡ length w
unfolding put_object
length-object w place key o = simp length-set

pub object-outside : (R : ℕ → Type 0) (w : List ℕ) (place key : ℕ) (o : Object) → ((k : ℕ) → k < 5 → R (place + k) → ⊥) → Same R w (put_object w place key o)
unfolding put_object
object-outside R w place key o far j r =
    let w₁ = set w place key in
    let w₂ = set w₁ (place + at.kind) o.kind in
    let w₃ = set w₂ (place + at.manual) o.manual in
    let w₄ = set w₃ (place + at.signaled) o.signaled in
    set-outside R w₄ (place + at.owner) o.owner (far 4 (omega arith)) j r
    ∙ set-outside R w₃ (place + at.signaled) o.signaled (far 3 (omega arith)) j r
    ∙ set-outside R w₂ (place + at.manual) o.manual (far 2 (omega arith)) j r
    ∙ set-outside R w₁ (place + at.kind) o.kind (far 1 (omega arith)) j r
    ∙ set-outside R w place key (λ q. far 0 (omega arith) (subst R (let z : place ≡ place + 0 = omega arith in z) q)) j r

pub object-shows : (w : List ℕ) (place key : ℕ) (o : Object) → place + 5 ≤ length w → ObjectAt (put_object w place key o) place key o
unfolding put_object
object-shows w place key o long = record {
  key_word =
      read-other w₄ (place + at.owner) place o.owner (λ e. omega arith) ∙ read-other w₃ (place + at.signaled) place o.signaled (λ e. omega arith)
      ∙ read-other w₂ (place + at.manual) place o.manual (λ e. omega arith) ∙ read-other w₁ (place + at.kind) place o.kind (λ e. omega arith) ∙ read_same w place key (omega arith);
  kind_word =
      read-other w₄ (place + at.owner) (place + at.kind) o.owner (λ e. omega arith) ∙ read-other w₃ (place + at.signaled) (place + at.kind) o.signaled (λ e. omega arith)
      ∙ read-other w₂ (place + at.manual) (place + at.kind) o.manual (λ e. omega arith) ∙ read_same w₁ (place + at.kind) o.kind (omega (arith, l₁));
  manual_word =
      read-other w₄ (place + at.owner) (place + at.manual) o.owner (λ e. omega arith) ∙ read-other w₃ (place + at.signaled) (place + at.manual) o.signaled (λ e. omega arith)
      ∙ read_same w₂ (place + at.manual) o.manual (omega (arith, l₁, l₂));
  signaled_word = read-other w₄ (place + at.owner) (place + at.signaled) o.owner (λ e. omega arith) ∙ read_same w₃ (place + at.signaled) o.signaled (omega (arith, l₁, l₂, l₃));
  owner_word = read_same w₄ (place + at.owner) o.owner (omega (arith, l₁, l₂, l₃, l₄));
}
  where
    w₁ : List ℕ
    w₁ = set w place key

    w₂ : List ℕ
    w₂ = set w₁ (place + at.kind) o.kind

    w₃ : List ℕ
    w₃ = set w₂ (place + at.manual) o.manual

    w₄ : List ℕ
    w₄ = set w₃ (place + at.signaled) o.signaled

    l₁ : length w₁ ≡ length w
    l₁ = length-set w place key

    l₂ : length w₂ ≡ length w₁
    l₂ = length-set w₁ (place + at.kind) o.kind

    l₃ : length w₃ ≡ length w₂
    l₃ = length-set w₂ (place + at.manual) o.manual

    l₄ : length w₄ ≡ length w₃
    l₄ = length-set w₃ (place + at.signaled) o.signaled

-- an object's words depend on its record
pub object-local : (key : ℕ) → Local Whole (λ w place o. ObjectAt w place key o)
object-local key w w' a b o c h = record {
  key_word = at_zero ∙ h.key_word;
  kind_word = c 1 (omega arith) tt ∙ h.kind_word;
  manual_word = c 2 (omega arith) tt ∙ h.manual_word;
  signaled_word = c 3 (omega arith) tt ∙ h.signaled_word;
  owner_word = c 4 (omega arith) tt ∙ h.owner_word;
}
  where
    at_zero : get_or w' b 0 ≡ get_or w a 0
    at_zero = ap (λ (p : ℕ). get_or w' p 0) (let z : b ≡ b + 0 = omega arith in z) ∙ c 0 (omega arith) tt ∙ ap (λ (p : ℕ). get_or w p 0) (let z : a + 0 ≡ a = omega arith in z)

-- ---- an object made

module _ {A : Type 0} (key : A → ℕ) (w : List ℕ) (base : ℕ) (xs : List A) (low : base ≤ 1000000) (high : at.header_size ≤ base) (based : objects_base w ≡ base) (count : get_or w at.objects 0 ≡ length xs)
    (rising : Rising key xs) (keys : Holds (Keyed key) w base xs) (x : A) (o : Object) where
  module _ (few : length xs < 4096) where
    inserted-is : inserted w (key x) o ≡ set (put_object (gap_opened w base (length xs) (below key (key x) xs)) (base + 32 * below key (key x) xs) (key x) o) 4 (length xs + 1)
    unfolding inserted
    inserted-is =
        ap₂ (λ (n p : ℕ). cond (leb 4096 n) w (set (put_object (gap_opened w p n (position w p n (key x))) (entry_at p (position w p n (key x))) (key x) o) 4 (n + 1))) count based
        ∙ ap (λ (c : Bool). cond c w (set (put_object (gap_opened w base (length xs) (position w base (length xs) (key x))) (entry_at base (position w base (length xs) (key x))) (key x) o) 4 (length xs + 1)))
        (lt-leb 4096 (length xs) few)
        ∙ ap (λ (i : ℕ). set (put_object (gap_opened w base (length xs) i) (entry_at base i) (key x) o) 4 (length xs + 1))
        (position-is key w base xs low (omega arith) rising keys (length xs) (key x) refl)
        ∙ ap (λ (p : ℕ). set (put_object (gap_opened w base (length xs) (below key (key x) xs)) p (key x) o) 4 (length xs + 1))
        (entry-is base (below key (key x) xs) low (omega (arith, below-le key (key x) xs)))

    -- only the count and the records from the position on are written
    pub inserted-outside : (R : ℕ → Type 0) → (R 4 → ⊥) → ((p : ℕ) → base + 32 * below key (key x) xs ≤ p → p < base + 32 * length xs + 32 → R p → ⊥) → Same R w (inserted w (key x) o)
    inserted-outside R four far j r =
        let b = below key (key x) xs in
        let w₁ = gap_opened w base (length xs) (below key (key x) xs) in
        let le = below-le key (key x) xs in
        ap (λ (v : List ℕ). get_or v j 0) inserted-is
        ∙ set-outside R (put_object w₁ (base + 32 * b) (key x) o) 4 (length xs + 1) four j r
        ∙ object-outside R w₁ (base + 32 * below key (key x) xs) (key x) o (λ k h. far (base + 32 * below key (key x) xs + k) (omega arith) (omega (arith, le))) j r
        ∙ opened-outside w base (length xs) (below key (key x) xs) low (omega arith) le R (λ p h l. far p (omega arith) l) j r

    pub length_inserted : length (inserted w (key x) o) ≡ length w
    length_inserted =
        let b = below key (key x) xs in
        let w₁ = gap_opened w base (length xs) (below key (key x) xs) in
        ap length inserted-is ∙ length-set (put_object w₁ (base + 32 * b) (key x) o) 4 (length xs + 1) ∙ length-object w₁ (base + 32 * b) (key x) o ∙ length-opened w base (length xs) b

    module _ (long : base + 32 * length xs + 32 ≤ length w) where
      pub inserted-count : get_or (inserted w (key x) o) at.objects 0 ≡ length xs + 1
      inserted-count =
          let b = below key (key x) xs in
          let w₁ = gap_opened w base (length xs) (below key (key x) xs) in
          ap (λ (v : List ℕ). get_or v at.objects 0) inserted-is
          ∙ read_same (put_object w₁ (base + 32 * b) (key x) o) 4 (length xs + 1) (omega (arith, length-object w₁ (base + 32 * b) (key x) o, length-opened w base (length xs) b))

      pub inserted-shows : ObjectAt (inserted w (key x) o) (base + 32 * below key (key x) xs) (key x) o
      inserted-shows = object-local (key x) w₂ (inserted w (key x) o) (base + 32 * b) (base + 32 * b) o
          (λ k h d. ap (λ (v : List ℕ). get_or v (base + 32 * b + k) 0) inserted-is ∙ read-other w₂ at.objects (base + 32 * b + k) (length xs + 1) (λ e. omega arith))
          (object-shows w₁ (base + 32 * b) (key x) o (omega (arith, below-le key (key x) xs, length-opened w base (length xs) b)))
        where
          b : ℕ
          b = below key (key x) xs

          w₁ : List ℕ
          w₁ = gap_opened w base (length xs) (below key (key x) xs)

          w₂ : List ℕ
          w₂ = put_object w₁ (base + 32 * below key (key x) xs) (key x) o

      pub inserted-grown : (D : ℕ → Type 0) → Grown D w base (length xs) (below key (key x) xs) (inserted w (key x) o)
      inserted-grown D = grown-then D w base (length xs) b w₁ (inserted w (key x) o) (below-le key (key x) xs)
          (opened-grown D w base (length xs) b low (omega arith) (below-le key (key x) xs) long)
          (λ j h n k l d. ap (λ (v : List ℕ). get_or v (base + 32 * j + k) 0) inserted-is ∙ read-other w₂ at.objects (base + 32 * j + k) (length xs + 1) (λ e. omega arith)
          ∙ object-outside (λ p. p ≡ base + 32 * j + k) w₁ (base + 32 * b) (key x) o (λ i m e. n (omega arith)) (base + 32 * j + k) refl)
        where
          b : ℕ
          b = below key (key x) xs

          w₁ : List ℕ
          w₁ = gap_opened w base (length xs) (below key (key x) xs)

          w₂ : List ℕ
          w₂ = put_object w₁ (base + 32 * below key (key x) xs) (key x) o

  -- ---- an object entered: made, or written anew

  -- its key is new
  pub entered-new : length xs < 4096 → find key xs (key x) ≡ none → entered w (key x) o ≡ inserted w (key x) o
  unfolding entered object_found
  entered-new few h =
      ap (λ (c : Bool). cond c (inserted w (key x) o) (put_object w (found_at w (objects_base w) (get_or w at.objects 0) (key x)) (key x) o))
      (eq-eqb (found_at w (objects_base w) (get_or w at.objects 0) (key x)) 0
      (ap₂ (λ (p n : ℕ). found_at w p n (key x)) based count ∙ missing-is key w base xs low (omega arith) rising keys (length xs) (key x) refl h))

  -- its key is known
  pub entered-known : length xs ≤ 4096 → (z : A) → find key xs (key x) ≡ some z → entered w (key x) o ≡ put_object w (base + 32 * below key (key x) xs) (key x) o
  unfolding entered object_found
  entered-known few z h =
      let e : found_at w (objects_base w) (get_or w at.objects 0) (key x) ≡ base + 32 * below key (key x) xs =
      ap₂ (λ (p n : ℕ). found_at w p n (key x)) based count ∙ found-is key w base xs low (omega arith) rising keys (length xs) (key x) refl z h in
      ap (λ (p : ℕ). cond (eqb p 0) (inserted w (key x) o) (put_object w p (key x) o)) e
      ∙ ap (λ (c : Bool). cond c (inserted w (key x) o) (put_object w (base + 32 * below key (key x) xs) (key x) o)) (ne_eqb (base + 32 * below key (key x) xs) 0 (λ q. omega arith))

  -- what it does to the words, whether it is new or known
  module _ (few : length (put key x xs) ≤ 4096) (long : base + 32 * length (put key x xs) ≤ length w) where
    size-new : find key xs (key x) ≡ none → length (put key x xs) ≡ length xs + 1
    size-new h = (put-new key x xs h).size ∙ (let z : suc (length xs) ≡ length xs + 1 = omega arith in z)

    -- by cases on what the log finds
    cases : (Q : List ℕ → Type 0)
        → (find key xs (key x) ≡ none → Q (inserted w (key x) o))
        → ((z : A) → find key xs (key x) ≡ some z → Q (put_object w (base + 32 * below key (key x) xs) (key x) o))
        → Q (entered w (key x) o)
    cases Q new known = go (find key xs (key x)) refl
      where
        go : (f : Option A) → find key xs (key x) ≡ f → Q (entered w (key x) o)
        go none e = subst Q (sym (entered-new (omega (arith, size-new e)) e)) (new e)
        go (some z) e = subst Q (sym (entered-known (omega (arith, length-put-known key x xs rising z e)) z e)) (known z e)

    pub length-entered : length (entered w (key x) o) ≡ length w
    length-entered = cases (λ v. length v ≡ length w) (λ e. length_inserted (omega (arith, size-new e))) (λ z e. length-object w (base + 32 * below key (key x) xs) (key x) o)

    -- only the count and the records from the position on are written
    pub entered-outside : (R : ℕ → Type 0) → (R 4 → ⊥) → ((p : ℕ) → base + 32 * below key (key x) xs ≤ p → p < base + 32 * length (put key x xs) → R p → ⊥) → Same R w (entered w (key x) o)
    entered-outside R four far = cases (λ v. Same R w v)
        (λ e. inserted-outside (omega (arith, size-new e)) R four (λ p h l. far p h (omega (arith, size-new e))))
        (λ z e. object-outside R w (base + 32 * below key (key x) xs) (key x) o
        (λ k h. far (base + 32 * below key (key x) xs + k) (omega arith) (omega (arith, length-put-known key x xs rising z e, find-in key xs rising (key x) z e))))

    pub entered-count : get_or (entered w (key x) o) at.objects 0 ≡ length (put key x xs)
    entered-count = cases (λ v. get_or v at.objects 0 ≡ length (put key x xs))
        (λ e. inserted-count (omega (arith, size-new e)) (omega (arith, size-new e)) ∙ sym (size-new e))
        (λ z e. object-outside (λ p. p ≡ 4) w (base + 32 * below key (key x) xs) (key x) o (λ k h q. omega arith) 4 refl ∙ count ∙ sym (length-put-known key x xs rising z e))

    -- its own record
    pub entered-shows : ObjectAt (entered w (key x) o) (base + 32 * below key (key x) xs) (key x) o
    entered-shows = cases (λ v. ObjectAt v (base + 32 * below key (key x) xs) (key x) o)
        (λ e. inserted-shows (omega (arith, size-new e)) (omega (arith, size-new e)))
        (λ z e. object-shows w (base + 32 * below key (key x) xs) (key x) o (omega (arith, length-put-known key x xs rising z e, find-in key xs rising (key x) z e)))

    -- all the records, also after more writes to its own record
    pub entered-holds : (D : ℕ → Type 0) (P : List ℕ → ℕ → A → Type 0) → Local D P → Holds P w base xs → (w' : List ℕ)
        → Others D (entered w (key x) o) base (length (put key x xs)) (below key (key x) xs) w' → P w' (base + 32 * below key (key x) xs) x → Holds P w' base (put key x xs)
    entered-holds D P local h w' = cases (λ v. Others D v base (length (put key x xs)) (below key (key x) xs) w' → P w' (base + 32 * below key (key x) xs) x → Holds P w' base (put key x xs))
        (λ e s own. grown-holds D P local key w base xs x w' h e
        (grown-then D w base (length xs) (below key (key x) xs) (inserted w (key x) o) w' (below-le key (key x) xs) (inserted-grown (omega (arith, size-new e)) (omega (arith, size-new e)) D)
        (λ j l. s j (omega (arith, size-new e)))) own)
        (λ z e s own. others-holds D P local key w base xs x z w' h rising e
        (λ j l n k m d. s j (omega (arith, length-put-known key x xs rising z e)) n k m d
        ∙ object-outside (λ p. p ≡ base + 32 * j + k) w (base + 32 * below key (key x) xs) (key x) o (λ i q u. n (omega arith)) (base + 32 * j + k) refl) own)
