-- What the code finds in the tables of objects and DPCs is what the log finds in its lists.
use Prim.Native.Nat.{ℕ, ◌+◌, ◌-◌, ◌*◌, ◌≤◌, ◌<◌}
use mathlib.Core.List.{List}
use mathlib.Core.Bool.{Bool, true, false, cond, not}
use mathlib.Core.Path.{◌≡◌, refl, sym, ap, ap₂, ◌∙◌}
use mathlib.Core.Option.{Option, none, some}
use native.Mathlib.Omega.{arith}
use native.Mathlib.Decide.{dec_lt}
use borrow.Author.Tests.{eq-eqb, ne_eqb, le-leb, lt-leb, le-ltb}
use lib.Dec.{eqb, leb}
use lib.ListN.{get_or, length}
use Rattle.words.specs.Layout as at
use Rattle.words.specs.Layout.{entry_at, objects_at}
use Rattle.tables.specs.Table.{key_at, position}
use Rattle.tables.proofs.TableLaws.{entry-is}
use Rattle.objects.specs.Objects.{objects_base, dpcs_base, object_found, dpc_found, found_at, place_of, collides, full}
use Rattle.dpcs.specs.Record.{number_of, place_at}
use Rattle.model.specs.Lists.{nth, present, given}
use Rattle.model.specs.Table.{find, Rising}
use Rattle.model.proofs.TableLaws.{found}
use Rattle.agreement_tables.specs.Tables.{Holds, Keyed, below}
use Rattle.agreement_tables.proofs.Lists.{nth-some, find_at, find-in, find-not}
use Rattle.agreement_tables.proofs.Search.{key-is, position-is, found-is, missing-is, known_is}

-- ---- where the tables start

-- behind the records of `t` threads
pub objects-base : (w : List ℕ) (t : ℕ) → get_or w at.thread_limit 0 ≡ t → t ≤ at.most_threads → objects_base w ≡ at.header_size + at.thread_size * t
unfolding objects_base objects_at
objects-base w t e h = ap (λ (n : ℕ). cond (leb n at.most_threads) (at.header_size + at.thread_size * n) at.header_size) e ∙ ap (λ (b : Bool). cond b (at.header_size + at.thread_size * t) at.header_size) (le-leb t at.most_threads h)

-- behind room for `o` objects
pub dpcs-base : (w : List ℕ) (base o : ℕ) → objects_base w ≡ base → base ≤ 1000000 → get_or w at.object_limit 0 ≡ o → o ≤ 4096 → dpcs_base w ≡ base + 32 * o
unfolding dpcs_base
dpcs-base w base o based low e h = ap₂ (λ (p n : ℕ). entry_at p n) based e ∙ entry-is base o low (omega arith)

-- ---- objects

module _ {A : Type 0} (key : A → ℕ) (w : List ℕ) (base : ℕ) (xs : List A) (low : base ≤ 1000000) (high : at.header_size ≤ base) (based : objects_base w ≡ base) (count : get_or w at.objects 0 ≡ length xs)
    (few : length xs ≤ 4096) (rising : Rising key xs) (keys : Holds (Keyed key) w base xs) where
  found-there : (k : ℕ) → object_found w k ≡ found_at w base (length xs) k
  unfolding object_found
  found-there k = ap₂ (λ (p n : ℕ). found_at w p n k) based count

  pub object-found : (k : ℕ) (x : A) → find key xs k ≡ some x → object_found w k ≡ base + 32 * below key k xs
  object-found k x e = found-there k ∙ found-is key w base xs low (omega arith) rising keys (length xs) k refl x e

  pub object-missing : (k : ℕ) → find key xs k ≡ none → object_found w k ≡ 0
  object-missing k e = found-there k ∙ missing-is key w base xs low (omega arith) rising keys (length xs) k refl e

  pub object-known : (k : ℕ) → eqb (object_found w k) 0 ≡ not (present (find key xs k))
  object-known k = ap (λ (p : ℕ). eqb p 0) (found-there k) ∙ known_is key w base xs low (omega arith) rising keys (length xs) k refl (omega arith)

  -- the key is new and the table at its limit
  pub full_is : (k : ℕ) → full w k ≡ cond (present (find key xs k)) false (leb (get_or w at.object_limit 0) (length xs))
  unfolding full
  full_is k = ap₂ (λ (b : Bool) (n : ℕ). cond b (leb (get_or w at.object_limit 0) n) false) (object-known k) count ∙ go (present (find key xs k))
    where
      go : (b : Bool) → cond (not b) (leb (get_or w at.object_limit 0) (length xs)) false ≡ cond b false (leb (get_or w at.object_limit 0) (length xs))
      go true = refl
      go false = refl

  -- word 1 of a record is its kind
  module _ (kind_of : A → ℕ) (kinds : (i : ℕ) (x : A) → nth xs i ≡ some x → get_or w (base + 32 * i + at.kind) 0 ≡ kind_of x) where
    kind-at : (k : ℕ) (x : A) → find key xs k ≡ some x → get_or w (object_found w k + 1) 0 ≡ kind_of x
    kind-at k x e = ap (λ (p : ℕ). get_or w (p + at.kind) 0) (object-found k x e) ∙ kinds (below key k xs) x (find_at key xs rising k x e)

    -- an object of the kind, or 0
    pub place_is : (kind k : ℕ) → place_of w kind k ≡ given (find key xs k) 0 (λ x. cond (eqb (kind_of x) kind) (base + 32 * below key k xs) 0)
    unfolding place_of
    place_is kind k = go (find key xs k) refl
      where
        go : (o : Option A) → find key xs k ≡ o
            → cond (eqb (object_found w k) 0) 0 (cond (eqb (get_or w (object_found w k + 1) 0) kind) (object_found w k) 0) ≡ given o 0 (λ x. cond (eqb (kind_of x) kind) (base + 32 * below key k xs) 0)
        go none e = ap (λ (b : Bool). cond b 0 (cond (eqb (get_or w (object_found w k + 1) 0) kind) (object_found w k) 0)) (object-known k ∙ ap (λ (o : Option A). not (present o)) e)
        go (some x) e =
            ap (λ (b : Bool). cond b 0 (cond (eqb (get_or w (object_found w k + 1) 0) kind) (object_found w k) 0)) (object-known k ∙ ap (λ (o : Option A). not (present o)) e)
            ∙ ap₂ (λ (v p : ℕ). cond (eqb v kind) p 0) (kind-at k x e) (object-found k x e)

    -- an object of another kind has the key, or a DPC
    pub collides-is : (kind k : ℕ) (d : Bool) → eqb (dpc_found w k) 0 ≡ not d → collides w kind k ≡ cond d true (given (find key xs k) false (λ x. not (eqb (kind_of x) kind)))
    unfolding collides
    collides-is kind k d h = ap (λ (b : Bool). cond (eqb (object_found w k) 0) (not b) (cond (eqb (get_or w (object_found w k + 1) 0) kind) (not b) true)) h ∙ go (find key xs k) refl
      where
        none-case : (b : Bool) → not (not b) ≡ cond b true false
        none-case true = refl
        none-case false = refl

        some-case : (b e : Bool) → cond e (not (not b)) true ≡ cond b true (not e)
        some-case true true = refl
        some-case true false = refl
        some-case false true = refl
        some-case false false = refl

        go : (o : Option A) → find key xs k ≡ o
            → cond (eqb (object_found w k) 0) (not (not d)) (cond (eqb (get_or w (object_found w k + 1) 0) kind) (not (not d)) true) ≡ cond d true (given o false (λ x. not (eqb (kind_of x) kind)))
        go none e =
            ap (λ (b : Bool). cond b (not (not d)) (cond (eqb (get_or w (object_found w k + 1) 0) kind) (not (not d)) true)) (object-known k ∙ ap (λ (o : Option A). not (present o)) e)
            ∙ none-case d
        go (some x) e =
            ap (λ (b : Bool). cond b (not (not d)) (cond (eqb (get_or w (object_found w k + 1) 0) kind) (not (not d)) true)) (object-known k ∙ ap (λ (o : Option A). not (present o)) e)
            ∙ ap (λ (v : ℕ). cond (eqb v kind) (not (not d)) true) (kind-at k x e) ∙ some-case d (eqb (kind_of x) kind)

-- ---- DPCs

-- DPC `i + 1` has record `i`
pub place-of-number : (w : List ℕ) (base : ℕ) → base ≤ 1000000 → dpcs_base w ≡ base → (i : ℕ) → i < 4096 → place_at w (i + 1) ≡ base + 32 * i
unfolding place_at
place-of-number w base low based i h =
    ap₂ (λ (a c : Bool). cond a at.unused (cond c at.unused (entry_at (dpcs_base w) (i + 1 - 1)))) (ne_eqb (i + 1) 0 (λ e. omega arith)) (le-ltb 4096 (i + 1) (omega arith))
    ∙ ap₂ (λ (p j : ℕ). entry_at p j) based (let z : i + 1 - 1 ≡ i = omega arith in z) ∙ entry-is base i low (omega arith)

module _ {A : Type 0} (address : A → ℕ) (w : List ℕ) (base : ℕ) (xs : List A) (low : base ≤ 1000000) (high : at.header_size ≤ base) (based : dpcs_base w ≡ base) (count : get_or w at.dpcs 0 ≡ length xs)
    (few : length xs ≤ 4096) (rising : Rising address xs) (keys : Holds (Keyed address) w base xs) where
  dpc-there : (a : ℕ) → dpc_found w a ≡ found_at w base (length xs) a
  unfolding dpc_found
  dpc-there a = ap₂ (λ (p n : ℕ). found_at w p n a) based count

  pub dpc-found : (a : ℕ) (x : A) → find address xs a ≡ some x → dpc_found w a ≡ base + 32 * below address a xs
  dpc-found a x e = dpc-there a ∙ found-is address w base xs low (omega arith) rising keys (length xs) a refl x e

  pub dpc-missing : (a : ℕ) → find address xs a ≡ none → dpc_found w a ≡ 0
  dpc-missing a e = dpc-there a ∙ missing-is address w base xs low (omega arith) rising keys (length xs) a refl e

  pub dpc-known : (a : ℕ) → eqb (dpc_found w a) 0 ≡ not (present (find address xs a))
  dpc-known a = ap (λ (p : ℕ). eqb p 0) (dpc-there a) ∙ known_is address w base xs low (omega arith) rising keys (length xs) a refl (omega arith)

  -- the number: the position and one more
  pub number-found : (a : ℕ) (x : A) → find address xs a ≡ some x → number_of w a ≡ below address a xs + 1
  unfolding number_of
  number-found a x e =
      let i = below address a xs in
      let l = find-in address xs rising a x e in
      let q : key_at w base (below address a xs) ≡ a =
      key-is w base (below address a xs) low (omega (arith, l)) ∙ keys (below address a xs) x (find_at address xs rising a x e) ∙ (found address xs a x e).1 in
      ap₂ (λ (n p : ℕ). cond (leb n (position w p n a)) 0 (cond (eqb (key_at w p (position w p n a)) a) (position w p n a + 1) 0)) count based
      ∙ ap (λ (i : ℕ). cond (leb (length xs) i) 0 (cond (eqb (key_at w base i) a) (i + 1) 0)) (position-is address w base xs low (omega arith) rising keys (length xs) a refl)
      ∙ ap₂ (λ (b c : Bool). cond b 0 (cond c (i + 1) 0)) (lt-leb (length xs) (below address a xs) l) (eq-eqb (key_at w base (below address a xs)) a q)

  pub number-missing : (a : ℕ) → find address xs a ≡ none → number_of w a ≡ 0
  unfolding number_of
  number-missing a e =
      ap₂ (λ (n p : ℕ). cond (leb n (position w p n a)) 0 (cond (eqb (key_at w p (position w p n a)) a) (position w p n a + 1) 0)) count based
      ∙ ap (λ (i : ℕ). cond (leb (length xs) i) 0 (cond (eqb (key_at w base i) a) (i + 1) 0)) (position-is address w base xs low (omega arith) rising keys (length xs) a refl)
      ∙ go (dec_lt (below address a xs) (length xs))
    where
      go : Dec (below address a xs < length xs) → cond (leb (length xs) (below address a xs)) 0 (cond (eqb (key_at w base (below address a xs)) a) (below address a xs + 1) 0) ≡ 0
      go (yes l) =
          let s = nth-some xs (below address a xs) l in
          let q = key-is w base (below address a xs) low (omega (arith, l)) ∙ keys (below address a xs) s.0 s.1 in
          let d : key_at w base (below address a xs) ≡ a → ⊥ = λ z. find-not address xs rising a e (below address a xs) s.0 s.1 (sym q ∙ z) in
          ap₂ (λ (b c : Bool). cond b 0 (cond c (below address a xs + 1) 0)) (lt-leb (length xs) (below address a xs) l) (ne_eqb (key_at w base (below address a xs)) a d)
      go (no l) = ap (λ (b : Bool). cond b 0 (cond (eqb (key_at w base (below address a xs)) a) (below address a xs + 1) 0)) (le-leb (length xs) (below address a xs) (omega (arith, l)))
