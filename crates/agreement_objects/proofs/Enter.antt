-- An object entered, new or anew, on the words and in the log; what else its kind writes into its record may follow.
use Prim.Native.Nat.{ℕ, zero, suc, ◌+◌, ◌*◌, ◌≤◌, ◌<◌}
use mathlib.Core.List.{List, [], ◌∷◌}
use mathlib.Core.Bool.{Bool, cond}
use mathlib.Core.Option.{Option, none, some}
use mathlib.Core.Path.{◌≡◌, refl, ap, ◌∙◌, subst}
use native.Mathlib.Omega.{arith}
use borrow.Author.Tests.{eq-eqb}
use lib.ListN.{get_or, length}
use lib.Dec.{eqb}
use Rattle.words.specs.Layout as at
use Rattle.objects.specs.declared.Object as stored
use Rattle.objects.specs.Objects.{entered, objects_base, place_of}
use Rattle.model.specs.Lists.{nth, given}
use Rattle.model.specs.State.{State, Object}
use Rattle.model.specs.Waits.{key_of, kind_of, object_at, put_object}
use Rattle.model.specs.Step.{with_table}
use Rattle.model.proofs.TableLaws.{none-some, some_same, rising-put, each-put, find-put-own}
use Rattle.agreement_chains.specs.Chains.{Same}
use Rattle.agreement_tables.specs.Tables.{Whole, Local, Keyed, below, ObjectAt}
use Rattle.agreement_tables.proofs.Lists.{nth_in, put-new, put-known}
use Rattle.agreement_tables.proofs.Holds.{keyed-local, row-local}
use Rattle.agreement_tables.proofs.Numbers.{below-nth}
use Rattle.agreement_tables.proofs.Lookups as tables
use Rattle.agreement_tables.proofs.Objects as rows
use Rattle.agreement.specs.Row.{Row}
use Rattle.agreement.specs.Records.{object_row}
use Rattle.agreement.specs.Shape.{ObjectFits}
use Rattle.agreement.specs.Agree.{objects_from, Agreeing}
use Rattle.agreement.proofs.Rows.{Store, written, In, says-short, length-written, written-outside}
use Rattle.agreement.proofs.Places.{Any}
use Rattle.agreement.proofs.Frames.{object-short}
use Rattle.agreement.proofs.Lookups.{base-is, object-keys, object-kinds}
use Rattle.agreement.proofs.Written.{Elsewhere, sim-objects}

-- the five words as a row
abbrev pub five_row : ℕ → stored.Object → List (Option ℕ)
five_row key o = some key ∷ some o.kind ∷ some o.manual ∷ some o.signaled ∷ some o.owner ∷ []

five-row : (w : List ℕ) (place key : ℕ) (o : stored.Object) → ObjectAt w place key o → Row w place (five_row key o)
five-row w place key o h zero n e = ap (λ (p : ℕ). get_or w p 0) (let z : place + 0 ≡ place = omega arith in z) ∙ h.key_word ∙ some_same key n e
five-row w place key o h (suc zero) n e = h.kind_word ∙ some_same o.kind n e
five-row w place key o h (suc (suc zero)) n e = h.manual_word ∙ some_same o.manual n e
five-row w place key o h (suc (suc (suc zero))) n e = h.signaled_word ∙ some_same o.signaled n e
five-row w place key o h (suc (suc (suc (suc zero)))) n e = h.owner_word ∙ some_same o.owner n e
five-row w place key o h (suc (suc (suc (suc (suc k))))) n e = absurd (none-some n e)

object-local : Local Whole (λ (w : List ℕ) (place : ℕ) (x : Object). Row w place (object_row x))
object-local = row-local Whole object_row (λ x k n e. (omega (arith, says-short (object_row x) k n e, object-short x), tt))

kind-local : Local Whole (λ (w : List ℕ) (place : ℕ) (x : Object). get_or w (place + at.kind) 0 ≡ kind_of x)
kind-local w w' p q x c h = c 1 (omega arith) tt ∙ h

module _ (w : List ℕ) (s : State) (holder : ℕ → ℕ) (active : ℕ) (a : Agreeing w s holder active) (x : Object) (o : stored.Object)
    (room : length (put_object x s.dispatcher.objects) ≤ s.limits.objects) where
  low : objects_from s.limits ≤ 1000000
  low = omega (arith, a.shape.sizes.limits.threads)

  few : length (put_object x s.dispatcher.objects) ≤ 4096
  few = omega (arith, room, a.shape.sizes.limits.objects)

  long : objects_from s.limits + 32 * length (put_object x s.dispatcher.objects) ≤ length w
  long = omega (arith, room, a.enough)

  own-place : nth (put_object x s.dispatcher.objects) (below key_of (key_of x) s.dispatcher.objects) ≡ some x
  own-place = go (object_at s.dispatcher.objects (key_of x)) refl
    where
      go : (f : Option Object) → object_at s.dispatcher.objects (key_of x) ≡ f → nth (put_object x s.dispatcher.objects) (below key_of (key_of x) s.dispatcher.objects) ≡ some x
      go none e = (put-new key_of x s.dispatcher.objects e).own
      go (some z) e = (put-known key_of x s.dispatcher.objects a.shape.rising z e).own

  inside : below key_of (key_of x) s.dispatcher.objects < length (put_object x s.dispatcher.objects)
  inside = nth_in (put_object x s.dispatcher.objects) (below key_of (key_of x) s.dispatcher.objects) x own-place

  -- ---- the words after it is entered

  count_word : get_or w at.objects 0 ≡ length s.dispatcher.objects
  count_word = a.numbers at.objects (length s.dispatcher.objects) refl

  pub length-entered : length (entered w (key_of x) o) ≡ length w
  length-entered =
      rows.length-entered key_of w (objects_from s.limits) s.dispatcher.objects low (omega arith) (base-is w s holder active a) count_word a.shape.rising (object-keys w s holder active a) x o few long

  entered-else : Same (Elsewhere w s holder active a) w (entered w (key_of x) o)
  entered-else =
      rows.entered-outside key_of w (objects_from s.limits) s.dispatcher.objects low (omega arith) (base-is w s holder active a) count_word a.shape.rising (object-keys w s holder active a) x o few long
      (Elsewhere w s holder active a) (λ r. r.no-count refl) (λ p h l r. r.no-object (omega arith) (omega (arith, room)))

  entered-count : get_or (entered w (key_of x) o) at.objects 0 ≡ length (put_object x s.dispatcher.objects)
  entered-count =
      rows.entered-count key_of w (objects_from s.limits) s.dispatcher.objects low (omega arith) (base-is w s holder active a) count_word a.shape.rising (object-keys w s holder active a) x o few long

  -- its record's first five words
  pub entered-row : Row (entered w (key_of x) o) (objects_from s.limits + 32 * below key_of (key_of x) s.dispatcher.objects) (five_row (key_of x) o)
  entered-row = five-row (entered w (key_of x) o) (objects_from s.limits + 32 * below key_of (key_of x) s.dispatcher.objects) (key_of x) o
      (rows.entered-shows key_of w (objects_from s.limits) s.dispatcher.objects low (omega arith) (base-is w s holder active a) count_word a.shape.rising (object-keys w s holder active a) x o few long)

  pub entered-long : (k : ℕ) → k < 32 → objects_from s.limits + 32 * below key_of (key_of x) s.dispatcher.objects + k < length (entered w (key_of x) o)
  entered-long k h = omega (arith, inside, long, length-entered)

  -- ---- agreement, after the rest of its record is written

  pub sim-entered : (xs : List Store) → In Any xs → ObjectFits x
      → Row (written (entered w (key_of x) o) (objects_from s.limits + 32 * below key_of (key_of x) s.dispatcher.objects) xs) (objects_from s.limits + 32 * below key_of (key_of x) s.dispatcher.objects) (object_row x)
      → Agreeing (written (entered w (key_of x) o) (objects_from s.limits + 32 * below key_of (key_of x) s.dispatcher.objects) xs) (with_table s (put_object x s.dispatcher.objects)) holder active
  sim-entered xs in-record fits row =
      sim-objects w s holder active a w' (put_object x l) (length-written w₁ place xs ∙ length-entered)
      (λ j r. written-outside (Elsewhere w s holder active a) Any w₁ place xs in-record (λ k d q. q.no-object (omega arith) (omega (arith, inside, room))) j r ∙ entered-else j r)
      (written-outside (λ (p : ℕ). p ≡ 4) Any w₁ place xs in-record (λ k d q. omega arith) 4 refl ∙ entered-count)
      (rows.entered-holds key_of w (objects_from s.limits) s.dispatcher.objects low (omega arith) (base-is w s holder active a) count_word a.shape.rising (object-keys w s holder active a) x o few long
      Whole (λ v p y. Row v p (object_row y)) object-local a.objects w'
      (λ j h n k m d. written-outside (λ (p : ℕ). p ≡ objects_from s.limits + 32 * j + k) Any w₁ place xs in-record (λ i c q. n (omega arith)) (objects_from s.limits + 32 * j + k) refl) row)
      room (rising-put key_of x l a.shape.rising) (each-put key_of ObjectFits x l fits a.shape.bounded)
    where
      l : List Object
      l = s.dispatcher.objects

      place : ℕ
      place = objects_from s.limits + 32 * below key_of (key_of x) s.dispatcher.objects

      w₁ : List ℕ
      w₁ = entered w (key_of x) o

      w' : List ℕ
      w' = written (entered w (key_of x) o) (objects_from s.limits + 32 * below key_of (key_of x) s.dispatcher.objects) xs

  -- a mutex or an event: there is no more to write
  pub sim-enter-object : ObjectFits x → five_row (key_of x) o ≡ object_row x → Agreeing (entered w (key_of x) o) (with_table s (put_object x s.dispatcher.objects)) holder active
  sim-enter-object fits e =
      sim-entered [] tt fits (subst (Row (entered w (key_of x) o) (objects_from s.limits + 32 * below key_of (key_of x) s.dispatcher.objects)) e entered-row)

  -- ---- where it then stands, before the rest of its record is written

  base-still : objects_base (entered w (key_of x) o) ≡ objects_from s.limits
  base-still =
      tables.objects-base (entered w (key_of x) o) s.limits.threads
      (entered-else 0 (record { no-count = λ e. omega arith; no-object = λ p q. omega arith }) ∙ a.numbers at.thread_limit s.limits.threads refl) a.shape.sizes.limits.threads

  pub entered-place : o.kind ≡ kind_of x → place_of (entered w (key_of x) o) (kind_of x) (key_of x) ≡ objects_from s.limits + 32 * below key_of (key_of x) s.dispatcher.objects
  entered-place e =
      tables.place_is key_of w₁ (objects_from s.limits) (put_object x s.dispatcher.objects) low (omega arith) base-still entered-count few (rising-put key_of x s.dispatcher.objects a.shape.rising)
      keys kind_of kinds (kind_of x) (key_of x)
      ∙ ap (λ (f : Option Object). given f 0 (λ y. cond (eqb (kind_of y) (kind_of x)) (objects_from s.limits + 32 * below key_of (key_of x) (put_object x s.dispatcher.objects)) 0))
      (find-put-own key_of x s.dispatcher.objects)
      ∙ ap (λ (b : Bool). cond b (objects_from s.limits + 32 * below key_of (key_of x) (put_object x s.dispatcher.objects)) 0)
      (eq-eqb (kind_of x) (kind_of x) refl)
      ∙ ap (λ (i : ℕ). objects_from s.limits + 32 * i) (below-nth key_of (put_object x s.dispatcher.objects) (rising-put key_of x s.dispatcher.objects a.shape.rising) (below key_of (key_of x) s.dispatcher.objects) x own-place)
    where
      w₁ : List ℕ
      w₁ = entered w (key_of x) o

      keys : (i : ℕ) (y : Object) → nth (put_object x s.dispatcher.objects) i ≡ some y → get_or (entered w (key_of x) o) (objects_from s.limits + 32 * i) 0 ≡ key_of y
      keys =
          rows.entered-holds key_of w (objects_from s.limits) s.dispatcher.objects low (omega arith) (base-is w s holder active a) count_word a.shape.rising (object-keys w s holder active a) x o few long
          Whole (Keyed key_of) (keyed-local key_of Whole tt) (object-keys w s holder active a) (entered w (key_of x) o) (λ j h n k m d. refl)
          (ap (λ (p : ℕ). get_or (entered w (key_of x) o) p 0) (let z : objects_from s.limits + 32 * below key_of (key_of x) s.dispatcher.objects ≡ objects_from s.limits + 32 * below key_of (key_of x) s.dispatcher.objects + 0 = omega arith in z)
          ∙ entered-row 0 (key_of x) refl)

      kinds : (i : ℕ) (y : Object) → nth (put_object x s.dispatcher.objects) i ≡ some y → get_or (entered w (key_of x) o) (objects_from s.limits + 32 * i + at.kind) 0 ≡ kind_of y
      kinds =
          rows.entered-holds key_of w (objects_from s.limits) s.dispatcher.objects low (omega arith) (base-is w s holder active a) count_word a.shape.rising (object-keys w s holder active a) x o few long
          Whole (λ v p y. get_or v (p + at.kind) 0 ≡ kind_of y) kind-local (object-kinds w s holder active a) (entered w (key_of x) o) (λ j h n k m d. refl)
          (entered-row 1 o.kind refl ∙ e)
