-- No record of a table stands at place 0.
use Prim.Native.Nat.{ℕ}
use native.Mathlib.Omega.{arith}
use mathlib.Core.List.{List}
use mathlib.Core.Path.{◌≡◌, ◌∙◌, sym, ap}
use borrow.Author.Tests.{ne_eqb}
use lib.ListN.{get_or}
use Rattle.std.specs.Option.{option_map, unwrap_or}
use Rattle.std.specs.Prelude.{Option, None, Some}
use Rattle.words.specs.Layout as at
use Rattle.words.specs.Layout.{objects_at, entry_at}
use Rattle.objects.specs.Found.{nonzero}
use Rattle.objects.specs.Objects.{objects_base, dpcs_base}
use Rattle.objects.proofs.FoundLaws.{objects-some, entry-some}

pub object-place : (w : List ℕ) (i : ℕ) → nonzero (entry_at (objects_base w) i) ≡ Some (entry_at (objects_base w) i)
unfolding objects_base
object-place w i =
    let h = entry-some (objects_at (get_or w at.thread_limit 0)) i (objects-some (get_or w at.thread_limit 0)) in
    simp (ne_eqb (entry_at (objects_at (get_or w at.thread_limit 0)) i) 0 (omega (arith, h)))

pub dpc-place : (w : List ℕ) (i : ℕ) → nonzero (entry_at (dpcs_base w) i) ≡ Some (entry_at (dpcs_base w) i)
unfolding dpcs_base objects_base
dpc-place w i =
    let base = entry_at (objects_at (get_or w at.thread_limit 0)) (get_or w at.object_limit 0) in
    let h = entry-some base i (entry-some (objects_at (get_or w at.thread_limit 0)) (get_or w at.object_limit 0) (objects-some (get_or w at.thread_limit 0))) in
    simp (ne_eqb (entry_at base i) 0 (omega (arith, h)))

-- what a search over the objects has found, told by its place; `n` is what the definition answers, 0 where it finds none
pub found-place : (w : List ℕ) (base : ℕ) (r o : Option ℕ) (n : ℕ) → base ≡ objects_base w → unwrap_or (option_map (entry_at base) r) 0 ≡ n
    → o ≡ option_map (entry_at base) r → o ≡ nonzero n
found-place w base None o n b e f = f ∙ simp (sym e)
found-place w base (Some i) o n b e f =
    let g : entry_at (objects_base w) i ≡ n = cc in
    let h : entry_at base i ≡ entry_at (objects_base w) i = cc in
    f ∙ ap Some h ∙ sym (object-place w i) ∙ ap nonzero g
