-- An object made or written anew: as many words.
use Prim.Native.Nat.{ℕ}
use mathlib.Core.List.{List}
use mathlib.Core.Path.{◌≡◌}
use lib.ListN.{length, length-set}
use Rattle.objects.specs.declared.Object.{Object}
use Rattle.objects.specs.Objects.{inserted, entered}
use Rattle.agreement_tables.proofs.Moves.{length-opened}
use Rattle.agreement_tables.proofs.Objects.{length-object}
use Rattle.agreement_lengths.proofs.Lengths.{length-cond, cond_same}

pub length_inserted : (w : List ℕ) (key : ℕ) (o : Object) → length (inserted w key o) ≡ length w
unfolding inserted
length_inserted w key o = simp (length-cond, cond_same, length-set, length-object, length-opened)

pub length-entered : (w : List ℕ) (key : ℕ) (o : Object) → length (entered w key o) ≡ length w
unfolding entered
length-entered w key o = simp (length-cond, cond_same, length_inserted, length-object)
