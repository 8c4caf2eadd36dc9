use borrow.Author.Tests.{lt-ltb, le-ltb}
use lib.ListN.{length-take}
use native.Mathlib.Omega.{arith}
use Rattle.answers.proofs.Converted.{told-outcome}
use Rattle.commands.proofs.CommandLaws.{handed-on}
use Rattle.commands.specs.Commands.{waited, on_words}
use Rattle.commands.proofs.wait.Goals as goal

pub returns-then-list-count : goal.returns-then-list-count
unfolding waited on_words
returns-then-list-count c = simp (lt-ltb _ _ c.if-list-count.true)

pub slice_bounds-wait-end : goal.slice_bounds-wait-end
slice_bounds-wait-end c = simp length-take (omega arith)

pub returns : goal.returns
unfolding waited on_words
returns c = simp (le-ltb _ _ c.if-list-count.false, ← handed-on c.args.deadline) (told-outcome _ _ _ _ _ c.into.ensures (λ x b e. e) c.wait.ensures)
