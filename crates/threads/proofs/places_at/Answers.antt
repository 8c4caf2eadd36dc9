use native.Mathlib.Omega.{arith}
use Rattle.words.proofs.LayoutLaws.{thread-small}
use Rattle.threads.specs.Thread.{places_at}
use Rattle.threads.proofs.places_at.Goals as goal

pub overflow_add-result : goal.overflow_add-result
overflow_add-result c = omega (arith, thread-small c.args.id, c.thread_at.ensures)

pub returns : goal.returns
unfolding places_at
returns c = cc
