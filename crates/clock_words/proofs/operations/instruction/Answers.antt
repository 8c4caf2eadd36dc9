use Rattle.std.proofs.Common.{rules, ap, ◌∙◌}
use Rattle.clock_words.specs.ClockWords.{changed, ended}
use Rattle.clock_words.proofs.operations.instruction.Goals as goal

pub returns : goal.returns
unfolding changed
returns c = let (after, post, is) = c.change.ensures in is ∙ ap (ended _) post.1
