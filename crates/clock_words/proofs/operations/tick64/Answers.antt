use Rattle.clock_words.specs.ClockWords.{read_into}
use Rattle.clock_words.proofs.operations.tick64.Goals as goal

pub returns : goal.returns
unfolding read_into
returns c = cc
