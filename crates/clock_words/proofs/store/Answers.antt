use Rattle.clock_words.specs.ClockWords.{put_clock}
use Rattle.clock_words.proofs.store.Goals as goal

pub returns : goal.returns
unfolding put_clock
returns c = cc
