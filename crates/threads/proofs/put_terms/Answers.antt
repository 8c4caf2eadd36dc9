use Rattle.threads.specs.Thread.{put_terms}
use Rattle.threads.proofs.put_terms.Goals as goal

pub returns : goal.returns
unfolding put_terms
returns c = cc
