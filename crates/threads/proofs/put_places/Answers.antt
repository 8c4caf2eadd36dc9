use mathlib.Core.Path.{◌∙◌, sym}
use Rattle.std.proofs.Common.{rules}
use Rattle.threads.proofs.ThreadLaws.{put-more, put-done}
use Rattle.threads.proofs.put_places.Goals as goal

pub loop-i-preserved : goal.loop-i-preserved
loop-i-preserved c = (search rules, cc (put-more c.args.n c.loop-i.w c.args.at c.args.places c.loop-i.i (search rules)))

pub returns : goal.returns
returns c = sym (put-done c.args.n c.loop-i.w c.args.at c.args.places c.loop-i.i (search rules)) ∙ c.loop-i.invariant.1
