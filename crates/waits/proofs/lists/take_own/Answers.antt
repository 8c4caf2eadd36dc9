use mathlib.Core.Path.{refl, sym, ◌∙◌}
use Rattle.std.proofs.Common.{rules}
use Rattle.words.proofs.Walks.{walk-more, walk-done}
use Rattle.waits.specs.Object.{taken}
use Rattle.waits.specs.Lists.{kind_in, key_in, taken_own}
use Rattle.waits.proofs.lists.take_own.Goals as goal

pub loop-i-preserved : goal.loop-i-preserved
unfolding taken_own
loop-i-preserved c = cc (walk-more (λ i w. taken w c.args.id (kind_in w c.args.at i) (key_in w c.args.at i)) (λ m i w. taken_own m w c.args.id c.args.at i) (λ m i w. refl) c.args.n c.loop-i.i c.loop-i.w (search rules))

pub returns : goal.returns
unfolding taken_own
returns c = sym (walk-done (λ m i w. taken_own m w c.args.id c.args.at i) (λ i w. refl) c.args.n c.loop-i.i c.loop-i.w (search rules)) ∙ c.loop-i.invariant
