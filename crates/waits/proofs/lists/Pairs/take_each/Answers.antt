use mathlib.Core.Path.{refl, sym, ◌∙◌}
use Rattle.std.proofs.Common.{rules, drop}
use Rattle.words.proofs.Walks.{walk-more, walk-done}
use Rattle.waits.specs.Object.{taken}
use Rattle.waits.specs.Lists.{kind_in, key_in, taken_list}
use Rattle.waits.proofs.ListLaws.{kind-drop, key-drop}
use Rattle.waits.proofs.lists.Pairs.take_each.Goals as goal

pub loop-i-preserved : goal.loop-i-preserved
unfolding taken_list
loop-i-preserved c =
    let kind = kind-drop c.args.self.now.src.now c.args.self.now.at c.loop-i.i in
    let key = key-drop c.args.self.now.src.now c.args.self.now.at c.loop-i.i in
    cc (walk-more (λ i w. taken w c.args.id (kind_in (drop c.args.self.now.at c.args.self.now.src.now) 0 i) (key_in (drop c.args.self.now.at c.args.self.now.src.now) 0 i)) (λ m i w. taken_list m w c.args.id (drop c.args.self.now.at c.args.self.now.src.now) i) (λ m i w. refl) c.args.self.now.n c.loop-i.i c.loop-i.w (search rules))

pub returns : goal.returns
unfolding taken_list
returns c = sym (walk-done (λ m i w. taken_list m w c.args.id (drop c.args.self.now.at c.args.self.now.src.now) i) (λ i w. refl) c.args.self.now.n c.loop-i.i c.loop-i.w (search rules)) ∙ c.loop-i.invariant
