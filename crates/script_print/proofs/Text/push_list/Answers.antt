use mathlib.Core.Path.{sym, ap, ◌∙◌}
use lib.ListN.{take}
use Rattle.std.proofs.lemmas.List.{take_min}
use Rattle.script_print.specs.Print.{printed, spaced}
use Rattle.script_print.proofs.PrintLaws.{list-end, list-more}
use borrow.Author.Rules.{rules}
use Rattle.script_print.proofs.Text.push_list.Goals as goal

pub loop-n-preserved : goal.loop-n-preserved
loop-n-preserved c = let e = list-more c.loop-n.self.bytes.now c.loop-n.self.at _ c.loop-n.n-index c.loop-n-test.true (search rules) in
    (c.push_named.ensures.0 ∙ c.loop-n.invariant.0, sym e ∙ c.loop-n.invariant.1)

pub returns : goal.returns
returns c = let e = list-end c.loop-n.self.bytes.now c.loop-n.self.at _ c.loop-n.n-index c.loop-n-test.false in
    let all = ap (λ n. take n c.args.numbers.now) c.min-most.ensures ∙ take_min c.args.count c.args.numbers.now in
    (c.loop-n.invariant.0, sym e ∙ c.loop-n.invariant.1 ∙ ap (λ ns. printed c.args.self.now.bytes.now c.args.self.now.at (spaced ns)) all)
