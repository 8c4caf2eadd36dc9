use Rattle.std.proofs.Common.{rules, ◌∙◌}
use Rattle.tables.specs.Compact.{is_marked}
use Rattle.tables.proofs.CompactLaws.{compacted-retained}
use Rattle.tables.proofs.compact.Goals as goal

pub returns : goal.returns
returns c =
    let same = compacted-retained c.args.word c.args.mark c.args.w.now c.args.base c.args.n in
    let kept = c.retain.ensures (λ w at. is_marked w at c.args.word c.args.mark) (λ w at r p. search rules) in
    (kept.0 ∙ same.0, kept.1 ∙ same.1)
