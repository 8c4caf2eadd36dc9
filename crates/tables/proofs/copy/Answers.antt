use Rattle.std.proofs.Common.{rules, arith, ◌≡◌, ◌∙◌, ◌+◌, ◌-◌, sym}
use Rattle.tables.specs.Compact.{copied}
use Rattle.tables.proofs.CompactLaws.{copied_none, copied_more}
use Rattle.tables.proofs.copy.Goals as goal

pub loop-k-init : goal.loop-k-init
unfolding copied
loop-k-init c = (search rules, cc)

pub loop-k-preserved : goal.loop-k-preserved
loop-k-preserved c = let e : 32 - (c.loop-k.k + 1) ≡ 32 - c.loop-k.k - 1 = omega arith in
    (search rules, cc (copied_more (32 - c.loop-k.k) c.loop-k.w c.args.from c.args.to c.loop-k.k (omega arith)))

pub returns : goal.returns
returns c = sym (copied_none _ _ _ _ _ (omega arith)) ∙ c.loop-k.invariant.1
