use Rattle.std.proofs.Common.{to_z-of_z, le-leb, lt-ltb, le-ltb, arith, rules, w32, SFits}
use Rattle.std.proofs.lemmas.Grind.{common_steps}
use borrow.Author.Tests.{lt-leb}
use Rattle.clock.specs.Clock.{in_form}
use Rattle.clock.proofs.by_value.in_form.Goals as goal

pub returns-then-c-le-FLUSH_EVERY : goal.returns-then-c-le-FLUSH_EVERY
unfolding in_form
returns-then-c-le-FLUSH_EVERY c =
    let offset : SFits w32 c.args.c.utc_offset_minutes = search rules in
    let t = c.if-c-le-FLUSH_EVERY.true in
    simp (lt-ltb _ _ t.0, le-leb _ _ t.1, le-leb _ _ t.2, c.in_range.ensures, to_z-of_z offset)

pub returns-else-c-le-FLUSH_EVERY : goal.returns-else-c-le-FLUSH_EVERY
unfolding in_form
returns-else-c-le-FLUSH_EVERY c = grind (arith, common_steps, le-leb, lt-leb, le-ltb, lt-ltb)
