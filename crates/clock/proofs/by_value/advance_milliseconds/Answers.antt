use Rattle.std.proofs.Common.{◌∙◌, rules}
use Rattle.clock.specs.Clock.{advance_milliseconds, advanced_microseconds, advanced}
use Rattle.clock.proofs.FormLaws.{ended-is}
use Rattle.clock.proofs.AdvanceLaws.{fitted-is}
use Rattle.clock.proofs.by_value.advance_milliseconds.Goals as goal

pub returns : goal.returns
unfolding advance_milliseconds advanced_microseconds advanced
returns c = ended-is _ c.whole.ensures.out (λ e. let (after, post, is) = c.whole.ensures.ended e in is ∙ fitted-is _ _ _ after (search rules))
