use Rattle.std.proofs.Common.{◌∙◌}
use Rattle.clock.specs.Clock.{flush_cycles}
use Rattle.clock.proofs.FormLaws.{form-facts, ended-is}
use Rattle.clock.proofs.AdvanceLaws.{fitted-is}
use Rattle.clock.proofs.by_value.flush_cycles.Goals as goal

pub whole-requires : goal.whole-requires
whole-requires c = λ e. (form-facts _ e).mhz-least

pub returns : goal.returns
unfolding flush_cycles
returns c = ended-is _ c.whole.ensures.out (λ e. let (after, post, is) = c.whole.ensures.ended e in is ∙ fitted-is _ _ _ after post.1)
