use Rattle.std.proofs.Common.{rules, tests}
use Rattle.answers.proofs.Converted.{told-outcome}
use Rattle.answers.specs.declared.Answer.TheVariants.{Done}
use Rattle.timers.specs.Release as release
use Rattle.raw_exports.proofs.timer_calls.raw_retire_timer_backing.Goals as goal

pub returns : goal.returns
returns c = c.change.ensures (λ w. release.timers_retired w c.args.address c.args.size) (λ w r after a ran says. told-outcome (λ x. Done) r a after.now _ says (λ x b e. e) (search (rules, tests)))
