use Rattle.std.proofs.Common.{rules, tests}
use Rattle.answers.proofs.Converted.{told-outcome}
use Rattle.answers.specs.declared.Answer.TheVariants.{Done}
use Rattle.advancing.specs.Advance.{advanced}
use Rattle.raw_exports.proofs.changes.raw_advance_to.Goals as goal

pub returns : goal.returns
returns c = c.change.ensures (λ w. advanced w c.args.time) (λ w r after a ran says. told-outcome (λ x. Done) r a after.now _ says (λ x b e. e) (search (rules, tests)))
