use mathlib.Core.Path.{◌∙◌, refl}
use Rattle.exports.proofs.AnswerLaws.{given-same, changed-short, changed-by}
use Rattle.exports.proofs.scheduler_answer.change.Goals as goal

pub returns-then-out-lt4 : goal.returns-then-out-lt4
returns-then-out-lt4 g c = λ f does. given-same c.number.ensures refl ∙ changed-short c.args.words.now c.args.out.now _ c.if-out-lt4.true

pub returns : goal.returns
returns g c = λ f does. given-same c.put_answer.ensures.0 c.put_answer.ensures.1 ∙ changed-by c.args.words.now c.args.out.now _ c.into.result _ c.if-out-lt4.false (does _ _ _ _ c.call-answer.ensures c.into.ensures)
