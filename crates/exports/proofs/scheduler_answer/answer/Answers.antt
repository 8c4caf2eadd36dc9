use mathlib.Core.Path.{◌∙◌, refl}
use Rattle.calls.specs.Guard as kind
use Rattle.exports.proofs.AnswerLaws.{given-same}
use Rattle.exports.proofs.RecordLaws.{read_short, read-by}
use Rattle.exports.proofs.scheduler_answer.answer.Goals as goal

pub returns-then-out-lt4 : goal.returns-then-out-lt4
returns-then-out-lt4 g c = λ a tells w. given-same c.number.ensures refl ∙ read_short kind.plain w c.args.out.now a c.if-out-lt4.true

pub returns : goal.returns
returns g c = λ a tells w. given-same c.put_answer.ensures.0 c.put_answer.ensures.1 ∙ read-by kind.plain w c.args.out.now c.into-told.result a c.if-out-lt4.false (tells _ _ c.read.ensures c.into-told.ensures)
