use mathlib.Core.Path.{◌≡◌, ◌∙◌, refl, ap}
use Rattle.dpc_work.specs.Work.{told}
use Rattle.dpc_work.specs.WorkAnswer.{Work, Refused}
use Rattle.exports.specs.RecordAnswer.{told_by_number, work_refusal, work_answer_in}
use Rattle.exports.proofs.AnswerLaws.{given-same}
use Rattle.exports.proofs.RecordLaws.{started-short, started-by, work-by-number}
use Rattle.exports.proofs.record_answer.start.Goals as goal

pub returns-then-out-lt24 : goal.returns-then-out-lt24
returns-then-out-lt24 g c = λ f starts. given-same c.number.ensures refl ∙ started-short c.args.words.now c.args.out.now _ c.if-out-lt24.true

pub returns : goal.returns
returns g c =
    let e : told_by_number Work Refused c.by_number.result ≡ told c.call-answer.result = ap (told_by_number Work Refused) c.by_number.ensures ∙ work-by-number _ in
    λ f starts. given-same (c.put_work_answer.ensures.0 ∙ ap work_refusal e) (c.put_work_answer.ensures.1 ∙ ap (work_answer_in c.args.out.now) e)
    ∙ started-by c.args.words.now c.args.out.now _ _ _ c.if-out-lt24.false (starts _ _ _ c.call-answer.ensures)
