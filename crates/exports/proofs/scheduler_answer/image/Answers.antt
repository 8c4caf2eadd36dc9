use mathlib.Core.Path.{ap, ◌∙◌}
use Rattle.answers.proofs.Converted.{told-is}
use Rattle.answers.specs.declared.Answer.{Answer}
use Rattle.calls.specs.Images.{imaged}
use Rattle.exports.specs.RecordCall.{given_image}
use Rattle.exports.proofs.RecordLaws.{image-short, image-by}
use Rattle.exports.proofs.scheduler_answer.image.Goals as goal

pub returns-then-out-lt4 : goal.returns-then-out-lt4
returns-then-out-lt4 g c = λ f writes. (λ i. given_image (c.number.ensures i) c.args.bytes.now c.args.out.now) ∙ image-short c.args.bytes.now c.args.out.now _ c.if-out-lt4.true

pub returns : goal.returns
returns g c = λ f writes. (λ i. given_image (c.put_answer.ensures.0 i) c.call-answer.new.arg2 (c.put_answer.ensures.1 i))
    ∙ image-by c.args.bytes.now c.args.out.now _ c.into.result _ c.if-out-lt4.false (ap (λ (a : Answer). imaged a c.call-answer.new.arg2) (told-is _ _ _ c.into.ensures (λ x b e. e)) ∙ writes _ _ _ c.call-answer.ensures)
