use mathlib.Core.Path.{ap, ◌∙◌}
use Rattle.answers.proofs.Converted.{told-is}
use Rattle.answers.specs.declared.Answer.{Answer}
use Rattle.dispatcher.specs.Dispatch.{told}
use Rattle.exports.specs.SchedulerAnswer.{given_all}
use Rattle.raw_exports.proofs.DispatchLaws.{dispatched-short, dispatched-by}
use Rattle.raw_exports.proofs.changes.raw_dispatch.Goals as goal

pub returns-then-out-lt4 : goal.returns-then-out-lt4
returns-then-out-lt4 c = (λ i. given_all (c.number.ensures i) c.args.words.now c.args.waiting.now c.args.out.now) ∙ dispatched-short c.args.words.now c.args.waiting.now c.args.out.now _ c.if-out-lt4.true

pub returns : goal.returns
returns c = (λ i. given_all (c.put_answer.ensures.0 i) c.dispatch-answer.new.w c.dispatch-answer.new.out (c.put_answer.ensures.1 i)) ∙ dispatched-by c.args.words.now c.args.waiting.now c.args.out.now _ c.into.result c.dispatch-answer.new.w c.dispatch-answer.new.out c.if-out-lt4.false (ap (λ (a : Answer). told a c.dispatch-answer.new.w c.dispatch-answer.new.out) (told-is _ _ _ c.into.ensures (λ x b e. e)) ∙ c.dispatch-answer.ensures)
