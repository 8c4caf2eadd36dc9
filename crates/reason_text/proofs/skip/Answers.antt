use mathlib.Core.Path.{sym, ◌∙◌}
use Rattle.script_lex.specs.Left.{left}
use Rattle.reason_text.proofs.ShowLaws.{skip-none, skip-more}
use Rattle.reason_text.proofs.skip.Goals as goal

pub loop-preserved : goal.loop-preserved
loop-preserved c = simp c.rest-here.ensures.words (sym (skip-more c.args.place c.loop.counter (left c.loop.here) c.loop-test.true) ∙ c.loop.invariant)

pub returns : goal.returns
returns c = skip-none c.args.place c.loop.counter (left c.loop.here) c.loop-test.false ∙ c.loop.invariant
