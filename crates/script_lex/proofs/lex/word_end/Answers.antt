use mathlib.Core.Path.{refl, ◌∙◌}
use mathlib.Core.Bool.{not}
use native.Mathlib.Omega.{arith}
use lib.ListN.{drop, length-drop}
use Rattle.std.proofs.Common.{rules, tests}
use Rattle.std.proofs.lemmas.Iterator.{YieldsList-from_slice}
use Rattle.std.proofs.lemmas.Iterator.Consumers.{count_from_yields_List}
use Rattle.std.proofs.lemmas.Iterator.Search.{YieldsList-from_take_while}
use Rattle.std.proofs.lemmas.List.Folds.{length-prefix_len}
use Rattle.script_lex.specs.Words.{blank}
use Rattle.script_lex.proofs.WordLaws.{letters-small, letters-count, end-end, rest-is}
use Rattle.script_lex.proofs.lex.word_end.Goals as goal

pub overflow_add-result : goal.overflow_add-result
overflow_add-result c = let e = (count_from_yields_List c.take_while.result _ c.count-passed.ensures.ran (YieldsList-from_take_while _ (λ b. not (blank b)) (YieldsList-from_slice (drop c.args.from c.args.line.now) (cc (c.iter.ensures.rest, c.take_while.ensures.source, rest-is c.args.line.now c.args.from))) c.take_while.ensures.closure c.take_while.ensures.done (λ x b q k. search (rules, tests))) ∙ length-prefix_len (λ b. not (blank b)) (drop c.args.from c.args.line.now) ∙ letters-count (drop c.args.from c.args.line.now)) in omega (arith, e, letters-small (drop c.args.from c.args.line.now), length-drop c.args.from c.args.line.now)

pub returns : goal.returns
returns c = let e = (count_from_yields_List c.take_while.result _ c.count-passed.ensures.ran (YieldsList-from_take_while _ (λ b. not (blank b)) (YieldsList-from_slice (drop c.args.from c.args.line.now) (cc (c.iter.ensures.rest, c.take_while.ensures.source, rest-is c.args.line.now c.args.from))) c.take_while.ensures.closure c.take_while.ensures.done (λ x b q k. search (rules, tests))) ∙ length-prefix_len (λ b. not (blank b)) (drop c.args.from c.args.line.now) ∙ letters-count (drop c.args.from c.args.line.now)) in rw e refl

pub returns-then-line-from : goal.returns-then-line-from
returns-then-line-from c = end-end c.args.line.now c.args.from c.if-line-from.true
