use mathlib.Core.Path.{sym, ap, ◌∙◌}
use mathlib.Core.Bool.{not}
use Rattle.std.proofs.Common.{rules, tests}
use Rattle.std.proofs.lemmas.Iterator.{YieldsList-from_slice}
use Rattle.std.proofs.lemmas.Iterator.Search.{all_from_yields_List}
use Rattle.script_lex.specs.Numbers.{is_digit}
use Rattle.reasons.proofs.WordLaws.{all-digits, digits-none, digits-some}
use Rattle.reasons.proofs.arguments.are_digits.Goals as goal

pub returns-then-not-is_empty : goal.returns-then-not-is_empty
returns-then-not-is_empty c =
    all_from_yields_List is_digit c.all.new.self _ c.all.result c.all.ensures.ran (YieldsList-from_slice c.args.word.now (cc)) (λ x b q k. search (rules, tests))
    ∙ all-digits c.args.word.now
    ∙ sym (digits-some c.args.word.now (sym c.is_empty.ensures ∙ c.if-not-is_empty.true))

pub returns-else-not-is_empty : goal.returns-else-not-is_empty
returns-else-not-is_empty c = ap not c.if-not-is_empty.false ∙ sym (digits-none c.args.word.now (sym c.is_empty.ensures ∙ c.if-not-is_empty.false))
