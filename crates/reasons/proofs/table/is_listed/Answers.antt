use Rattle.std.proofs.Common.{rules}
use Rattle.std.proofs.lemmas.Iterator.Consumers.{YieldsList-from_first}
use Rattle.std.proofs.lemmas.Iterator.Search.{any_from_yields_List}
use Rattle.script_lex.specs.Words.{words_at, first, same}
use Rattle.script_lex.specs.Left.{left}
use Rattle.reasons.proofs.TableLaws.{listed-any}
use Rattle.reasons.proofs.table.is_listed.Goals as goal

pub returns : goal.returns
returns c = rw (listed-any (words_at c.args.list.now 0) (first (left c.args.words)))
    (any_from_yields_List (same (first (left c.args.words))) c.any.new.self _ c.any.result c.any.ensures.ran (YieldsList-from_first (λ x. x.now) left (words_at c.args.list.now 0) c.of.ensures.words) (λ x b q k. search rules))
