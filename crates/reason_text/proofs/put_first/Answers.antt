use borrow.Author.Rules.{rules}
use Rattle.reason_text.proofs.ShowLaws.{word-cut}
use Rattle.reason_text.proofs.put_first.Goals as goal

pub returns : goal.returns
returns c = simp (← c.first-word.ensures, ← word-cut c.min.result c.first-word.result.now (search rules)) c.put_shown.ensures
