use Rattle.std.proofs.Common.{sym, ap, ◌∙◌, is_some}
use Rattle.expiry.specs.Next.{passes}
use Rattle.expiry.proofs.NextLaws.{none-is}
use Rattle.expiry.proofs.next.passes.Goals as goal

pub returns : goal.returns
unfolding passes
returns c = none-is _ _ (ap is_some (sym c.next_due.ensures) ∙ c.is_none.ensures)
