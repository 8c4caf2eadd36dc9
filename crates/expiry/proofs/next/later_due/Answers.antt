use Rattle.std.proofs.Common.{ℕ, Option, ap, ◌∙◌, unwrap_or}
use Rattle.expiry.specs.Next.{later_due}
use Rattle.expiry.proofs.NextLaws.{value-or}
use Rattle.expiry.proofs.next.later_due.Goals as goal

pub returns : goal.returns
unfolding later_due
returns c = c.unwrap_or.ensures ∙ ap (λ (r : Option ℕ). unwrap_or r c.args.due) c.next_due.ensures ∙ value-or _ _
