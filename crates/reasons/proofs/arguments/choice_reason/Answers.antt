use Rattle.reasons.specs.Reasons.{choice_reason}
use Rattle.reasons.proofs.ReasonLaws.{flags, architectures, backings, sets, kinds}
use Rattle.reasons.proofs.arguments.choice_reason.Goals as goal

pub returns-in-102 : goal.returns-in-102
unfolding choice_reason
returns-in-102 c = simp (c.in-102.is, ← flags) (simp c.in-102.is at c.list_reason.ensures)

pub returns-in-97 : goal.returns-in-97
unfolding choice_reason
returns-in-97 c = simp (c.in-97.is, ← architectures) (simp c.in-97.is at c.list_reason-in-97.ensures)

pub returns-in-109 : goal.returns-in-109
unfolding choice_reason
returns-in-109 c = simp (c.in-109.is, ← backings) (simp c.in-109.is at c.list_reason-in-109.ensures)

pub returns-in-115 : goal.returns-in-115
unfolding choice_reason
returns-in-115 c = simp (c.in-115.is, ← sets) (simp c.in-115.is at c.list_reason-in-115.ensures)

pub returns-in-107 : goal.returns-in-107
unfolding choice_reason
returns-in-107 c = simp (c.in-107.is, ← kinds) (simp c.in-107.is at c.list_reason-in-107.ensures)
