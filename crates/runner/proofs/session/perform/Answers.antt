use Rattle.runner.proofs.CommandLaws.{no-open, unread-line}
use Rattle.commands.specs.Commands.{asked}
use Rattle.runner.specs.Session.{performed, begun}
use Rattle.runner.proofs.session.perform.Goals as goal

pub returns-in_default : goal.returns-in_default
returns-in_default c = simp (c.in_default.is, c.unchanged.ensures) (unread-line _ _ c.args.list.now c.args.s)

pub returns-then-s : goal.returns-then-s
unfolding performed
returns-then-s c = simp (c.in-Some.is, c.if-s.true) c.go_on.ensures

pub returns-in-Open : goal.returns-in-Open
unfolding performed asked begun
returns-in-Open c = simp (c.in-Some.is, c.if-s.false, c.in-Open.is) (cc (c.begin.ensures.value, c.begin.ensures.w_after))

pub returns : goal.returns
unfolding performed
returns c = simp (c.in-Some.is, c.if-s.false, c.unchanged-2.ensures) (no-open _ _ _ _ c.in-Some.command c.in_default-command.not-Open)
