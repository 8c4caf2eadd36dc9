use Rattle.wide.specs.Checked.{checked}
use Rattle.wide.proofs.CheckedLaws.{checked_is}
use Rattle.expiry.proofs.NextLaws.{next-early, next-late, rest-most}
use Rattle.std.proofs.Common.{sym, ap, ◌∙◌}
use Rattle.expiry.proofs.next.next_by.Goals as goal

pub returns-then-time-due : goal.returns-then-time-due
returns-then-time-due c = checked_is _ _ c.checked_add.ensures ∙ ap checked (sym (next-early c.args.due c.args.time c.args.step c.if-time-due.true))

pub overflow_sub-time-2 : goal.overflow_sub-time-2
overflow_sub-time-2 c = rest-most c.args.due c.args.time c.args.step

pub returns : goal.returns
returns c = checked_is _ _ c.checked_add-2.ensures ∙ ap checked (sym (next-late c.args.due c.args.time c.args.step c.if-time-due.false))
