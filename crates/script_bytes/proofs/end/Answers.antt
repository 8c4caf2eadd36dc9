use Rattle.std.proofs.Common.{sym, ap, ◌∙◌, arith}
use Rattle.script_bytes.specs.declared.Place.{Place}
use Rattle.script_bytes.specs.Bytes.{machine, finished}
use Rattle.script_bytes.proofs.ByteLaws.{ended-none, ended_some}
use Rattle.script_bytes.proofs.end.Goals as goal

pub returns-then-p-eq0 : goal.returns-then-p-eq0
returns-then-p-eq0 c = record { text_after = ap (λ (p : Place). machine p c.args.w.now c.args.waiting.now c.args.list.now c.args.line.now c.args.text.now) c.from_start.ensures ∙ sym (ended-none _ c.if-p-eq0.true); within_2 = simp c.from_start.ensures (c.requires.within.0, omega arith) }

pub finish-requires : goal.finish-requires
finish-requires c = simp c.from_start-2.ensures (c.requires.within.0, omega arith)

pub returns : goal.returns
returns c = record { text_after = c.finish.ensures.text_after ∙ ap (λ (p : Place). finished (machine p c.args.w.now c.args.waiting.now c.args.list.now c.args.line.now c.args.text.now)) c.from_start-2.ensures ∙ sym (ended_some _ c.if-p-eq0.false); within_2 = c.finish.ensures.within }
