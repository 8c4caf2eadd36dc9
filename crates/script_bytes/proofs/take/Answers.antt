use Rattle.std.proofs.Common.{◌+◌, drop, sym, refl, ap, ◌∙◌, arith}
use Rattle.script_bytes.specs.declared.Place.{Place}
use Rattle.script_bytes.specs.Bytes.{Machine, machine, bytes_taken, part_taken}
use Rattle.script_bytes.proofs.ByteLaws.{bytes-more, bytes-end}
use Rattle.script_bytes.proofs.take.Goals as goal

pub loop-b-init : goal.loop-b-init
loop-b-init c = record { within = simp c.from_start-at.ensures (c.requires.within.0, omega arith); taken = refl }

pub loop-b-preserved : goal.loop-b-preserved
loop-b-preserved c = record { within = c.byte-at.ensures.within; taken = ap (λ (m : Machine). bytes_taken m (drop (c.loop-b.b-index + 1) c.args.part.now)) c.byte-at.ensures.text_after ∙ sym (bytes-more _ _ _ c.loop-b-test.true) ∙ c.loop-b.invariant.taken }

pub returns : goal.returns
unfolding part_taken
returns c = record { text_after = sym (bytes-end _ _ _ c.loop-b-test.false) ∙ c.loop-b.invariant.taken ∙ ap (λ (p : Place). bytes_taken (machine p c.args.w.now c.args.waiting.now c.args.list.now c.args.line.now c.args.text.now) c.args.part.now) c.from_start-at.ensures; within_2 = c.loop-b.invariant.within }
