use Rattle.std.proofs.Common.{sym, ◌∙◌, arith, length-set, rules}
use Rattle.script_bytes.proofs.ByteLaws.{newline, letter-kept, letter-lost}
use Rattle.script_bytes.proofs.byte.Goals as goal

pub returns-then-b-eq10 : goal.returns-then-b-eq10
returns-then-b-eq10 c = record { text_after = c.finish.ensures.text_after ∙ sym (newline _ _ c.if-b-eq10.true); within = c.finish.ensures.within }

pub returns-then-n-line : goal.returns-then-n-line
returns-then-n-line c = record { text_after = sym (letter-kept _ _ c.if-b-eq10.false c.if-n-line.true); within = (simp length-set (omega (arith, c.if-n-line.true)), search rules) }

pub returns : goal.returns
returns c = record { text_after = sym (letter-lost _ _ c.if-b-eq10.false c.if-n-line.false); within = search rules }
