use mathlib.Core.List.{[], ◌∷◌}
use lib.ListN.{take}
use Rattle.script_lex.specs.Words.{first}
use Rattle.script_lex.specs.Left.{left}
use Rattle.script_print.proofs.TextLaws.{prints-more}
use Rattle.reason_text.specs.Words.{shown, quoted}
use Rattle.reason_text.proofs.put_quoted.Goals as goal

pub returns : goal.returns
unfolding quoted
returns c = let t = c.args.text.now in
    let w = shown (take 40 (first (left c.skip.result))) in
    let u = c.put_first.new.text in
    simp (← c.skip.ensures) (prints-more t u c.push_bytes-2.new.self (96 ∷ w) (96 ∷ []) (prints-more t c.push_bytes.new.self u (96 ∷ []) w c.push_bytes.ensures c.put_first.ensures) c.push_bytes-2.ensures)
