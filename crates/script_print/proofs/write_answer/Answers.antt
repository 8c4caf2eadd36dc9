use mathlib.Core.Path.{ap, ◌∙◌}
use mathlib.Core.List.{[], ◌∷◌, ◌++◌}
use Rattle.script_print.specs.Print.{answer_line, answer_text, decimal, written}
use Rattle.script_print.proofs.PrintLaws.{join, ends-within}
use borrow.Author.Rules.{rules}
use Rattle.script_print.proofs.write_answer.Goals as goal

pub returns : goal.returns
unfolding answer_line
returns c = let t = c.args.text.now in
    let p = c.args.at in
    let d = decimal c.args.number in
    let a = answer_text c.args.a c.args.numbers.now in
    let name = c.push_bytes-2.ensures.0 ∙ c.push_answer.ensures.0 ∙ c.push_bytes.ensures.0 ∙ c.push_number.ensures.0 in
    let e = join t p ((d ++ (32 ∷ [])) ++ a) (10 ∷ []) (join t p (d ++ (32 ∷ [])) a (join t p d (32 ∷ []) c.push_number.ensures.1 c.push_bytes.ensures.1) c.push_answer.ensures.1) c.push_bytes-2.ensures.1 in
    let f = ap (λ s. written s c.push_bytes-2.new.self.at) (search rules) ∙ e in
    record { result_after = f; upper_bound = ends-within t p _ c.requires f }
