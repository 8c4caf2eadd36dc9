use mathlib.Core.Path.{ap, ◌∙◌}
use mathlib.Core.List.{[], ◌∷◌, ◌++◌}
use Rattle.script_print.specs.Print.{answer_text, decimal, written}
use Rattle.script_print.proofs.PrintLaws.{join, ends-within}
use Rattle.explain_line.specs.Explain.{beside, explained_line}
use borrow.Author.Rules.{rules}
use Rattle.explain_line.proofs.put_line.Goals as goal

pub returns : goal.returns
unfolding explained_line
returns c = let t = c.args.text.now in
    let p = c.args.at in
    let d = decimal c.args.number in
    let a = answer_text c.args.a c.args.numbers.now in
    let b = beside c.args.line.now c.args.opened c.args.a in
    let name = c.push_bytes-2.ensures.0 ∙ c.put_beside.ensures.0 ∙ c.push_answer.ensures.0 ∙ c.push_bytes.ensures.0 ∙ c.push_number.ensures.0 in
    let e = join t p (((d ++ (32 ∷ [])) ++ a) ++ b) (10 ∷ []) (join t p ((d ++ (32 ∷ [])) ++ a) b (join t p (d ++ (32 ∷ [])) a (join t p d (32 ∷ []) c.push_number.ensures.1 c.push_bytes.ensures.1) c.push_answer.ensures.1) c.put_beside.ensures.1) c.push_bytes-2.ensures.1 in
    let f = ap (λ s. written s c.push_bytes-2.new.self.at) (search rules) ∙ e in
    record { result_after = f; upper_bound = ends-within t p _ c.requires f }
