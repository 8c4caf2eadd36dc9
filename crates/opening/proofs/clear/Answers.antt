use Rattle.std.proofs.Common.{arith, replicate, ℕ, length, ◌≡◌, rules}
use Rattle.std.proofs.lemmas.Grind.{common_steps}
use Rattle.words.specs.Layout as at
use Rattle.opening.proofs.OpenLaws.{cleared-start}
use Rattle.opening.proofs.clear.Goals as goal

pub returns : goal.returns
returns c =
    let e : c.fill.new.self ≡ replicate {A = ℕ} c.min-n.result 0 = search rules in
    let n : length (replicate {A = ℕ} c.min-n.result 0) ≡ c.min-n.result = grind (arith, common_steps) in
    cc (e, n, cleared-start c.min-n.result at.unused c.args.w.now (omega arith) (omega arith) (λ l. omega (arith, l)))
