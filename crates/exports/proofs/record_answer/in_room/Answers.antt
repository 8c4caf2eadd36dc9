use mathlib.Core.Path.{◌∙◌, refl, sym, subst}
use Prim.Native.Nat.{ℕ, ◌≤◌, ◌<◌}
use lib.ListN.{length}
use Rattle.exports.proofs.AnswerLaws.{given-same}
use Rattle.exports.proofs.RecordLaws.{read_short, read-by}
use Rattle.exports.proofs.record_answer.in_room.Goals as goal

pub returns-then-out-lt24 : goal.returns-then-out-lt24
returns-then-out-lt24 g c = λ k q a puts w. given-same c.number.ensures refl ∙ read_short k w c.args.out.now a (subst (λ (n : ℕ). length c.args.out.now < n) (sym q) c.if-out-lt24.true)

pub returns : goal.returns
returns g c = λ k q a puts w. let put = puts _ c.read-answer.ensures _ _ _ c.put.ensures in
    given-same put.0 put.1 ∙ read-by k w c.args.out.now a a (subst (λ (n : ℕ). n ≤ length c.args.out.now) (sym q) c.if-out-lt24.false) refl
