use native.Mathlib.Omega.{arith}
use mathlib.Core.Path.{refl, ◌∙◌}
use lib.Dec.{ltb}
use mathlib.Core.Bool.{not}
use Rattle.std.proofs.Common.{rules, tests, ◌+◌, ◌-◌}
use Rattle.tables.specs.Table.{key_at}
use Rattle.words.proofs.Walks.{cond-not, place_from_walk}
use Rattle.form_dpc.specs.Place.{past_in}
use Rattle.form_dpc.proofs.past.Goals as goal

pub returns : goal.returns
unfolding past_in
returns c =
    c.unwrap_or.ensures
    ∙ place_from_walk (λ i. not (ltb (key_at c.args.w.now c.args.base i) c.args.key)) (λ m i. past_in m c.args.w.now c.args.base i c.args.key)
    (λ i. refl) (λ m i. cond-not (ltb (key_at c.args.w.now c.args.base i) c.args.key) (past_in m c.args.w.now c.args.base (i + 1) c.args.key) i)
    _ _ _ c.args.from _ (c.args.n - c.args.from) _ c.find.ensures.ran refl refl (omega (arith, c.max.ensures)) (λ x b q k. search (rules, tests))
