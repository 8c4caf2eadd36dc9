use native.Mathlib.Omega.{arith}
use borrow.Author.Tests.{eq-eqb, ne_eqb}
use Rattle.waits.specs.Lists.{takes_own}
use Rattle.waits.proofs.ListLaws.{first-within}
use Rattle.waits.proofs.lists.takes_own.Goals as goal

pub kind-kind-requires : goal.kind-kind-requires
kind-kind-requires c = omega (arith, first-within c.args.n c.args.w.now c.args.w.now c.args.at 0, c.first-i.ensures)

pub key-key-requires : goal.key-key-requires
key-key-requires c = omega (arith, first-within c.args.n c.args.w.now c.args.w.now c.args.at 0, c.first-i.ensures)

pub returns-then-all-eq0 : goal.returns-then-all-eq0
unfolding takes_own
returns-then-all-eq0 c = simp (eq-eqb _ _ c.if-all-eq0.true) (cc)

pub returns : goal.returns
unfolding takes_own
returns c = simp (ne_eqb _ _ c.if-all-eq0.false) (cc)
