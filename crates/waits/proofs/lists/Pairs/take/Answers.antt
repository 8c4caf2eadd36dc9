use native.Mathlib.Omega.{arith}
use borrow.Author.Tests.{eq-eqb, ne_eqb}
use Rattle.waits.specs.Lists.{takes_list}
use Rattle.waits.proofs.ListLaws.{first-within, first-drop, kind-drop, key-drop}
use Rattle.waits.proofs.lists.Pairs.take.Goals as goal

pub kind-requires : goal.kind-requires
kind-requires c = omega (arith, first-within c.args.self.now.n c.args.w.now c.args.self.now.src.now c.args.self.now.at 0, c.first-i.ensures, c.args.self.now.few)

pub key-requires : goal.key-requires
key-requires c = omega (arith, first-within c.args.self.now.n c.args.w.now c.args.self.now.src.now c.args.self.now.at 0, c.first-i.ensures, c.args.self.now.few)

pub returns-then-all-eq0 : goal.returns-then-all-eq0
unfolding takes_list
returns-then-all-eq0 c = simp (eq-eqb _ _ c.if-all-eq0.true, first-drop, kind-drop, key-drop) (cc)

pub returns : goal.returns
unfolding takes_list
returns c = simp (ne_eqb _ _ c.if-all-eq0.false) (cc)
