use mathlib.Core.Path.{◌≡◌, ◌∙◌, sym, ap}
use native.Mathlib.Omega.{arith}
use Prim.Native.Nat.{◌+◌, ◌<◌}
use borrow.Author.Tests.{lt-ltb, le-ltb}
use Rattle.tables.specs.Table.{position, narrowed}
use Rattle.tables.proofs.TableLaws.{search-none, search-found, search-more, narrowed-within, ends}
use borrow.Author.Rules.{rules}
use Rattle.tables.proofs.find.Goals as goal

pub returns-then-n-gt-MOST : goal.returns-then-n-gt-MOST
unfolding position
returns-then-n-gt-MOST c = simp (lt-ltb _ _ c.if-n-gt-MOST.true)

pub loop-init : goal.loop-init
unfolding position
loop-init c = (search rules, simp (le-ltb _ _ c.if-n-gt-MOST.false))

pub returns-then-p-eq0 : goal.returns-then-p-eq0
returns-then-p-eq0 c = sym (search-found _ _ _ _ _ c.if-p-eq0.true) ∙ c.loop.invariant.1

pub narrow-p-requires : goal.narrow-p-requires
narrow-p-requires c = (omega (arith, c.if-p-eq0.false), c.loop.invariant.0)

pub loop-preserved : goal.loop-preserved
loop-preserved c = let size : 0 < c.loop.p.size = omega (arith, c.if-p-eq0.false) in
    let within = narrowed-within c.args.w.now c.args.base c.args.key c.loop.p size in
    let e : c.narrow-p.result.from + c.narrow-p.result.size ≡ ends (narrowed c.args.w.now c.args.base c.args.key c.loop.p) = ap ends c.narrow-p.ensures in
    (omega arith, search-more 13 c.loop.counter _ _ _ _ _ (omega arith) c.if-p-eq0.false c.narrow-p.ensures ∙ c.loop.invariant.1)

pub returns : goal.returns
returns c = sym (search-none _ _ _ _ _ (omega arith)) ∙ c.loop.invariant.1
