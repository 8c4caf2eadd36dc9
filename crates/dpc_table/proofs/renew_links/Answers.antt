use native.Mathlib.Omega.{arith}
use Prim.Native.Nat.{◌+◌, ◌-◌}
use mathlib.Core.Path.{◌≡◌, ◌∙◌, sym}
use Rattle.chains.specs.Chain.{next_of}
use Rattle.dpc_table.specs.Table.{links_renewed}
use Rattle.dpc_table.proofs.TableLaws.{renewed-none, renewed-stop, renewed-more}
use borrow.Author.Rules.{rules}
use Rattle.dpc_table.proofs.renew_links.Goals as goal

pub loop-passed-init : goal.loop-passed-init
unfolding links_renewed
loop-passed-init c = (search rules, cc)

pub returns-then-before-eq0 : goal.returns-then-before-eq0
returns-then-before-eq0 c =
    let e : next_of c.loop-passed.w c.args.c c.loop-passed.before ≡ 0 = cc in
    cc (renewed-stop (4097 - c.loop-passed._passed) c.loop-passed.w c.args.c c.loop-passed.before (omega (arith, c.loop-passed-test.true)) e)

pub loop-passed-preserved : goal.loop-passed-preserved
loop-passed-preserved c =
    let e : next_of c.loop-passed.w c.args.c c.loop-passed.before ≡ 0 → ⊥ = λ q. c.if-before-eq0.false (cc) in
    let l : 4097 - (c.loop-passed._passed + 1) ≡ 4097 - c.loop-passed._passed - 1 = omega arith in
    (search rules, rw l (cc (renewed-more (4097 - c.loop-passed._passed) c.loop-passed.w c.args.c c.loop-passed.before (omega (arith, c.loop-passed-test.true)) e)))

pub returns : goal.returns
returns c = sym (renewed-none _ _ _ _ (omega (arith, c.loop-passed-test.false))) ∙ c.loop-passed.invariant.1
