use mathlib.Core.Path.{◌≡◌, ◌∙◌, sym}
use native.Mathlib.Omega.{arith}
use Prim.Native.Nat.{◌+◌, ◌-◌, ◌≤◌, ◌<◌}
use Rattle.chains.specs.Chain.{next_of}
use Rattle.chains.specs.Ready.{waiters_chain}
use Rattle.form_chains.specs.Chain.{sequence_at, sequences_rise}
use Rattle.form_chains.proofs.ChainLaws.{sequences-none, sequences-end, sequences-stop, sequences-more}
use Rattle.form_chains.proofs.sequences_rise.Goals as goal

pub loop-init : goal.loop-init
unfolding sequences_rise
loop-init c = cc

pub returns-then-at-eq0 : goal.returns-then-at-eq0
returns-then-at-eq0 c = sym (sequences-end _ _ _ (omega arith) c.if-at-eq0.true) ∙ c.loop.invariant

pub returns-then-sequence_at : goal.returns-then-sequence_at
returns-then-sequence_at c = let e : c.after-next.result ≡ next_of c.args.w.now waiters_chain c.loop.at = cc in
    let l : sequence_at c.args.w.now c.after-next.result ≤ sequence_at c.args.w.now c.loop.at = omega (arith, c.sequence_at.ensures, c.sequence_at-in-loop.ensures) in
    sym (sequences-stop (4096 - c.loop.counter) c.args.w.now c.loop.at (omega arith) c.if-at-eq0.false (rw (← e) l)) ∙ c.loop.invariant

pub loop-preserved : goal.loop-preserved
loop-preserved c = let e : c.after-next.result ≡ next_of c.args.w.now waiters_chain c.loop.at = cc in
    let l : sequence_at c.args.w.now c.loop.at < sequence_at c.args.w.now c.after-next.result = omega (arith, c.sequence_at.ensures, c.sequence_at-in-loop.ensures) in
    let f : 4096 - (c.loop.counter + 1) ≡ 4096 - c.loop.counter - 1 = omega arith in
    cc (f, sequences-more (4096 - c.loop.counter) c.args.w.now c.loop.at (omega arith) c.if-at-eq0.false (rw (← e) l))

pub returns : goal.returns
returns c = sym (sequences-none _ _ _ (omega arith)) ∙ c.loop.invariant
