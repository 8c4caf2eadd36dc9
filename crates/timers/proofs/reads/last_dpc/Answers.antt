use native.Mathlib.Omega.{arith}
use Prim.Native.Nat.{◌-◌}
use mathlib.Core.Path.{◌≡◌}
use borrow.Author.Tests.{ne_eqb}
use Rattle.tables.specs.Table.{position}
use Rattle.objects.specs.Objects.{dpcs_base}
use Rattle.dpcs.specs.Record.{dpc_count}
use Rattle.timers.specs.Reads.{last_dpc}
use Rattle.timers.proofs.PlaceLaws.{dpc-place}
use Rattle.timers.proofs.reads.last_dpc.Goals as goal

pub returns : goal.returns
unfolding last_dpc
returns c =
    let e : position c.args.w.now (dpcs_base c.args.w.now) (dpc_count c.args.w.now) c.args.end ≡ c.find-n.result = cc in
    let h = c.in_ok-i.ensures in
    let p = dpc-place c.args.w.now (c.find-n.result - 1) in
    simp (e, ne_eqb c.find-n.result 0 (omega (arith, h)), p) (cc h.1)
