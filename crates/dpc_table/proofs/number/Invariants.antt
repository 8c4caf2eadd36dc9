use Prim.Native.Nat.{◌-◌, ◌≤◌}
use mathlib.Core.Path.{◌≡◌}
use lib.ListN.{length}
use Rattle.dpcs.specs.Record.{dpc_count}
use Rattle.dpc_table.specs.Table.{numbered_in, numbered}
use Rattle.dpc_table.proofs.number.Given as goal

abbrev pub invariant-loop-i : goal.invariant-loop-i
invariant-loop-i l = (l.last ≤ l.i) × (length l.w ≡ length l.initial.w) × (numbered_in (dpc_count l.initial.w - l.i) l.w l.base l.i l.last ≡ numbered l.initial.w)
