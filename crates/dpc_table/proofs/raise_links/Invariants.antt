use Prim.Native.Nat.{◌+◌, ◌-◌}
use mathlib.Core.Path.{◌≡◌}
use lib.ListN.{length}
use Rattle.dpc_table.specs.Table.{links_raised_in}
use Rattle.dpc_table.proofs.raise_links.Given as goal

abbrev pub invariant-loop-k : goal.invariant-loop-k
invariant-loop-k l = (length l.w ≡ length l.initial.w) × (links_raised_in (l.n + 1 - l.k) l.w l.c l.k l.position ≡ links_raised_in (l.n + 1) l.initial.w l.c 0 l.position)
