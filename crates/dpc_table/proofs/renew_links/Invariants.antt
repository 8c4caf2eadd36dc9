use Prim.Native.Nat.{◌-◌}
use mathlib.Core.Path.{◌≡◌}
use lib.ListN.{length}
use Rattle.dpc_table.specs.Table.{links_renewed_in, links_renewed}
use Rattle.dpc_table.proofs.renew_links.Given as goal

abbrev pub invariant-loop-passed : goal.invariant-loop-passed
invariant-loop-passed l = (length l.w ≡ length l.initial.w) × (links_renewed_in (4097 - l._passed) l.w l.c l.before ≡ links_renewed l.initial.w l.c)
