use mathlib.Core.Path.{◌≡◌}
use Prim.Native.Nat.{◌+◌, ◌-◌}
use Rattle.form_dpc.specs.Queue.{queue_in, queue_size}
use Rattle.form_dpc.proofs.queue.queue_size.Given as goal

abbrev pub invariant-loop-n : goal.invariant-loop-n
invariant-loop-n l = queue_in (4097 - l.n) l.w l.c l.before l.at (l.n + 1) ≡ queue_size l.w
