use mathlib.Core.Path.{◌≡◌}
use Prim.Native.Nat.{◌+◌, ◌-◌, ◌*◌, ◌≤◌}
use Rattle.form_chains.specs.Chain.{queues_in, ready_size}
use Rattle.form_chains.proofs.ready_size.Given as goal

abbrev pub invariant-loop-p : goal.invariant-loop-p
invariant-loop-p l = (l.n ≤ 4096 * l.p) × (queues_in (32 - l.p) l.w l.p (l.n + 1) ≡ ready_size l.w)
