use Rattle.std.proofs.Common.{◌≡◌, ◌+◌, ◌-◌, ◌≤◌, length}
use Rattle.threads.specs.Thread.{thread_count}
use Rattle.dispatcher.specs.Dispatch.{listed_in, listed_to_in, listed, listed_to}
use Rattle.dispatcher.proofs.dispatch.list_waiting.Given as goal

abbrev pub invariant-loop-i : goal.invariant-loop-i
invariant-loop-i l = (l.k ≤ l.i) × (length l.out ≡ length l.initial.out) × (listed_to_in (thread_count l.w - l.i) l.w (l.i + 1) l.k ≡ listed_to l.w) × (listed_in (thread_count l.w - l.i) l.w l.out (l.i + 1) l.k ≡ listed l.w l.initial.out)
