use Rattle.std.proofs.Common.{◌≡◌, ◌+◌, ◌-◌}
use Rattle.threads.specs.Thread.{thread_count}
use Rattle.advancing.specs.Advance.{expired_in, expired_all}
use Rattle.advancing.proofs.expire_all.Given as goal

abbrev pub invariant-loop-i : goal.invariant-loop-i
invariant-loop-i l = expired_in (thread_count l.initial.w - l.i) l.w (l.i + 1) l.time ≡ expired_all l.initial.w l.time
