use Rattle.std.proofs.Common.{◌≡◌, ◌-◌, ◌≤◌, length}
use Rattle.objects.specs.Objects.{object_count}
use Rattle.expiry.specs.Due.{due_list}
use Rattle.expiry.proofs.DueLaws.{Collected}
use Rattle.expiry.proofs.due.collect.Given as goal

abbrev pub invariant-loop-i : goal.invariant-loop-i
invariant-loop-i l = (l.k ≤ l.i) × (length l.list ≡ length l.initial.list) × Collected l.w l.base l.i l.time l.list l.k (object_count l.w - l.i) (due_list l.w l.time)
