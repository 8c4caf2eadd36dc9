use Rattle.std.proofs.Common.{◌≡◌, ◌+◌, ◌-◌, length}
use Rattle.images.specs.Field.{placed, little}
use Rattle.images.proofs.field.put_number.Given as goal

abbrev pub invariant-loop-place : goal.invariant-loop-place
invariant-loop-place l = (length l.out ≡ length l.initial.out) × (placed l.place (little (l.at + l.count - l.place) l.rest) l.out ≡ placed l.at (little l.count l.n) l.initial.out)
