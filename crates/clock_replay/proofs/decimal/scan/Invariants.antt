use Rattle.std.proofs.Common.{◌≡◌, ◌≤◌, max, length, drop}
use Rattle.clock_replay.specs.Decimal.{scanned}
use Rattle.clock_replay.proofs.decimal.scan.Given as goal

abbrev pub invariant-loop-next : goal.invariant-loop-next
invariant-loop-next l = (scanned (drop l.next l.text) l.next l.value ≡ scanned (drop l.from l.text) l.from 0) × (l.next ≤ max l.from (length l.text))
