use Rattle.script_bytes.specs.Bytes.{Within}
use Rattle.script_replay.proofs.take.Given as goal

abbrev pub invariant-loop-b : goal.invariant-loop-b
invariant-loop-b g l = Within l.at l.line l.text
