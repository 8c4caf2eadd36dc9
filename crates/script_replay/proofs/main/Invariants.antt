use Rattle.script_bytes.specs.Bytes.{Within}
use Rattle.script_replay.proofs.main.Given as goal

abbrev pub invariant-loop : goal.invariant-loop
invariant-loop l = Within l.at l.line l.text
