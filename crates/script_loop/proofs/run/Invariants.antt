use Rattle.script_bytes.specs.Bytes.{Within}
use Rattle.script_loop.proofs.run.Given as goal

abbrev pub invariant-loop : goal.invariant-loop
invariant-loop g l = Within l.at l.line l.text
