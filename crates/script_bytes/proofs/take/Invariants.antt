use Rattle.std.proofs.Common.{◌≡◌, length, drop}
use Rattle.script_bytes.specs.Bytes.{Within, machine, bytes_taken}
use Rattle.script_bytes.proofs.take.Given as goal

abbrev pub invariant-loop-b : goal.invariant-loop-b
invariant-loop-b l = record {
  within : Within l.at l.line l.text;
  taken : bytes_taken (machine l.at l.w l.waiting l.list l.line l.text) (drop l.b-index l.part) ≡ bytes_taken (machine l.initial.at l.initial.w l.initial.waiting l.initial.list l.initial.line l.initial.text) l.part;
}
