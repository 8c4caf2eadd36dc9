use mathlib.Core.Path.{◌≡◌}
use Prim.Native.Nat.{◌-◌}
use Rattle.form_chains.specs.Chain.{sequences_in, sequences_rise}
use Rattle.form_chains.proofs.sequences_rise.Given as goal

abbrev pub invariant-loop : goal.invariant-loop
invariant-loop l = sequences_in (4096 - l.counter) l.w l.at ≡ sequences_rise l.w
