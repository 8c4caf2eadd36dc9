use mathlib.Core.Path.{◌≡◌}
use Prim.Native.Nat.{◌+◌, ◌-◌}
use Rattle.form_chains.specs.Chain.{chain_in, chain_size}
use Rattle.form_chains.proofs.chain_size.Given as goal

abbrev pub invariant-loop-n : goal.invariant-loop-n
invariant-loop-n l = chain_in (4096 - l.n) l.w l.c l.state l.p l.before l.at (l.n + 1) ≡ chain_size l.w l.c l.state l.p
