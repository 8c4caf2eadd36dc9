use mathlib.Core.Path.{◌≡◌}
use Prim.Native.Nat.{◌-◌}
use Rattle.form_dpc.specs.Dpc.{dpcs_in, dpcs_pass}
use Rattle.form_dpc.proofs.FormDpcLaws.{Counting}
use Rattle.form_dpc.proofs.PastLaws.{Behind}
use Rattle.form_dpc.proofs.dpc_records.dpcs_pass.Given as goal

abbrev pub invariant-loop-i : goal.invariant-loop-i
invariant-loop-i l =
    let left = l.count - l.i in
    (dpcs_in left l.w l.base l.i ≡ dpcs_pass l.w) × Counting l.w l.base l.i left l.queued 1 × Counting l.w l.base l.i left l.running 2 × Counting l.w l.base l.i left l.returning 3 × Behind l.w l.base l.i l.j
