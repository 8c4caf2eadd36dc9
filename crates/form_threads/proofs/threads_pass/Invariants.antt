use mathlib.Core.Path.{◌≡◌}
use Prim.Native.Nat.{◌-◌}
use Rattle.form_threads.specs.Thread.{threads_in, threads_pass}
use Rattle.form_threads.proofs.ThreadLaws.{Counting}
use Rattle.form_threads.proofs.threads_pass.Given as goal

abbrev pub invariant-loop-id : goal.invariant-loop-id
invariant-loop-id l =
    let left = l.end - l.id in
    (threads_in left l.w l.id ≡ threads_pass l.w) × Counting l.w l.id left l.ready 2 × Counting l.w l.id left l.waiting 3
