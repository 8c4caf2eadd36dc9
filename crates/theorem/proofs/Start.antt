-- An accepted start, over the words, whatever they held.
use Prim.Native.Nat.{ℕ}
use mathlib.Core.List.{List}
use mathlib.Core.Path.{◌≡◌}
use lib.ListN.{length}
use Rattle.model.specs.Answer.{Done}
use Rattle.model.specs.Start.{Start, by_open, first_call, Accepted, begun}
use Rattle.calls.specs.Called.{called}
use Rattle.calls.specs.Run.{answered, left}
use Rattle.agreement.specs.Agree.{Agree}
use Rattle.agreement_threads.proofs.Open.{opens, opens-done}

pub agree-begun : (w : List ℕ) (start : Start) → Accepted (length w) start → Agree (left w (first_call (length w) start)) (begun start)
unfolding called
agree-begun w (by_open p t o d) e = opens w p t o d e

pub first_done : (w : List ℕ) (start : Start) → Accepted (length w) start → answered w (first_call (length w) start) ≡ Done
unfolding called
first_done w (by_open p t o d) e = opens-done w p t o d e
