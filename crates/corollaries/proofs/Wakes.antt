-- After any list of calls, a `set_event`, a `release_mutex`, a `terminate` or an `advance_to` that is not refused: who is woken has taken what it waited for, nothing else has changed, and what
-- the call makes available goes to the waiter with the least wait sequence whom it satisfies, all by what the reads answer before the call and after it.
use Prim.Native.Nat.{ℕ}
use mathlib.Core.List.{List}
use mathlib.Core.Bool.{false}
use mathlib.Core.Path.{◌≡◌, sym, fun_ext, subst, subst₂}
use lib.ListN.{length}
use Rattle.calls.specs.Run.{answered, left, Lent}
use Rattle.model.specs.Fits.{Fits}
use Rattle.model.specs.Call.{Call}
use Rattle.model.specs.Call as call
use Rattle.model.specs.Start.{Start, Accepted}
use Rattle.model.specs.Wakes as calls
use Rattle.model.specs.Wakes.{Readings, RunsPass, WakePass}
use Rattle.model.proofs.PassCalls as log
use Rattle.theorem.specs.History.{Proper}
use Rattle.theorem.specs.Theorem.{logged, end}
use Rattle.corollaries.specs.Refusals.{is_refused}
use Rattle.corollaries.specs.Wakes.{readings_on}
use Rattle.corollaries.proofs.Next.{next, next-but-one, valid}
use Rattle.corollaries.proofs.Refusals.{passed-by}

-- none of them is told of lent words
lends_none : (m : ℕ) (c : Call) → RunsPass c → Lent m c
lends_none m c (calls.set_event key e) = subst (Lent m) (sym e) tt
lends_none m c (calls.release-mutex key e) = subst (Lent m) (sym e) tt
lends_none m c (calls.terminate status e) = subst (Lent m) (sym e) tt
lends_none m c (calls.advance-to time e) = subst (Lent m) (sym e) tt

module _ (w : List ℕ) (start : Start) (calls : List Call) (accepted : Accepted (length w) start) (proper : Proper (length w) calls) where
  pub wake-pass : (c : Call) → RunsPass c → Fits c → is_refused (answered (end w start calls) c) ≡ false → WakePass (readings_on (end w start calls)) (readings_on (left (end w start calls) c)) c
  wake-pass c runs fits e =
      let lent = lends_none (length w) c runs in
      subst₂ (λ (a b : Readings). WakePass a b c)
      (fun_ext (λ (r : call.Read). sym (next w start calls accepted proper (call.Reads r) tt tt).answers))
      (fun_ext (λ (r : call.Read). sym (next-but-one w start calls accepted proper c (call.Reads r) fits lent tt tt).answers))
      (log.wake-pass (logged w start calls) (valid w start calls accepted proper) c runs (passed-by w start calls accepted proper c fits lent e))
