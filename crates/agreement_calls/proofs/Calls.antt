-- Every call, on words that agree with a valid state: the log's answer, and words that agree with the log's state after it.
use Prim.Native.Nat.{ℕ}
use mathlib.Core.List.{List}
use mathlib.Core.Bool.{true}
use mathlib.Core.Option.{none, some}
use mathlib.Core.Path.{◌≡◌, sym, subst}
use lib.ListN.{length, length-replicate}
use Rattle.answers.specs.Outcome as code
use Rattle.dispatcher.specs.Dispatch.{Dispatched}
use Rattle.dispatcher.specs.Dispatched.{dispatched}
use Rattle.dpc_work.specs.Work.{Started}
use Rattle.form.specs.Form.{in_form}
use Rattle.call_answers.specs.Told.{told_with, told_work}
use Rattle.calls.specs.Guard.{guarded, guarded_dispatch, guarded_start}
use Rattle.calls.specs.Called.{called}
use Rattle.calls.specs.Run.{answered, left, Lent}
use Rattle.model.specs.Reads.{blank}
use Rattle.model.specs.State.{State}
use Rattle.model.specs.Answer.{Outcome}
use Rattle.model.specs.Call.{Call}
use Rattle.model.specs.Call as call
use Rattle.model.specs.Step.{step}
use Rattle.model.specs.Valid.{Valid}
use Rattle.model.specs.Fits.{Fits, Numbers}
use Rattle.model.proofs.StepLaws.{read-unchanged}
use Rattle.agreement.specs.Agree.{Agree}
use Rattle.agreement.specs.Matches.{Matches, Plainly}
use Rattle.agreement_form.proofs.Passes.{passes}
use Rattle.agreement_threads.proofs.Open.{agree-open}
use Rattle.agreement_threads.proofs.Create.{agree-create}
use Rattle.agreement_threads.proofs.Priority.{agree-priority}
use Rattle.agreement_threads.proofs.Yield.{agree-yield-current}
use Rattle.agreement_threads.proofs.Dispatch.{agree-dispatch}
use Rattle.agreement_objects.proofs.Mutexes.{agree-initialize-mutex, agree-adopt-mutex, agree-adopt-free}
use Rattle.agreement_objects.proofs.Events.{agree-initialize-event}
use Rattle.agreement_objects.proofs.Timers.{agree-initialize-timer}
use Rattle.agreement_objects.proofs.Dpcs.{agree-initialize-dpc}
use Rattle.agreement_wakes.proofs.Events.{agree-set-event, agree-reset-event}
use Rattle.agreement_wakes.proofs.Mutexes.{agree-release-mutex}
use Rattle.agreement_wakes.proofs.Terminate.{agree-terminate}
use Rattle.agreement_waits.proofs.Waited.{agree-wait, agree-wait-until}
use Rattle.agreement_waits.proofs.Delay.{agree-delay}
use Rattle.agreement_advance.proofs.Advance.{agree-advance}
use Rattle.agreement_release.proofs.Events.{agree-retire-events}
use Rattle.agreement_release.proofs.Timers.{agree-retire-timers}
use Rattle.agreement_timers.proofs.Sets.{agree-set-timer}
use Rattle.agreement_timers.proofs.Signed.{agree-set-timer-signed}
use Rattle.agreement_timers.proofs.Cancels.{agree-cancel-timer}
use Rattle.agreement_dpc.proofs.Configure.{agree-configure}
use Rattle.agreement_dpc.proofs.Insert.{agree-insert}
use Rattle.agreement_dpc.proofs.Remove.{agree-remove}
use Rattle.agreement_dpc.proofs.Start.{agree-start}
use Rattle.agreement_dpc.proofs.Return.{agree-returned, agree-restored}
use Rattle.agreement_calls.proofs.Guards.{guarded-is, dispatch-is, start_is}
use Rattle.agreement_calls.proofs.ReadCalls.{reads}

module _ (w : List ℕ) (s : State) (a : Agree w s) (v : Valid s) (n : Numbers s) where
  -- the words are in form, so no call is refused for theirs
  pub in-form : in_form w ≡ true
  in-form = passes w s a v n

  plain : (o : code.Outcome) (m : Outcome) → Plainly o m → Plainly (guarded w o) m
  plain o m h = subst (λ (x : code.Outcome). Plainly x m) (sym (guarded-is w in-form o)) h

  starts : (o : Started) (m : Outcome) → Matches (told_work o.answer) o.words m → Matches (told_work (guarded_start w o).answer) (guarded_start w o).words m
  starts o m h = subst (λ (x : Started). Matches (told_work x.answer) x.words m) (sym (start_is w in-form o)) h

  -- on an output of the length that the call says
  dispatches : (k : ℕ) → Matches (told_with (guarded_dispatch w (blank k)).output (guarded_dispatch w (blank k)).answer) (guarded_dispatch w (blank k)).words (step (call.Dispatch k) s)
  dispatches k =
      subst (λ (x : Dispatched). Matches (told_with x.output x.answer) x.words (step (call.Dispatch k) s)) (sym (dispatch-is w in-form (blank k)))
      (subst (λ (m : ℕ). Matches (told_with (dispatched w (blank k)).output (dispatched w (blank k)).answer) (dispatched w (blank k)).words (step (call.Dispatch m) s)) (length-replicate k 0)
      (agree-dispatch w s a v (blank k)))

  pub matches : (c : Call) → Fits c → Lent (length w) c → Matches (answered w c) (left w c) (step c s)
  unfolding called
  matches (call.Open words p t o d) fits lent =
      subst (λ (m : ℕ). Matches (answered w (call.Open words p t o d)) (left w (call.Open words p t o d)) (step (call.Open m p t o d) s)) (sym lent) (agree-open w s a p t o d)
  matches (call.CreateThread p) fits lent = plain _ _ (agree-create w s a v p)
  matches (call.Priority id p) fits lent = plain _ _ (agree-priority w s a v id p)
  matches (call.InitializeMutex key) fits lent = plain _ _ (agree-initialize-mutex w s a v key)
  matches (call.InitializeEvent key manual signaled) fits lent = plain _ _ (agree-initialize-event w s a v key manual signaled)
  matches (call.AdoptMutex key none) fits lent = plain _ _ (agree-adopt-free w s a v key 0)
  matches (call.AdoptMutex key (some id)) fits lent = plain _ _ (agree-adopt-mutex w s a v key id)
  matches (call.ReleaseMutex key) fits lent = plain _ _ (agree-release-mutex w s a v key)
  matches (call.SetEvent key) fits lent = plain _ _ (agree-set-event w s a v key)
  matches (call.ResetEvent key) fits lent = plain _ _ (agree-reset-event w s a key)
  matches (call.RetireEventBacking base size layout) fits lent = plain _ _ (agree-retire-events w s a v base size layout)
  matches (call.Wait l all none irql) fits lent = plain _ _ (agree-wait w s a v l all 0 irql)
  matches (call.Wait l all (some deadline) irql) fits lent = plain _ _ (agree-wait-until w s a v l all deadline irql)
  matches (call.DelayUntil deadline irql) fits lent = plain _ _ (agree-delay w s a deadline v irql)
  matches call.YieldCurrent fits lent = plain _ _ (agree-yield-current w s a v)
  matches (call.Terminate status) fits lent = plain _ _ (agree-terminate w s a v status)
  matches (call.AdvanceTo time) fits lent = plain _ _ (agree-advance w s a v time)
  matches (call.Dispatch k) fits lent = dispatches k
  matches (call.InitializeTimer address x b manual) fits lent = plain _ _ (agree-initialize-timer w s a v address x b manual)
  matches (call.InitializeDpc address x b routine context) fits lent = plain _ _ (agree-initialize-dpc w s a v address x b routine context)
  matches (call.SetTimer address due absolute period dpc) fits lent = plain _ _ (agree-set-timer w s a v address due absolute period dpc fits.1)
  matches (call.SetTimerSigned address due period dpc) fits lent = plain _ _ (agree-set-timer-signed w s a v address due period dpc fits.1)
  matches (call.CancelTimer address) fits lent = plain _ _ (agree-cancel-timer w s a v address)
  matches (call.RetireTimerBacking address size) fits lent = plain _ _ (agree-retire-timers w s a v address size)
  matches (call.ConfigureDpcDispatch first second) fits lent = plain _ _ (agree-configure w s a first second)
  matches (call.InsertQueueDpc address first second) fits lent = plain _ _ (agree-insert w s a v address first second)
  matches (call.RemoveQueueDpc address) fits lent = plain _ _ (agree-remove w s a v address)
  matches (call.StartDpc address) fits lent = starts _ _ (agree-start w s a v address)
  matches (call.ReturnedDpc address sequence) fits lent = plain _ _ (agree-returned w s a v address sequence)
  matches (call.RestoredDpc address sequence) fits lent = plain _ _ (agree-restored w s a v address sequence)
  matches (call.Reads r) fits lent = record { answers = reads w s a v in-form r; agree = subst (λ (t : State). Agree w t) (sym (read-unchanged r s)) a }
