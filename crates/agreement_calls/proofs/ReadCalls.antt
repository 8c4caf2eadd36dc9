-- Every read, on words that agree with the state: the log's answer.
use Prim.Native.Nat.{ℕ}
use mathlib.Core.List.{List}
use mathlib.Core.Bool.{true}
use mathlib.Core.Path.{◌≡◌, ap, ◌∙◌}
use Rattle.form.specs.Form.{in_form}
use Rattle.calls.specs.Called.{called}
use Rattle.calls.specs.Run.{answered, told_as}
use Rattle.calls.specs.Guard.{Kind, Code, readable}
use Rattle.calls.specs.Guard as kind
use Rattle.model.specs.State.{State}
use Rattle.model.specs.Answer.{Answer}
use Rattle.model.specs.Call.{Read}
use Rattle.model.specs.Call as call
use Rattle.model.specs.Step.{step}
use Rattle.model.specs.Valid.{Valid}
use Rattle.agreement.specs.Agree.{Agree}
use Rattle.agreement_threads.proofs.Yield.{current-read}
use Rattle.agreement_threads.proofs.Views.{waited-object-read}
use Rattle.agreement_objects.proofs.Mutexes.{agree-mutex-owner, agree-mutex-waiters}
use Rattle.agreement_objects.proofs.Events.{agree-event-state, agree-event-states}
use Rattle.agreement_release.proofs.Events.{require-event-release}
use Rattle.agreement_release.proofs.Timers.{require-timer-release}
use Rattle.agreement_timers.proofs.TimerReads.{agree-timer, agree-timers, agree-timer-initializations, agree-pending}
use Rattle.agreement_timers.proofs.Overlaps.{agree-read-overlap, agree-metadata-overlap}
use Rattle.agreement_dpc.proofs.DpcReads.{read-dpc, read-dpcs, read-active, read_next, read-policy, read-counters, read-initializations, read-queued}
use Rattle.agreement_calls.proofs.Guards.{readable-is}
use Rattle.agreement_calls.proofs.ThreadReads.{read-thread, read-threads}
use Rattle.agreement_calls.proofs.ImageReads.{read-timer-image, read-dpc-image}

module _ (w : List ℕ) (s : State) (a : Agree w s) (v : Valid s) (f : in_form w ≡ true) where
  abbrev answer_to : Read → Answer
  answer_to r = (step (call.Reads r) s).answer

  told : (k : Kind) (r : Read) (x : Code k) → told_as w k x ≡ answer_to r → told_as w k (readable w k x) ≡ answer_to r
  told k r x e = ap (told_as w k) (readable-is w f k x) ∙ e

  pub reads : (r : Read) → answered w (call.Reads r) ≡ answer_to r
  unfolding called
  reads call.Current = told kind.plain call.Current _ (current-read w s a)
  reads (call.Thread id) = told kind.threads (call.Thread id) _ (read-thread w s a id)
  reads (call.Threads position) = told kind.threads (call.Threads position) _ (read-threads w s a position)
  reads (call.WaitedObject id position) = told kind.places (call.WaitedObject id position) _ (waited-object-read w s a id position)
  reads (call.MutexOwner key) = told kind.plain (call.MutexOwner key) _ (agree-mutex-owner w s a v key)
  reads (call.MutexWaiters key) = told kind.plain (call.MutexWaiters key) _ (agree-mutex-waiters w s a v key)
  reads (call.EventState key) = told kind.plain (call.EventState key) _ (agree-event-state w s a key)
  reads (call.EventStates position) = told kind.plain (call.EventStates position) _ (agree-event-states w s a position)
  reads (call.RequireEventRelease base size layout) = told kind.plain (call.RequireEventRelease base size layout) _ (require-event-release w s a v base size layout)
  reads (call.TimerAt address) = told kind.timers (call.TimerAt address) _ (agree-timer w s _ _ a address)
  reads (call.DpcAt address) = told kind.dpcs (call.DpcAt address) _ (read-dpc w s a address)
  reads (call.Timers position) = told kind.timers (call.Timers position) _ (agree-timers w s _ _ a position)
  reads (call.Dpcs position) = told kind.dpcs (call.Dpcs position) _ (read-dpcs w s a position)
  reads (call.TimerImage address n) = read-timer-image w s a f address n
  reads (call.DpcImage address n) = read-dpc-image w s a f address n
  reads call.TimerInitializations = told kind.plain call.TimerInitializations _ (agree-timer-initializations w s _ _ a)
  reads call.DpcInitializations = told kind.plain call.DpcInitializations _ (read-initializations w s a)
  reads (call.TimerReadOverlap address size) = told kind.plain (call.TimerReadOverlap address size) _ (agree-read-overlap w s _ _ a address size)
  reads (call.TimerMetadataOverlap address size) = told kind.plain (call.TimerMetadataOverlap address size) _ (agree-metadata-overlap w s _ _ a address size)
  reads call.PendingTimerDpc = told kind.timers call.PendingTimerDpc _ (agree-pending w s _ _ a)
  reads (call.RequireTimerRelease address size) = told kind.plain (call.RequireTimerRelease address size) _ (require-timer-release w s a v address size)
  reads call.DpcPolicy = told kind.policies call.DpcPolicy _ (read-policy w s a)
  reads call.DpcCounters = told kind.counts call.DpcCounters _ (read-counters w s a)
  reads (call.QueuedDpcs position) = told kind.plain (call.QueuedDpcs position) _ (read-queued w s a position)
  reads call.ActiveDpc = told kind.dpcs call.ActiveDpc _ (read-active w s a)
  reads call.NextDpc = told kind.dpcs call.NextDpc _ (read_next w s a)
