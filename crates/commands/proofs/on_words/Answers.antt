use mir.Syntax.{w32}
use mir.Val.{SFits}
use mir.Facts.{to_z-of_z}
use mathlib.Core.Path.{refl, ◌∙◌}
use Rattle.std.proofs.Common.{rules}
use Rattle.answers.proofs.Converted.{told-is, told-outcome, told-or-none}
use Rattle.answers.specs.declared.Answer.TheVariants.{Flag}
use Rattle.answers.specs.Errors.{thread_or_none}
use Rattle.dpc_reads.specs.Reads.{count_or_none}
use Rattle.commands.proofs.CommandLaws.{told-read, handed-on, no_words}
use Rattle.commands.specs.Commands.{asked, on_words, waited}
use Rattle.commands.proofs.on_words.Goals as goal

pub returns-in-Event : goal.returns-in-Event
unfolding asked on_words
returns-in-Event c = simp c.in-Event.is (told-outcome _ _ _ _ _ c.into.ensures (λ x b e. e) c.initialize_event.ensures)

pub returns-in-Create : goal.returns-in-Create
unfolding asked on_words
returns-in-Create c = simp c.in-Create.is (told-outcome _ _ _ _ _ c.into-in-Create.ensures (λ x b e. e) c.create_thread.ensures)

pub returns-in-Wait : goal.returns-in-Wait
unfolding asked waited
returns-in-Wait c = simp c.in-Wait.is c.wait.ensures

pub returns-in-Set : goal.returns-in-Set
unfolding asked on_words
returns-in-Set c = simp c.in-Set.is (told-outcome _ _ _ _ _ c.into-in-Set.ensures (λ x b e. e) c.set_event.ensures)

pub returns-in-Yield : goal.returns-in-Yield
unfolding asked on_words
returns-in-Yield c = simp c.in-Yield.is (told-outcome _ _ _ _ _ c.into-in-Yield.ensures (λ x b e. e) c.yield_current.ensures)

pub returns-in-Current : goal.returns-in-Current
unfolding asked on_words
returns-in-Current c = simp c.in-Current.is (cc (c.bare.ensures, told-is _ _ _ c.into-in-Current.ensures (told-or-none thread_or_none refl (λ x b e. e)) ∙ c.current.ensures))

pub returns-in-RequireEventRelease : goal.returns-in-RequireEventRelease
unfolding asked on_words
returns-in-RequireEventRelease c = simp c.in-RequireEventRelease.is (told-read _ _ _ _ _ c.into-in-RequireEventRelease.ensures (λ x b e. e) c.require_event_release.ensures)

pub returns-in-RetireEventBacking : goal.returns-in-RetireEventBacking
unfolding asked on_words
returns-in-RetireEventBacking c = simp c.in-RetireEventBacking.is (told-outcome _ _ _ _ _ c.into-in-RetireEventBacking.ensures (λ x b e. e) c.retire_event_backing.ensures)

pub returns-in-MutexOwner : goal.returns-in-MutexOwner
unfolding asked on_words
returns-in-MutexOwner c = simp c.in-MutexOwner.is (cc (c.bare-in-MutexOwner.ensures, told-is _ _ _ c.into-in-MutexOwner.ensures (told-or-none thread_or_none refl (λ x b e. e)) ∙ c.mutex_owner.ensures))

pub returns-in-AdoptMutex : goal.returns-in-AdoptMutex
unfolding asked on_words
returns-in-AdoptMutex c = simp (c.in-AdoptMutex.is, ← handed-on c.in-AdoptMutex.owner) (told-outcome _ _ _ _ _ c.into-in-AdoptMutex.ensures (λ x b e. e) c.adopt_mutex.ensures)

pub returns-in-MutexWaiters : goal.returns-in-MutexWaiters
unfolding asked on_words
returns-in-MutexWaiters c = simp c.in-MutexWaiters.is (told-read _ _ _ _ _ c.into-in-MutexWaiters.ensures (λ x b e. e) c.mutex_waiters.ensures)

pub returns-in-Priority : goal.returns-in-Priority
unfolding asked on_words
returns-in-Priority c = simp c.in-Priority.is (told-outcome _ _ _ _ _ c.into-in-Priority.ensures (λ x b e. e) c.priority.ensures)

pub returns-in-InitializeMutex : goal.returns-in-InitializeMutex
unfolding asked on_words
returns-in-InitializeMutex c = simp c.in-InitializeMutex.is (told-outcome _ _ _ _ _ c.into-in-InitializeMutex.ensures (λ x b e. e) c.initialize_mutex.ensures)

pub returns-in-DelayUntil : goal.returns-in-DelayUntil
unfolding asked on_words
returns-in-DelayUntil c = simp c.in-DelayUntil.is (told-outcome _ _ _ _ _ c.into-in-DelayUntil.ensures (λ x b e. e) c.delay_until.ensures)

pub returns-in-AdvanceTo : goal.returns-in-AdvanceTo
unfolding asked on_words
returns-in-AdvanceTo c = simp c.in-AdvanceTo.is (told-outcome _ _ _ _ _ c.into-in-AdvanceTo.ensures (λ x b e. e) c.advance_to.ensures)

pub returns-in-ReleaseMutex : goal.returns-in-ReleaseMutex
unfolding asked on_words
returns-in-ReleaseMutex c = simp c.in-ReleaseMutex.is (told-outcome _ _ _ _ _ c.into-in-ReleaseMutex.ensures (λ x b e. e) c.release_mutex.ensures)

pub returns-in-ResetEvent : goal.returns-in-ResetEvent
unfolding asked on_words
returns-in-ResetEvent c = simp c.in-ResetEvent.is (told-outcome _ _ _ _ _ c.into-in-ResetEvent.ensures (λ x b e. e) c.reset_event.ensures)

pub returns-in-Terminate : goal.returns-in-Terminate
unfolding asked on_words
returns-in-Terminate c = simp c.in-Terminate.is (told-outcome _ _ _ _ _ c.into-in-Terminate.ensures (λ x b e. e) c.terminate.ensures)

pub returns-in-TimerInitializations : goal.returns-in-TimerInitializations
unfolding asked on_words
returns-in-TimerInitializations c = simp c.in-TimerInitializations.is (told-read _ _ _ _ _ c.into-in-TimerInitializations.ensures (λ x b e. e) c.timer_initializations.ensures)

pub returns-in-DpcInitializations : goal.returns-in-DpcInitializations
unfolding asked on_words
returns-in-DpcInitializations c = simp c.in-DpcInitializations.is (told-read _ _ _ _ _ c.into-in-DpcInitializations.ensures (λ x b e. e) c.dpc_initializations.ensures)

pub returns-in-TimerReadOverlap : goal.returns-in-TimerReadOverlap
unfolding asked on_words
returns-in-TimerReadOverlap c = simp c.in-TimerReadOverlap.is (told-read _ _ _ _ _ c.into-in-TimerReadOverlap.ensures (λ x b e. e) c.timer_read_overlap.ensures)

pub returns-in-TimerMetadataOverlap : goal.returns-in-TimerMetadataOverlap
unfolding asked on_words
returns-in-TimerMetadataOverlap c = simp c.in-TimerMetadataOverlap.is (told-read _ _ _ _ _ c.into-in-TimerMetadataOverlap.ensures (λ x b e. e) c.timer_metadata_overlap.ensures)

pub returns-in-InitializeTimer : goal.returns-in-InitializeTimer
unfolding asked on_words
returns-in-InitializeTimer c = simp c.in-InitializeTimer.is (told-outcome _ _ _ _ _ c.into-in-InitializeTimer.ensures (λ x b e. e) c.initialize_timer.ensures)

pub returns-in-InitializeDpc : goal.returns-in-InitializeDpc
unfolding asked on_words
returns-in-InitializeDpc c = simp c.in-InitializeDpc.is (told-outcome _ _ _ _ _ c.into-in-InitializeDpc.ensures (λ x b e. e) c.initialize_dpc.ensures)

pub returns-in-SetTimer : goal.returns-in-SetTimer
unfolding asked on_words
returns-in-SetTimer c = let f : SFits w32 c.in-SetTimer.period = search rules in simp c.in-SetTimer.is (told-outcome Flag _ _ _ _ c.into-in-SetTimer.ensures (λ x b e. e) (simp (to_z-of_z f) at c.set_timer.ensures))

pub returns-in-CancelTimer : goal.returns-in-CancelTimer
unfolding asked on_words
returns-in-CancelTimer c = simp c.in-CancelTimer.is (told-outcome _ _ _ _ _ c.into-in-CancelTimer.ensures (λ x b e. e) c.cancel_timer.ensures)

pub returns-in-RequireTimerRelease : goal.returns-in-RequireTimerRelease
unfolding asked on_words
returns-in-RequireTimerRelease c = simp c.in-RequireTimerRelease.is (told-read _ _ _ _ _ c.into-in-RequireTimerRelease.ensures (λ x b e. e) c.require_timer_release.ensures)

pub returns-in-RetireTimerBacking : goal.returns-in-RetireTimerBacking
unfolding asked on_words
returns-in-RetireTimerBacking c = simp c.in-RetireTimerBacking.is (told-outcome _ _ _ _ _ c.into-in-RetireTimerBacking.ensures (λ x b e. e) c.retire_timer_backing.ensures)

pub returns-in-ConfigureDpcDispatch : goal.returns-in-ConfigureDpcDispatch
unfolding asked on_words
returns-in-ConfigureDpcDispatch c = simp c.in-ConfigureDpcDispatch.is (told-outcome _ _ _ _ _ c.into-in-ConfigureDpcDispatch.ensures (λ x b e. e) c.configure_dpc_dispatch.ensures)

pub returns-in-QueuedDpcs : goal.returns-in-QueuedDpcs
unfolding asked on_words
returns-in-QueuedDpcs c = simp c.in-QueuedDpcs.is (told-read _ _ _ _ _ c.into-in-QueuedDpcs.ensures (told-or-none count_or_none refl (λ x b e. e)) c.queued_dpcs.ensures)

pub returns-in-InsertQueueDpc : goal.returns-in-InsertQueueDpc
unfolding asked on_words
returns-in-InsertQueueDpc c = simp c.in-InsertQueueDpc.is (told-outcome _ _ _ _ _ c.into-in-InsertQueueDpc.ensures (λ x b e. e) c.insert_queue_dpc.ensures)

pub returns-in-RemoveQueueDpc : goal.returns-in-RemoveQueueDpc
unfolding asked on_words
returns-in-RemoveQueueDpc c = simp c.in-RemoveQueueDpc.is (told-outcome _ _ _ _ _ c.into-in-RemoveQueueDpc.ensures (λ x b e. e) c.remove_queue_dpc.ensures)

pub returns-in-StartDpc : goal.returns-in-StartDpc
unfolding asked on_words
returns-in-StartDpc c = simp (c.in-StartDpc.is, ← c.start_dpc.ensures) (cc c.sequence_of.ensures)

pub returns-in-ReturnedDpc : goal.returns-in-ReturnedDpc
unfolding asked on_words
returns-in-ReturnedDpc c = simp c.in-ReturnedDpc.is (told-outcome _ _ _ _ _ c.into-in-ReturnedDpc.ensures (λ x b e. e) c.returned_dpc.ensures)

pub returns-in-RestoredDpc : goal.returns-in-RestoredDpc
unfolding asked on_words
returns-in-RestoredDpc c = simp c.in-RestoredDpc.is (told-outcome _ _ _ _ _ c.into-in-RestoredDpc.ensures (λ x b e. e) c.restored_dpc.ensures)

pub returns-in_default : goal.returns-in_default
returns-in_default c = no_words _ _ c.args.c (record {
  event = c.in_default.not-Event;
  create = c.in_default.not-Create;
  waits = c.in_default.not-Wait;
  set_event = c.in_default.not-Set;
  yields = c.in_default.not-Yield;
  current = c.in_default.not-Current;
  require_event_release = c.in_default.not-RequireEventRelease;
  retire_event_backing = c.in_default.not-RetireEventBacking;
  mutex_owner = c.in_default.not-MutexOwner;
  adopt_mutex = c.in_default.not-AdoptMutex;
  mutex_waiters = c.in_default.not-MutexWaiters;
  priority = c.in_default.not-Priority;
  initialize_mutex = c.in_default.not-InitializeMutex;
  delay_until = c.in_default.not-DelayUntil;
  advance_to = c.in_default.not-AdvanceTo;
  release_mutex = c.in_default.not-ReleaseMutex;
  reset_event = c.in_default.not-ResetEvent;
  terminate = c.in_default.not-Terminate;
  timer_initializations = c.in_default.not-TimerInitializations;
  dpc_initializations = c.in_default.not-DpcInitializations;
  timer_read_overlap = c.in_default.not-TimerReadOverlap;
  timer_metadata_overlap = c.in_default.not-TimerMetadataOverlap;
  initialize_timer = c.in_default.not-InitializeTimer;
  initialize_dpc = c.in_default.not-InitializeDpc;
  set_timer = c.in_default.not-SetTimer;
  cancel_timer = c.in_default.not-CancelTimer;
  require_timer_release = c.in_default.not-RequireTimerRelease;
  retire_timer_backing = c.in_default.not-RetireTimerBacking;
  configure_dpc_dispatch = c.in_default.not-ConfigureDpcDispatch;
  queued_dpcs = c.in_default.not-QueuedDpcs;
  insert_queue_dpc = c.in_default.not-InsertQueueDpc;
  remove_queue_dpc = c.in_default.not-RemoveQueueDpc;
  start_dpc = c.in_default.not-StartDpc;
  returned_dpc = c.in_default.not-ReturnedDpc;
  restored_dpc = c.in_default.not-RestoredDpc;
})
