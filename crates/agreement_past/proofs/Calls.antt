-- Every call leaves the words that the limits do not need; an `open` those that its own limits do not need (`opened-kept` in `Threads`).
use Prim.Native.Nat.{ℕ, ◌+◌}
use mathlib.Core.List.{List}
use mathlib.Core.Bool.{Bool, true, false, cond}
use mathlib.Core.Option.{none, some}
use mathlib.Core.Path.{refl}
use native.Mathlib.Omega.{arith}
use lib.ListN.{length}
use Rattle.words.specs.Layout as at
use Rattle.answers.specs.declared.Answer.TheVariants as answer
use Rattle.dispatcher.specs.Dispatch.{told}
use Rattle.dispatcher.specs.Dispatched.{dispatched}
use Rattle.dpc_work.specs.Work.{Started, start_outcome}
use Rattle.dpc_work.specs.WorkAnswer as start
use Rattle.event_release.specs.Release.{release_refusal, events_retired}
use Rattle.form.specs.Form.{in_form}
use Rattle.calls.specs.Guard.{guarded_dispatch, guarded_start}
use Rattle.calls.specs.Called.{called}
use Rattle.calls.specs.Run.{left}
use Rattle.model.specs.Reads.{blank}
use Rattle.model.specs.State.{State, Object}
use Rattle.model.specs.Valid.{Valid}
use Rattle.model.specs.Call.{Call}
use Rattle.model.specs.Call as call
use Rattle.agreement_chains.specs.Chains.{Same}
use Rattle.agreement_tables.specs.Tables as tables
use Rattle.agreement_tables.proofs.Retired.{retired-outside}
use Rattle.agreement.specs.Row.{Row}
use Rattle.agreement.specs.Records.{object_row}
use Rattle.agreement.specs.Agree.{Agree, objects_from}
use Rattle.agreement.proofs.Headers.{objects-few}
use Rattle.agreement.proofs.Lookups.{base-is}
use Rattle.agreement_release.proofs.Events.{objects-local}
use Rattle.agreement_past.specs.Past.{Beyond, NoOpen}
use Rattle.agreement_past.proofs.Kept.{unless-kept, guarded-kept}
use Rattle.agreement_past.proofs.Objects as objects
use Rattle.agreement_past.proofs.Threads as threads
use Rattle.agreement_past.proofs.Running as running
use Rattle.agreement_past.proofs.Work as work
use Rattle.agreement_past.proofs.Arming as arming
use Rattle.agreement_past.proofs.Waiting as waiting
use Rattle.agreement_past.proofs.Signals as signals
use Rattle.agreement_past.proofs.Expiry as expiry
use Rattle.agreement_past.proofs.Retired as retired

module _ (w : List ℕ) (s : State) (a : Agree w s) (v : Valid s) where
  abbrev R : ℕ → Type 0
  R = Beyond s.limits

  -- retire_event_backing
  retired-kept : (base size span : ℕ) → Same (Beyond s.limits) w (events_retired w base size span).words
  unfolding events_retired
  retired-kept base size span = unless-kept R w (release_refusal w base size span) _
      (λ e. retired-outside tables.Whole (λ v place (x : Object). Row v place (object_row x)) objects-local (λ (x : Object). true) base (base + size) (objects_from s.limits)
      (omega (arith, a.shape.sizes.limits.threads)) (omega arith) w s.dispatcher.objects (base-is w s _ _ a) (a.numbers at.objects (length s.dispatcher.objects) refl)
      (objects-few w s _ _ a) (omega (arith, a.enough, a.shape.sizes.objects_fit)) R (λ r. omega arith) (λ p h l r. omega (arith, a.shape.sizes.objects_fit)))

  dispatch-kept : (out : List ℕ) → Same (Beyond s.limits) w (guarded_dispatch w out).words
  unfolding guarded_dispatch
  dispatch-kept out = go (in_form w)
    where
      go : (b : Bool) → Same (Beyond s.limits) w (cond b (dispatched w out) (told (answer.Refused 27) w out)).words
      go true j r = running.dispatched-kept w s a v out j r
      go false j r = refl

  start-kept : (o : Started) → Same (Beyond s.limits) w o.words → Same (Beyond s.limits) w (guarded_start w o).words
  unfolding guarded_start
  start-kept o k = go (in_form w)
    where
      go : (b : Bool) → Same (Beyond s.limits) w (cond b o (start_outcome (start.Refused 27) w)).words
      go true j r = k j r
      go false j r = refl

  pub keeps-past : (c : Call) → NoOpen c → Same (Beyond s.limits) w (left w c)
  unfolding called
  keeps-past (call.Open words p t o d) h = absurd (h words p t o d refl)
  keeps-past (call.AdvanceTo t) h = guarded-kept R w _ (expiry.advanced-kept w s a v t)
  keeps-past (call.RetireTimerBacking address size) h = guarded-kept R w _ (retired.timers-retired-kept w s a v address size)
  keeps-past (call.CreateThread p) h = guarded-kept R w _ (threads.created-kept w s a v p)
  keeps-past (call.Priority id p) h = guarded-kept R w _ (running.prioritized-kept w s a v id p)
  keeps-past (call.InitializeMutex key) h = guarded-kept R w _ (objects.mutex-kept w s a v key)
  keeps-past (call.InitializeEvent key manual signaled) h = guarded-kept R w _ (objects.event-kept w s a v key manual signaled)
  keeps-past (call.AdoptMutex key none) h = guarded-kept R w _ (objects.adopted-kept w s a v key false 0)
  keeps-past (call.AdoptMutex key (some owner)) h = guarded-kept R w _ (objects.adopted-kept w s a v key true owner)
  keeps-past (call.ReleaseMutex key) h = guarded-kept R w _ (signals.released-kept w s a v key)
  keeps-past (call.SetEvent key) h = guarded-kept R w _ (signals.set-event-kept w s a v key)
  keeps-past (call.ResetEvent key) h = guarded-kept R w _ (arming.reset-kept w s a key)
  keeps-past (call.RetireEventBacking base size layout) h = guarded-kept R w _ (retired-kept base size layout)
  keeps-past (call.Wait l all none irql) h = guarded-kept R w _ (waiting.waited-kept w s a v l all false 0 irql)
  keeps-past (call.Wait l all (some deadline) irql) h = guarded-kept R w _ (waiting.waited-kept w s a v l all true deadline irql)
  keeps-past (call.DelayUntil deadline irql) h = guarded-kept R w _ (waiting.delayed-kept w s a v deadline irql)
  keeps-past call.YieldCurrent h = guarded-kept R w _ (running.yielded-kept w s a v)
  keeps-past (call.Terminate status) h = guarded-kept R w _ (signals.terminated-kept w s a v status)
  keeps-past (call.Dispatch n) h = dispatch-kept (blank n)
  keeps-past (call.InitializeTimer address arch b manual) h = guarded-kept R w _ (objects.timer-kept w s a v address arch b manual)
  keeps-past (call.InitializeDpc address arch b routine context) h = guarded-kept R w _ (objects.dpc-kept w s a v address arch b routine context)
  keeps-past (call.SetTimer address due absolute period dpc) h = guarded-kept R w _ (arming.set-kept w s a address due absolute period dpc)
  keeps-past (call.SetTimerSigned address due period dpc) h = guarded-kept R w _ (arming.set-signed-kept w s a address due period dpc)
  keeps-past (call.CancelTimer address) h = guarded-kept R w _ (arming.cancelled-kept w s a address)
  keeps-past (call.ConfigureDpcDispatch first second) h = guarded-kept R w _ (work.configured-kept w s a first second)
  keeps-past (call.InsertQueueDpc address first second) h = guarded-kept R w _ (work.inserted-kept w s a address first second)
  keeps-past (call.RemoveQueueDpc address) h = guarded-kept R w _ (work.removed-kept w s a address)
  keeps-past (call.StartDpc address) h = start-kept _ (work.started-kept w s a address)
  keeps-past (call.ReturnedDpc address n) h = guarded-kept R w _ (work.returned-kept w s a address n)
  keeps-past (call.RestoredDpc address n) h = guarded-kept R w _ (work.restored-kept w s a address n)
  keeps-past (call.Reads r) h = λ j r. refl
