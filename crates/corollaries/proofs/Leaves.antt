-- A call that answers a refusal leaves every word as it was, be the words in form or not.
use Prim.Native.Nat.{ℕ, ◌+◌}
use mathlib.Core.List.{List}
use mathlib.Core.Bool.{Bool, true, false, cond}
use mathlib.Core.Option.{none, some}
use mathlib.Core.Path.{◌≡◌, refl, sym, ◌∙◌}
use lib.Dec.{eqb, ltb}
use lib.IntN.{ℤ}
use lib.ListN.{get_or, length}
use Rattle.answers.specs.declared.Answer as code
use Rattle.answers.specs.declared.Answer.TheVariants as answer
use Rattle.answers.specs.Outcome.{Outcome, outcome, unless, bit}
use Rattle.std.specs.Prelude.{is_some}
use Rattle.words.specs.Layout as at
use Rattle.words.specs.Word.{top_bit}
use Rattle.objects.specs.Objects.{place_of}
use Rattle.images.specs.declared.DpcWork.{DpcWork}
use Rattle.opening.specs.Open.{open_refusal, opened}
use Rattle.threading.specs.Thread as thread
use Rattle.mutexes.specs.Mutexes as mutexes
use Rattle.events.specs.Events as events
use Rattle.event_release.specs.Release as release
use Rattle.threads.specs.declared.Wait.{Wait}
use Rattle.waits.specs.Lists.{met_in}
use Rattle.waiting.specs.Wait as wait
use Rattle.advancing.specs.Advance as time
use Rattle.dispatcher.specs.TimerDue.{next_time}
use Rattle.dispatcher.specs.Dispatch as dispatch
use Rattle.dispatcher.specs.Dispatch.{Dispatched}
use Rattle.dispatcher.specs.Dispatched.{dispatched}
use Rattle.expiry_advance.specs.Advance.{expiry_refusal}
use Rattle.timers.specs.Initialize as initialize
use Rattle.arming.specs.Signed.{negative, whole, magnitude}
use Rattle.arming.specs.Arm as arm
use Rattle.timers.specs.Release as timer-release
use Rattle.dpcs.specs.Record.{number_of}
use Rattle.dpc_queue.specs.Queue.{queued}
use Rattle.dpc_work.specs.Work as dpcs
use Rattle.dpc_work.specs.Work.{Started}
use Rattle.dpc_work.specs.WorkAnswer as work
use Rattle.form.specs.Form.{in_form}
use Rattle.call_answers.specs.Told.{told, told_with, told_work}
use Rattle.calls.specs.Guard.{guarded, guarded_dispatch, guarded_start, guarded_image, image_refused}
use Rattle.calls.specs.Images.{imaged, timer_imaged, dpc_imaged}
use Rattle.calls.specs.Called.{called}
use Rattle.calls.specs.Run.{answered, left, image_told}
use Rattle.model.specs.Reads.{blank}
use Rattle.model.specs.Call.{Call}
use Rattle.model.specs.Call as call
use Rattle.model.proofs.ListLaws.{not-both}
use Rattle.corollaries.specs.Refusals.{is_refused}

module _ (w : List ℕ) where
  -- ---- what a call gives: the words as they were, where it refuses

  record Leaves (o : Outcome) : Type 0 where
    same : is_refused (told o.answer) ≡ true → o.words ≡ w

  either : (b : Bool) (x y : Outcome) → Leaves x → Leaves y → Leaves (cond b x y)
  either true x y h k = h
  either false x y h k = k

  refuses : (n : ℕ) → Leaves (outcome (answer.Refused n) w)
  refuses n = record { same = λ e. refl }

  goes : (a : code.Answer) (after : List ℕ) → is_refused (told a) ≡ false → Leaves (outcome a after)
  goes a after q = record { same = λ e. absurd (not-both (sym e ∙ q)) }

  else : (r : ℕ) (o : Outcome) → Leaves o → Leaves (unless r w o)
  else r o h = either (eqb r 0) o (outcome (answer.Refused r) w) h (refuses r)

  guard : (o : Outcome) → Leaves o → is_refused (told (guarded w o).answer) ≡ true → (guarded w o).words ≡ w
  unfolding guarded
  guard o h = (either (in_form w) o (outcome (answer.Refused 27) w) h (refuses 27)).same

  -- ---- waits and delays

  decides : (id : ℕ) (timed : Bool) (irql : ℕ) (x : Wait) → Leaves (wait.decided w id timed irql x)
  unfolding wait.decided wait.timed_out
  decides id timed irql x = either (wait.reached w timed x.deadline) _ _ (goes _ _ refl) (else (wait.block_refusal w irql) _ (goes _ _ refl))

  waits : (l : List ℕ) (all timed : Bool) (deadline irql : ℕ) → Leaves (wait.waited w l all timed deadline irql)
  unfolding wait.waited wait.granted wait.decided_list
  waits l all timed deadline irql = else (wait.wait_refusal w l) _ (either (met_in w l 0 (wait.pair_count l) (bit all)) _ _ (goes _ _ refl) (decides (get_or w at.current 0) timed irql _))

  delays : (deadline irql : ℕ) → Leaves (wait.delayed w deadline irql)
  unfolding wait.delayed
  delays deadline irql = either (ltb 1 irql) _ _ (refuses 9) (either (eqb (get_or w at.current 0) 0) _ _ (refuses 3) (decides (get_or w at.current 0) true irql _))

  -- ---- timers

  sets : (address due : ℕ) (absolute : Bool) (period : ℤ) (dpc : ℕ) → Leaves (arm.timer_set w address due absolute period dpc)
  unfolding arm.timer_set
  sets address due absolute period dpc = else (arm.set_refusal w address period dpc) _ (goes _ _ refl)

  sets-signed : (address : ℕ) (due period : ℤ) (dpc : ℕ) → Leaves (arm.timer_set_signed w address due period dpc)
  unfolding arm.timer_set_signed arm.set_from
  sets-signed address due period dpc =
      let relative = get_or w at.now 0 + magnitude due in
      either (negative period) _ _ (refuses 17)
      (either (negative due) _ _ (either (ltb arm.largest relative) _ _ (refuses 13) (sets address relative false period dpc)) (sets address (whole due) true period dpc))

  -- ---- a dispatch, on any output, which it leaves as well; a start

  record DispatchLeaves (out : List ℕ) (x : Dispatched) : Type 0 where
    same : is_refused (told_with x.output x.answer) ≡ true → (x.words ≡ w) × (x.output ≡ out)

  one_of : (out : List ℕ) (b : Bool) (x y : Dispatched) → DispatchLeaves out x → DispatchLeaves out y → DispatchLeaves out (cond b x y)
  one_of out true x y h k = h
  one_of out false x y h k = k

  runs : (out : List ℕ) (a : code.Answer) (after output : List ℕ) → is_refused (told_with output a) ≡ false → DispatchLeaves out (dispatch.told a after output)
  runs out a after output q = record { same = λ e. absurd (not-both (sym e ∙ q)) }

  stops : (out : List ℕ) → DispatchLeaves out (dispatch.told (answer.Refused 27) w out)
  stops out = record { same = λ e. (refl, refl) }

  dispatches : (out : List ℕ) → DispatchLeaves out (dispatched w out)
  unfolding dispatched dispatch.ran
  dispatches out =
      one_of out (ltb (length out) (get_or w at.thread_limit 0)) _ _ (stops out)
      (one_of out (eqb (get_or w at.current 0) 0) _ _
      (one_of out (eqb (top_bit (get_or w at.ready 0)) 0) _ _
      (one_of out (is_some (next_time w)) _ _ (runs out _ _ _ refl) (one_of out (eqb (dispatch.listed_to w) 0) _ _ (runs out _ _ _ refl) (runs out _ _ _ refl)))
      (runs out _ _ _ refl))
      (runs out _ _ _ refl))

  -- a refused dispatch leaves the output too, whatever it held
  pub refused-dispatch : (n : ℕ) (out : List ℕ) → is_refused (told_with (called w (call.Dispatch n) out).output (called w (call.Dispatch n) out).answer) ≡ true
      → ((called w (call.Dispatch n) out).words ≡ w) × ((called w (call.Dispatch n) out).output ≡ out)
  unfolding called guarded_dispatch
  refused-dispatch n out = (one_of out (in_form w) _ _ (dispatches out) (stops out)).same

  image-leaves : (out image : List ℕ) (size : ℕ) (short unknown : Bool)
      → let i = cond short (imaged (answer.Refused 27) out) (cond unknown (imaged (answer.Refused 2) out) (imaged (answer.Count size) image)) in
      is_refused (image_told i) ≡ true → i.output ≡ out
  image-leaves out image size true unknown e = refl
  image-leaves out image size false true e = refl
  image-leaves out image size false false e = absurd (not-both (sym e))

  -- and so does a refused image
  pub refused-timer-image : (address n : ℕ) (out : List ℕ) → is_refused (image_told (called w (call.Reads (call.TimerImage address n)) out)) ≡ true
      → (called w (call.Reads (call.TimerImage address n)) out).output ≡ out
  unfolding called guarded_image timer_imaged
  refused-timer-image address n out = image-leaves out _ _ (image_refused w out) (eqb (place_of w 2 address) 0)

  pub refused-dpc-image : (address n : ℕ) (out : List ℕ) → is_refused (image_told (called w (call.Reads (call.DpcImage address n)) out)) ≡ true
      → (called w (call.Reads (call.DpcImage address n)) out).output ≡ out
  unfolding called guarded_image dpc_imaged
  refused-dpc-image address n out = image-leaves out _ _ (image_refused w out) (eqb (number_of w address) 0)

  record StartLeaves (x : Started) : Type 0 where
    same : is_refused (told_work x.answer) ≡ true → x.words ≡ w

  start-either : (b : Bool) (x y : Started) → StartLeaves x → StartLeaves y → StartLeaves (cond b x y)
  start-either true x y h k = h
  start-either false x y h k = k

  start-refuses : (n : ℕ) → StartLeaves (dpcs.start_outcome (work.Refused n) w)
  start-refuses n = record { same = λ e. refl }

  begins : (x : DpcWork) (after : List ℕ) → StartLeaves (dpcs.start_outcome (work.Work x) after)
  begins x after = record { same = λ e. absurd (not-both (sym e)) }

  starts : (address : ℕ) → StartLeaves (guarded_start w (dpcs.work_started w address))
  unfolding guarded_start dpcs.work_started
  starts address =
      start-either (in_form w) _ _ (start-either (eqb (dpcs.start_refusal w address) 0) _ _ (begins _ _) (start-refuses (dpcs.start_refusal w address))) (start-refuses 27)

  -- ---- every call

  pub refused-leaves : (c : Call) → is_refused (answered w c) ≡ true → left w c ≡ w
  unfolding called
  refused-leaves (call.Open m p t o d) = unfold opened in (else (open_refusal w p t o d) _ (goes _ _ refl)).same
  refused-leaves (call.CreateThread p) = guard _ (unfold thread.created in (else (thread.create_refusal w p) _ (goes _ _ refl)))
  refused-leaves (call.Priority id p) = guard _ (unfold thread.prioritized in (else (thread.priority_refusal w id p) _ (goes _ _ refl)))
  refused-leaves (call.InitializeMutex key) = guard _ (unfold mutexes.initialized in (else (mutexes.mutex_refusal w key) _ (goes _ _ refl)))
  refused-leaves (call.InitializeEvent key manual signaled) = guard _ (unfold events.initialized in (else (events.event_refusal w key) _ (goes _ _ refl)))
  refused-leaves (call.AdoptMutex key none) = guard _ (unfold mutexes.adopted in (else (mutexes.adopt_refusal w key false 0) _ (goes _ _ refl)))
  refused-leaves (call.AdoptMutex key (some owner)) = guard _ (unfold mutexes.adopted in (else (mutexes.adopt_refusal w key true owner) _ (goes _ _ refl)))
  refused-leaves (call.ReleaseMutex key) = guard _ (unfold mutexes.released in (else (mutexes.release_refusal w key) _ (goes _ _ refl)))
  refused-leaves (call.SetEvent key) = guard _ (unfold events.was_set in (either (eqb (place_of w 1 key) 0) _ _ (refuses 2) (goes _ _ refl)))
  refused-leaves (call.ResetEvent key) = guard _ (unfold events.was_reset in (either (eqb (place_of w 1 key) 0) _ _ (refuses 2) (goes _ _ refl)))
  refused-leaves (call.RetireEventBacking base size layout) = guard _ (unfold release.events_retired in (else (release.release_refusal w base size layout) _ (goes _ _ refl)))
  refused-leaves (call.Wait l all none irql) = guard _ (waits l all false 0 irql)
  refused-leaves (call.Wait l all (some deadline) irql) = guard _ (waits l all true deadline irql)
  refused-leaves (call.DelayUntil deadline irql) = guard _ (delays deadline irql)
  refused-leaves call.YieldCurrent = guard _ (unfold thread.yielded in (either (eqb (get_or w at.current 0) 0) _ _ (refuses 3) (goes _ _ refl)))
  refused-leaves (call.Terminate status) = guard _ (unfold thread.terminated in (else (thread.terminate_refusal w) _ (goes _ _ refl)))
  refused-leaves (call.AdvanceTo t) = guard _ (unfold time.advanced in (either (ltb t (get_or w at.now 0)) _ _ (refuses 12) (else (expiry_refusal w t) _ (goes _ _ refl))))
  refused-leaves (call.Dispatch n) = λ e. (refused-dispatch n (blank n) e).0
  refused-leaves (call.InitializeTimer address a b manual) = guard _ (unfold initialize.timer_initialized in (else (initialize.timer_refusal w address a b) _ (goes _ _ refl)))
  refused-leaves (call.InitializeDpc address a b routine context) = guard _ (unfold initialize.dpc_initialized in (else (initialize.dpc_refusal w address a b) _ (goes _ _ refl)))
  refused-leaves (call.SetTimer address due absolute period dpc) = guard _ (sets address due absolute period dpc)
  refused-leaves (call.SetTimerSigned address v period dpc) = guard _ (sets-signed address v period dpc)
  refused-leaves (call.CancelTimer address) = guard _ (unfold arm.timer_cancelled in (either (eqb (place_of w 2 address) 0) _ _ (refuses 2) (goes _ _ refl)))
  refused-leaves (call.RetireTimerBacking address size) = guard _ (unfold timer-release.timers_retired in (else (timer-release.release_refusal w address size) _ (goes _ _ refl)))
  refused-leaves (call.ConfigureDpcDispatch first second) = guard _ (unfold dpcs.configured in (else (dpcs.configure_refusal w first second) _ (goes _ _ refl)))
  refused-leaves (call.InsertQueueDpc address first second) = guard _ (unfold dpcs.queue_inserted in (else (dpcs.insert_refusal w address) _ (either (queued w (number_of w address)) _ _ (goes _ _ refl) (goes _ _ refl))))
  refused-leaves (call.RemoveQueueDpc address) = guard _ (unfold dpcs.queue_removed in (else (dpcs.remove_refusal w address) _ (either (queued w (number_of w address)) _ _ (goes _ _ refl) (goes _ _ refl))))
  refused-leaves (call.StartDpc address) = (starts address).same
  refused-leaves (call.ReturnedDpc address n) = guard _ (unfold dpcs.work_returned in (else (dpcs.returned_refusal w address n) _ (goes _ _ refl)))
  refused-leaves (call.RestoredDpc address n) = guard _ (unfold dpcs.work_restored in (else (dpcs.restored_refusal w address n) _ (goes _ _ refl)))
  refused-leaves (call.Reads r) = λ e. refl
