-- What Microsoft's pages report holds of the code's answers, for calls that are not refused.
use Prim.Native.Nat.{ℕ, ◌≤◌}
use mathlib.Core.List.{List}
use mathlib.Core.Bool.{Bool, true, false, cond, not, ◌&&◌}
use mathlib.Core.Option.{Option, some}
use mathlib.Core.Path.{◌≡◌, sym, ap, ◌∙◌, subst}
use borrow.Author.Tests.{eq-eqb, ne_eqb}
use lib.Dec.{ltb}
use lib.IntN.{ℤ}
use lib.ListN.{length}
use Rattle.images.specs.declared.Timer.{Timer}
use Rattle.calls.specs.Run.{answered, left}
use Rattle.model.specs.Lists.{given}
use Rattle.model.specs.State.{State, Named}
use Rattle.model.specs.Waits.{timer_at}
use Rattle.model.specs.Timers.{most}
use Rattle.model.specs.Refusal.{pairs, is_negative, signed_due, set_signed_refusal, unknown_timer}
use Rattle.model.specs.Answer.{Outcome, Flag}
use Rattle.model.specs.Call.{Call, SetEvent, SetTimer, SetTimerSigned, CancelTimer, AdvanceTo, InsertQueueDpc, RemoveQueueDpc, Wait}
use Rattle.model.specs.Call as call
use Rattle.model.specs.Step.{step, refusal, effect}
use Rattle.model.specs.Start.{Start, Accepted}
use Rattle.model.specs.Fits.{Fits}
use Rattle.model.specs.Leaving.{Names}
use Rattle.model.specs.Wdk.{was_signaled, in_timer_queue, InsertReports, RemoveReports, WaitReports}
use Rattle.model.proofs.RowLaws.{passes, known}
use Rattle.model.proofs.WdkLaws as wdk
use Rattle.model.proofs.WdkLaws.{step_is}
use Rattle.model.proofs.TimerLaws as timers
use Rattle.model.proofs.ThreadsLeft.{names-pairs}
use Rattle.model.proofs.Told.{timer-told, told-timer}
use Rattle.theorem.specs.History.{Proper}
use Rattle.theorem.specs.Theorem.{logged, end}
use Rattle.corollaries.specs.Reads.{TimerRead}
use Rattle.corollaries.specs.Refusals.{is_refused}
use Rattle.corollaries.specs.Cancels.{CancelSays}
use Rattle.corollaries.proofs.Next.{next, next-but-one, valid}
use Rattle.corollaries.proofs.Refusals.{passed-by}

-- the signed due sets the timer as the due that it means does
signed_is : (s : State) (address : ℕ) (due period : ℤ) (dpc : ℕ) → refusal (SetTimerSigned address due period dpc) s ≡ 0 → (step (SetTimerSigned address due period dpc) s).answer ≡ Flag (in_timer_queue s address)
unfolding refusal set_signed_refusal effect
signed_is s address due period dpc e =
    let a = passes (is_negative period) 16 _ e in
    let b = passes (is_negative due && ltb most (signed_due s.now due)) 12 _ a.1 in
    let c = SetTimer address (signed_due s.now due) (not (is_negative due)) period dpc in
    ap (λ (x : Outcome). x.answer) (step_is (SetTimerSigned address due period dpc) s e ∙ sym (step_is c s b.1))
    ∙ wdk.set-timer-reports s address (signed_due s.now due) (not (is_negative due)) period dpc b.1

module _ (w : List ℕ) (start : Start) (calls : List Call) (accepted : Accepted (length w) start) (proper : Proper (length w) calls) where
  abbrev words : List ℕ
  words = end w start calls

  abbrev log : State
  log = logged w start calls

  -- KeSetEvent: whether the event was signaled
  pub set_event : (key : ℕ) → Fits (SetEvent key) → is_refused (answered words (SetEvent key)) ≡ false → answered words (SetEvent key) ≡ Flag (was_signaled log key)
  set_event key fit e =
      (next w start calls accepted proper (SetEvent key) fit tt).answers ∙ wdk.set-event-reports log key (passed-by w start calls accepted proper (SetEvent key) fit tt e)

  -- KeSetTimerEx: whether the timer was in the timer queue
  pub set-timer : (address due : ℕ) (absolute : Bool) (period : ℤ) (dpc : ℕ) → Fits (SetTimer address due absolute period dpc)
      → is_refused (answered words (SetTimer address due absolute period dpc)) ≡ false → answered words (SetTimer address due absolute period dpc) ≡ Flag (in_timer_queue log address)
  set-timer address due absolute period dpc fit e =
      let c = SetTimer address due absolute period dpc in
      (next w start calls accepted proper c fit tt).answers ∙ wdk.set-timer-reports log address due absolute period dpc (passed-by w start calls accepted proper c fit tt e)

  -- the same with a signed due
  pub set-timer-signed : (address : ℕ) (due period : ℤ) (dpc : ℕ) → Fits (SetTimerSigned address due period dpc)
      → is_refused (answered words (SetTimerSigned address due period dpc)) ≡ false → answered words (SetTimerSigned address due period dpc) ≡ Flag (in_timer_queue log address)
  set-timer-signed address due period dpc fit e =
      let c = SetTimerSigned address due period dpc in
      (next w start calls accepted proper c fit tt).answers ∙ signed_is log address due period dpc (passed-by w start calls accepted proper c fit tt e)

  -- KeCancelTimer: whether the timer was in the timer queue, its DPC queued or not
  pub cancel-timer : (address : ℕ) → Fits (CancelTimer address) → is_refused (answered words (CancelTimer address)) ≡ false → answered words (CancelTimer address) ≡ Flag (in_timer_queue log address)
  cancel-timer address fit e =
      (next w start calls accepted proper (CancelTimer address) fit tt).answers ∙ wdk.cancel-timer-reports log address (passed-by w start calls accepted proper (CancelTimer address) fit tt e)

  -- after an advance that is not refused
  module _ (time : ℕ) (fits : Fits (AdvanceTo time)) (advances : is_refused (answered words (AdvanceTo time)) ≡ false) (address : ℕ) (fit : Fits (CancelTimer address)) (x : Timer) (read : TimerRead words address x) where
    abbrev later : State
    later = (step (AdvanceTo time) log).state

    passed : refusal (AdvanceTo time) log ≡ 0
    passed = passed-by w start calls accepted proper (AdvanceTo time) fits tt advances

    was : timer_at log.dispatcher.objects address ≡ some x
    was = timer-told log address x (sym (next w start calls accepted proper (call.Reads (call.TimerAt address)) tt tt).answers ∙ read)

    -- what `timer` and a cancel answer then
    says : (b : Bool) → in_timer_queue later address ≡ b → CancelSays (left words (AdvanceTo time)) address b
    unfolding refusal unknown_timer
    says b q =
        let k = timers.timer-known log (valid w start calls accepted proper) time passed address x was in
        let y = known (timer_at later.dispatcher.objects address) k in
        record {
          timer = y.0;
          read = (next-but-one w start calls accepted proper (AdvanceTo time) (call.Reads (call.TimerAt address)) fits tt tt tt).answers ∙ told-timer later address y.0 y.1;
          is = sym (ap (λ (z : Option Timer). given z false (λ (u : Timer). u.inserted)) y.1) ∙ q;
          cancel = (next-but-one w start calls accepted proper (AdvanceTo time) (CancelTimer address) fits tt fit tt).answers
              ∙ wdk.cancel-timer-reports later address (ap (λ (z : Bool). cond z 0 2) k) ∙ ap Flag q;
        }

    -- a periodic timer that is set stays so, and a cancel is TRUE
    pub periodic-stays : x.inserted ≡ true → (x.period_ms ≡ 0 → ⊥) → CancelSays (left words (AdvanceTo time)) address true
    periodic-stays i n =
        says true (timers.periodic-stays log (valid w start calls accepted proper) time passed address x was i (ap (λ (b : Bool). cond b false true) (ne_eqb x.period_ms 0 n)))

    -- a one-shot that the advance has expired is not, and a cancel is FALSE, its DPC queued or not
    pub one-shot-leaves : x.inserted ≡ true → x.period_ms ≡ 0 → x.due ≤ time → CancelSays (left words (AdvanceTo time)) address false
    one-shot-leaves i z h =
        says false (timers.one-shot-leaves log (valid w start calls accepted proper) time passed address x was i (ap (λ (b : Bool). cond b false true) (eq-eqb x.period_ms 0 z)) h)

  -- KeInsertQueueDpc: TRUE if the DPC was not queued, and now it is; FALSE if it was, and then nothing of it changes
  pub insert-dpc : (address first second : ℕ) → Fits (InsertQueueDpc address first second) → is_refused (answered words (InsertQueueDpc address first second)) ≡ false
      → InsertReports log (step (InsertQueueDpc address first second) log).state address (answered words (InsertQueueDpc address first second))
  insert-dpc address first second fit e =
      let c = InsertQueueDpc address first second in
      subst (InsertReports log (step c log).state address) (sym (next w start calls accepted proper c fit tt).answers)
      (wdk.insert-dpc-reports log (valid w start calls accepted proper) address first second (passed-by w start calls accepted proper c fit tt e))

  -- KeRemoveQueueDpc: whether the DPC was queued; now it is not
  pub remove-dpc : (address : ℕ) → Fits (RemoveQueueDpc address) → is_refused (answered words (RemoveQueueDpc address)) ≡ false
      → RemoveReports log (step (RemoveQueueDpc address) log).state address (answered words (RemoveQueueDpc address))
  remove-dpc address fit e =
      let c = RemoveQueueDpc address in
      subst (RemoveReports log (step c log).state address) (sym (next w start calls accepted proper c fit tt).answers)
      (wdk.remove-dpc-reports log (valid w start calls accepted proper) address (passed-by w start calls accepted proper c fit tt e))

  -- KeWaitForMultipleObjects: satisfied, timed out or blocked, and what is taken, of every wait
  pub wait : (l : List ℕ) (all : Bool) (deadline : Option ℕ) (irql : ℕ) → Fits (Wait l all deadline irql) → is_refused (answered words (Wait l all deadline irql)) ≡ false
      → (objects : List Named) × (Names l objects) × WaitReports log (step (Wait l all deadline irql) log).state log.dispatcher.current objects all deadline (answered words (Wait l all deadline irql))
  wait l all deadline irql fit e =
      let c = Wait l all deadline irql in (
        pairs l,
        names-pairs l,
        subst (WaitReports log (step c log).state log.dispatcher.current (pairs l) all deadline) (sym (next w start calls accepted proper c fit tt).answers)
            (wdk.wait-reports log l all deadline irql (passed-by w start calls accepted proper c fit tt e)),
      )
