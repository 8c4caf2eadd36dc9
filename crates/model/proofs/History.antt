-- What holds after any list of calls that follows an accepted start: demand 3's clauses, over the log.
use Prim.Native.Nat.{ℕ, ◌+◌, ◌≤◌, ◌<◌}
use mathlib.Core.List.{List, [], ◌∷◌}
use mathlib.Core.Bool.{Bool, true, false, cond}
use mathlib.Core.Path.{◌≡◌, refl, sym, ap, ◌∙◌}
use mathlib.Core.Logic.{inl, inr}
use mathlib.Core.Option.{Option, some}
use borrow.Author.Tests.{leb-false}
use lib.ListN.{length}
use Rattle.model.specs.Lists.{Mem, Distinct, member, is_empty}
use Rattle.model.specs.State.{State, Dispatcher, Named, Wait, Status, ready, waiting}
use Rattle.model.specs.Threads.{status_of, is_ready, is_waiting, wait_of}
use Rattle.model.specs.Waits.{is_available, every_available, reached, can_wake, is_met}
use Rattle.model.specs.Dpcs.{phase_at, is_queued}
use Rattle.model.specs.Refusal.{advance_refusal}
use Rattle.model.specs.Answer.{Run}
use Rattle.model.specs.Call.{Call, Dispatch}
use Rattle.model.specs.Step.{step, after}
use Rattle.model.specs.Start.{Start, Accepted, begun}
use Rattle.model.specs.Choice.{Right}
use Rattle.model.specs.Valid.{RisingBy, sequence_at, work_at, active_count, returning_count, Valid}
use Rattle.model.proofs.ListLaws.{not-both, any_false, member-mem, mem-member}
use Rattle.model.proofs.KeepLaws.{ready-only}
use Rattle.model.proofs.StepLaws.{valid-after}
use Rattle.model.proofs.StartLaws.{valid-begun}
use Rattle.model.proofs.ChoiceLaws.{dispatch-right}
use Rattle.model.proofs.NeverLaws.{advance-never-21}

-- some object of the list is not available
none-every : (d : Dispatcher) (ns : List Named) → every_available d ns ≡ false → (n : Named) × (Mem n ns) × (is_available d n ≡ false)
none-every d [] e = absurd (not-both e)
none-every d (x ∷ xs) e = go (is_available d x) refl e (none-every d xs)
  where
    go : (b : Bool) → is_available d x ≡ b → cond b (every_available d xs) false ≡ false → (every_available d xs ≡ false → (n : Named) × (Mem n xs) × (is_available d n ≡ false)) → (n : Named) × (Mem n (x ∷ xs)) × (is_available d n ≡ false)
    go true q z ih = let r = ih z in (r.0, inr r.1, r.2)
    go false q z ih = (x, inl refl, q)

module _ (words : ℕ) (start : Start) (accepted : Accepted words start) (calls : List Call) where
  abbrev s : State
  s = after calls (begun start)

  pub valid : Valid s
  valid = valid-after calls (begun start) (valid-begun words start accepted)

  -- the queue holds each queued DPC once, by acceptance
  pub queue-queued : (a : ℕ) → member a s.dpcs.queue ≡ is_queued (phase_at s.dpcs.table a)
  queue-queued a = valid.queueing.queued a

  pub queue-once : Distinct s.dpcs.queue
  queue-once = valid.queueing.once

  pub queue-by-acceptance : RisingBy (work_at s.dpcs.table) s.dpcs.queue
  queue-by-acceptance = valid.queueing.by_acceptance

  -- at most one is active
  pub at_most_one : active_count s.dpcs.table ≤ 1
  at_most_one = valid.queueing.one_active

  -- acceptances = removals + restorations + queued + active work
  pub acceptances : s.dpcs.counters.accepted ≡ s.dpcs.counters.removed + s.dpcs.counters.restored + length s.dpcs.queue + active_count s.dpcs.table
  acceptances = valid.queueing.sum

  -- starts less restorations is the active work; returns less restorations the returning work
  pub starts : s.dpcs.counters.started ≡ s.dpcs.counters.restored + active_count s.dpcs.table
  starts = valid.queueing.starts

  pub returns : s.dpcs.counters.returned ≡ s.dpcs.counters.restored + returning_count s.dpcs.table
  returns = valid.queueing.returns

  -- no waiter on objects could be satisfied: of a wait for any, no object is available
  pub waits-any : (i : ℕ) (w : Wait) → status_of s.dispatcher i ≡ waiting w → w.all ≡ false → (n : Named) → Mem n w.objects → is_available s.dispatcher n ≡ false
  waits-any i w e all n m = go w.objects refl m (ap (λ (x : Status). can_wake s.dispatcher (wait_of x)) (sym e) ∙ valid.quiet i)
    where
      go : (l : List Named) → w.objects ≡ l → Mem n l → can_wake s.dispatcher w ≡ false → is_available s.dispatcher n ≡ false
      go [] f m' q = absurd m'
      go (x ∷ xs) f m' q = any_false (is_available s.dispatcher) (x ∷ xs)
          (sym (ap (λ (l : List Named). cond (is_empty l) false (is_met s.dispatcher l w.all)) f ∙ ap (is_met s.dispatcher (x ∷ xs)) all) ∙ q) n m'

  -- and of a wait for all, some object is not
  pub waits-all : (i : ℕ) (w : Wait) → status_of s.dispatcher i ≡ waiting w → w.all ≡ true → (w.objects ≡ [] → ⊥) → (n : Named) × (Mem n w.objects) × (is_available s.dispatcher n ≡ false)
  waits-all i w e all n = go w.objects refl (ap (λ (x : Status). can_wake s.dispatcher (wait_of x)) (sym e) ∙ valid.quiet i)
    where
      go : (l : List Named) → w.objects ≡ l → can_wake s.dispatcher w ≡ false → (n : Named) × (Mem n w.objects) × (is_available s.dispatcher n ≡ false)
      go [] f q = absurd (n f)
      go (x ∷ xs) f q = none-every s.dispatcher w.objects
          (sym (ap (λ (l : List Named). cond (is_empty l) false (is_met s.dispatcher w.objects w.all)) f ∙ ap (is_met s.dispatcher w.objects) all) ∙ q)

  -- no waiting deadline has been reached
  pub deadline-ahead : (i : ℕ) (w : Wait) (time : ℕ) → status_of s.dispatcher i ≡ waiting w → w.deadline ≡ some time → s.now < time
  deadline-ahead i w time e f =
      let q : reached w.deadline s.now ≡ false = ap (λ (x : Status). reached (wait_of x).deadline s.now) (sym e) ∙ valid.in_time i in
      leb-false time s.now (ap (λ (x : Option ℕ). reached x s.now) (sym f) ∙ q)

  -- ready threads are exactly the placed ones, once each
  pub placed_ready : (i : ℕ) → Mem i s.dispatcher.placed → status_of s.dispatcher i ≡ ready
  placed_ready i m = ready-only (status_of s.dispatcher i) (sym (valid.sound.standing.placed_ready i) ∙ mem-member i s.dispatcher.placed m)

  pub ready-placed : (i : ℕ) → status_of s.dispatcher i ≡ ready → Mem i s.dispatcher.placed
  ready-placed i e = member-mem i s.dispatcher.placed (valid.sound.standing.placed_ready i ∙ ap is_ready e)

  pub placed_once : Distinct s.dispatcher.placed
  placed_once = valid.sound.standing.placed_once

  -- waiters are exactly the waiting threads, rising by sequence
  pub waiters_waiting : (i : ℕ) → member i s.dispatcher.waiters ≡ is_waiting (status_of s.dispatcher i)
  waiters_waiting i = valid.sound.standing.waiters_waiting i

  pub waiters-rise : RisingBy (sequence_at s.dispatcher.threads) s.dispatcher.waiters
  waiters-rise = valid.sound.standing.waiters_rising

  -- with none current and some placed, dispatch runs the right thread
  pub runs-right : (out : ℕ) → s.limits.threads ≤ out → s.dispatcher.current ≡ 0 → is_empty s.dispatcher.placed ≡ false → (i : ℕ) × ((step (Dispatch out) s).answer ≡ Run i) × Right s.dispatcher i
  runs-right out h z e = dispatch-right s valid e out h z

  -- "other queued work 21, which no call sequence reaches"
  pub never-21 : (time : ℕ) → advance_refusal s time ≡ 21 → ⊥
  never-21 time = advance-never-21 s valid time
