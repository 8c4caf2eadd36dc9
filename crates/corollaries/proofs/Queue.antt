-- The DPC queue, as the code's reads show it, and the counts that stand in the words.
use Prim.Native.Nat.{ℕ, ◌+◌, ◌<◌}
use mathlib.Core.List.{List}
use mathlib.Core.Bool.{true, false}
use mathlib.Core.Option.{Option, none, some}
use mathlib.Core.Logic.{inl, inr}
use mathlib.Core.Path.{◌≡◌, refl, sym, ap, ◌∙◌, subst}
use native.Mathlib.Omega.{arith}
use lib.ListN.{length, get_or}
use Rattle.words.specs.Layout as at
use Rattle.images.specs.declared.Dpc.{Dpc}
use Rattle.images.specs.declared.DpcWork.{DpcWork}
use Rattle.images.specs.declared.DpcPhase.{DpcPhase}
use Rattle.images.specs.declared.DpcPhase.TheVariants.{Idle, Queued, Running, Returning}
use Rattle.calls.specs.Run.{answered}
use Rattle.model.specs.Lists.{Mem, given}
use Rattle.model.specs.State.{State}
use Rattle.model.specs.Dpcs.{address_of, dpc_at, phase_at, is_active, is_returning, is_idle, work_of, active_dpc}
use Rattle.model.specs.Valid.{Queueing, sequence_of, work_at, active_count, returning_count}
use Rattle.model.specs.Answer.{Answer, None, Number, DpcIs}
use Rattle.model.specs.Call.{Call}
use Rattle.model.specs.Call as call
use Rattle.model.specs.Step.{step}
use Rattle.model.specs.Start.{Start, Accepted}
use Rattle.model.proofs.ListLaws.{mem-nth, mem-member}
use Rattle.model.proofs.TableLaws.{found}
use Rattle.model.proofs.DpcLaws.{queued-work, phase-found, phase-known}
use Rattle.model.proofs.NeverLaws.{queued-in-queue}
use Rattle.model.proofs.Told.{dpc-told, told-dpc, queue-told, told-queue, queue-answers, active-answers, counters-answers}
use Rattle.agreement_tables.proofs.Lists.{nth-mem, nth-some, nth-none}
use Rattle.theorem.specs.History.{Proper}
use Rattle.theorem.specs.Theorem.{logged, end}
use Rattle.theorem.proofs.Theorem.{theorem}
use Rattle.corollaries.specs.Reads.{DpcRead, QueueRead}
use Rattle.corollaries.specs.Queue.{ActiveWork, Counted}
use Rattle.corollaries.proofs.Next.{next, valid}
use Rattle.corollaries.proofs.Positions.{distinct-nth, rising-nth, counted-once, none-counted, first_counted}

-- what is not active is not returning
idle-not-returning : (q : DpcPhase) → is_active q ≡ false → is_returning q ≡ false
idle-not-returning Idle e = refl
idle-not-returning (Queued k) e = refl
idle-not-returning (Running k) e = refl
idle-not-returning (Returning k) e = e

module _ (w : List ℕ) (start : Start) (calls : List Call) (accepted : Accepted (length w) start) (proper : Proper (length w) calls) where
  abbrev words : List ℕ
  words = end w start calls

  abbrev log : State
  log = logged w start calls

  queueing : Queueing log.limits.dpcs log.dpcs.table log.dpcs.queue log.dpcs.counters
  queueing = (valid w start calls accepted proper).queueing

  reads : (r : call.Read) → answered words (call.Reads r) ≡ (step (call.Reads r) log).answer
  reads r = (next w start calls accepted proper (call.Reads r) tt tt).answers

  known : (a : ℕ) (x : Dpc) → DpcRead words a x → dpc_at log.dpcs.table a ≡ some x
  known a x e = dpc-told log a x (sym (reads (call.DpcAt a)) ∙ e)

  stands : (n a : ℕ) → QueueRead words n a → Mem a log.dpcs.queue
  stands n a e = nth-mem log.dpcs.queue n a (queue-told log n a (sym (reads (call.QueuedDpcs n)) ∙ e))

  -- the queue holds each queued DPC
  pub queued-stands : (a : ℕ) (x : Dpc) (k : DpcWork) → DpcRead words a x → x.phase ≡ Queued k → (n : ℕ) × QueueRead words n a
  queued-stands a x k e q =
      let r = mem-nth log.dpcs.queue a (queued-in-queue log (valid w start calls accepted proper) a k (phase-found log.dpcs.table a x (known a x e) ∙ q)) in
      (r.0, reads (call.QueuedDpcs r.0) ∙ told-queue log r.0 a r.1)

  -- and no other
  pub stands-queued : (n a : ℕ) → QueueRead words n a → (x : Dpc) × (k : DpcWork) × (DpcRead words a x) × (x.phase ≡ Queued k)
  stands-queued n a e =
      let q = queued-work (phase_at log.dpcs.table a) (sym (queueing.queued a) ∙ mem-member a log.dpcs.queue (stands n a e)) in
      let x = phase-known log.dpcs.table a (ap is_idle q.1) in
      (x.0, q.0, reads (call.DpcAt a) ∙ told-dpc log a x.0 x.1, sym (phase-found log.dpcs.table a x.0 x.1) ∙ q.1)

  -- once
  pub stands-once : (m n a : ℕ) → QueueRead words m a → QueueRead words n a → m ≡ n
  stands-once m n a e f =
      distinct-nth log.dpcs.queue queueing.once a m n (queue-told log m a (sym (reads (call.QueuedDpcs m)) ∙ e)) (queue-told log n a (sym (reads (call.QueuedDpcs n)) ∙ f))

  sequence-is : (a : ℕ) (x : Dpc) (k : DpcWork) → DpcRead words a x → x.phase ≡ Queued k → work_at log.dpcs.table a ≡ k.sequence
  sequence-is a x k e q = ap (λ (z : DpcPhase). sequence_of (work_of z)) (phase-found log.dpcs.table a x (known a x e) ∙ q)

  -- by acceptance
  pub by_acceptance : (m n a b : ℕ) → QueueRead words m a → QueueRead words n b → m < n
      → (x y : Dpc) (j k : DpcWork) → DpcRead words a x → x.phase ≡ Queued j → DpcRead words b y → y.phase ≡ Queued k → j.sequence < k.sequence
  by_acceptance m n a b e f h x y j k ex qx ey qy =
      subst (λ (i : ℕ). i < k.sequence) (sequence-is a x j ex qx) (subst (λ (i : ℕ). work_at log.dpcs.table a < i) (sequence-is b y k ey qy)
      (rising-nth (work_at log.dpcs.table) log.dpcs.queue queueing.by_acceptance a b m n
      (queue-told log m a (sym (reads (call.QueuedDpcs m)) ∙ e)) (queue-told log n b (sym (reads (call.QueuedDpcs n)) ∙ f)) h))

  -- at most one DPC is active
  pub one_active : (a b : ℕ) (x y : Dpc) → DpcRead words a x → DpcRead words b y → is_active x.phase ≡ true → is_active y.phase ≡ true → a ≡ b
  one_active a b x y e f q r =
      let g = found address_of log.dpcs.table a x (known a x e) in
      let h = found address_of log.dpcs.table b y (known b y f) in
      sym g.1 ∙ ap address_of (counted-once (λ (z : Dpc). is_active z.phase) log.dpcs.table queueing.one_active x y g.0 h.0 q r) ∙ h.1

  -- acceptances = removals + restorations + queued + active work, by the words' counts
  pub acceptances : get_or words at.accepted 0 ≡ get_or words at.removed 0 + get_or words at.restored 0 + length log.dpcs.queue + active_count log.dpcs.table
  acceptances =
      let z = theorem w start calls accepted proper in
      z.accepted ∙ queueing.sum ∙ ap (λ (n : ℕ). n + log.dpcs.counters.restored + length log.dpcs.queue + active_count log.dpcs.table) (sym z.removed)
      ∙ ap (λ (n : ℕ). get_or words at.removed 0 + n + length log.dpcs.queue + active_count log.dpcs.table) (sym z.restored)

  -- starts less restorations is the active work; returns less restorations the returning work
  pub starts : get_or words at.started 0 ≡ get_or words at.restored 0 + active_count log.dpcs.table
  starts = let z = theorem w start calls accepted proper in z.started ∙ queueing.starts ∙ ap (λ (n : ℕ). n + active_count log.dpcs.table) (sym z.restored)

  pub returns : get_or words at.returned 0 ≡ get_or words at.restored 0 + returning_count log.dpcs.table
  returns = let z = theorem w start calls accepted proper in z.returned ∙ queueing.returns ∙ ap (λ (n : ℕ). n + returning_count log.dpcs.table) (sym z.restored)

  -- the same by what the reads answer
  pub counted : Counted words
  counted = record {
    counters = log.dpcs.counters;
    read = reads call.DpcCounters ∙ counters-answers log;
    queued = length log.dpcs.queue;
    queue = record {
      below = λ k h. let r = nth-some log.dpcs.queue k h in (r.0, reads (call.QueuedDpcs k) ∙ told-queue log k r.0 r.1);
      end = reads (call.QueuedDpcs (length log.dpcs.queue)) ∙ queue-answers log (length log.dpcs.queue) ∙ ap (λ (o : Option ℕ). given o None Number) (nth-none log.dpcs.queue (length log.dpcs.queue) (omega arith));
    };
    active = active_count log.dpcs.table;
    returning = returning_count log.dpcs.table;
    work = go (active_dpc log.dpcs.table) refl;
    acceptances = queueing.sum;
    starts = queueing.starts;
    returns = queueing.returns;
  }
    where
      told : Option Dpc → Answer
      told o = given o None DpcIs

      go : (m : Option Dpc) → active_dpc log.dpcs.table ≡ m → ActiveWork words (active_count log.dpcs.table) (returning_count log.dpcs.table)
      go none e =
          let r = none-counted (λ (z : Dpc). is_active z.phase) (λ (z : Dpc). is_returning z.phase) (λ z. idle-not-returning z.phase) log.dpcs.table e in
          inl (reads call.ActiveDpc ∙ active-answers log ∙ ap told e, r.0, r.1)
      go (some x) e =
          let r = first_counted (λ (z : Dpc). is_active z.phase) (λ (z : Dpc). is_returning z.phase) (λ z. idle-not-returning z.phase) log.dpcs.table x e queueing.one_active in
          inr (x, reads call.ActiveDpc ∙ active-answers log ∙ ap told e, r.0, r.1)
