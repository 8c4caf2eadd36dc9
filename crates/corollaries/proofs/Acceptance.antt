-- The work that `start_dpc` answers, and that `dpc` tells of, has the arguments and the origin given at its acceptance: by what the calls of the
-- list answered, and by what the reads answered then.
use Prim.Native.Nat.{ℕ}
use mathlib.Core.List.{List, [], ◌∷◌, ◌++◌, append_assoc}
use mathlib.Core.Bool.{true}
use mathlib.Core.Path.{◌≡◌, refl, sym, ◌∙◌, subst}
use mathlib.Core.Logic.{inl}
use lib.ListN.{length}
use Rattle.images.specs.declared.Timer.{Timer}
use Rattle.images.specs.declared.Dpc.{Dpc}
use Rattle.images.specs.declared.DpcWork.{DpcWork}
use Rattle.images.specs.declared.DpcPhase.TheVariants.{Queued}
use Rattle.calls.specs.Run.{answered, left}
use Rattle.model.specs.Lists.{Mem}
use Rattle.model.specs.Answer.{Answer, Flag, WorkIs}
use Rattle.model.specs.Call.{Call, InsertQueueDpc, StartDpc}
use Rattle.model.specs.Call as call
use Rattle.model.specs.Start.{Start, Accepted, begun}
use Rattle.model.specs.Fits.{Fits}
use Rattle.model.proofs.ListLaws.{append-mem-left, append-mem-right}
use Rattle.model.specs.Acceptance.{HasWork, FromInsert, OwnWork, QueuedLast, NoRestart, Given}
use Rattle.model.proofs.Asking.{same-accepts}
use Rattle.model.proofs.AcceptanceLaws.{asked_after}
use Rattle.model.proofs.AcceptanceLaws as log
use Rattle.theorem.specs.History.{Proper}
use Rattle.theorem.specs.Theorem.{logged, end}
use Rattle.corollaries.specs.Reads.{TimerRead, DpcRead}
use Rattle.corollaries.proofs.Next.{next, next-but-one, valid}

-- the first calls of a proper list are proper
proper-first : (m : ℕ) (cs first rest : List Call) → cs ≡ first ++ rest → Proper m cs → Proper m first
proper-first m cs first rest e h = record {
  fit = λ c k. h.fit c (subst (Mem c) (sym e) (append-mem-left c first rest k));
  lent = λ c k. h.lent c (subst (Mem c) (sym e) (append-mem-left c first rest k));
}

module _ (w : List ℕ) (start : Start) (calls : List Call) (accepted : Accepted (length w) start) (proper : Proper (length w) calls) where
  abbrev words : List ℕ
  words = end w start calls

  -- what the code would answer after the start and a list of calls
  abbrev pub answered_after : List Call → Call → Answer
  answered_after cs c = answered (end w start cs) c

  -- none started anew by the log, so none did by the code
  none-restarts : (cs done : List Call) → calls ≡ done ++ cs → NoRestart (asked_after (begun start)) done cs → NoRestart answered_after done cs
  none-restarts [] done e h = tt
  none-restarts (c ∷ cs) done e h =
      let m : Mem c calls = subst (Mem c) (sym e) (append-mem-right c done (c ∷ cs) (inl refl)) in
      let p = proper-first (length w) calls done (c ∷ cs) e proper in (
        λ x q t o d z y. h.0 x q t o d z (sym (next w start done accepted p c (proper.fit c m) (proper.lent c m)).answers ∙ y),
        none-restarts cs (done ++ (c ∷ [])) (e ∙ sym (append_assoc done (c ∷ []) cs)) h.1,
      )

  told : (a : ℕ) (k : DpcWork) → Given (asked_after (begun start)) calls a k → Given answered_after calls a k
  told a k g =
      let m : Mem g.acceptance calls = subst (Mem g.acceptance) (sym g.is) (append-mem-right g.acceptance g.earlier (g.acceptance ∷ g.later) (inl refl)) in
      let p = proper-first (length w) calls g.earlier (g.acceptance ∷ g.later) g.is proper in
      let q = proper-first (length w) calls (g.earlier ++ (g.acceptance ∷ [])) g.later (g.is ∙ sym (append_assoc g.earlier (g.acceptance ∷ []) g.later)) proper in
      record {
        earlier = g.earlier;
        acceptance = g.acceptance;
        later = g.later;
        is = g.is;
        accepts = same-accepts (asked_after (begun start) g.earlier) (answered_after g.earlier) (asked_after (begun start) (g.earlier ++ (g.acceptance ∷ []))) (answered_after (g.earlier ++ (g.acceptance ∷ [])))
            (λ r. (next w start g.earlier accepted p (call.Reads r) tt tt).answers)
            (λ r. (next w start (g.earlier ++ (g.acceptance ∷ [])) accepted q (call.Reads r) tt tt).answers)
            g.acceptance (next w start g.earlier accepted p g.acceptance (proper.fit g.acceptance m) (proper.lent g.acceptance m)).answers a k g.accepts;
        since = none-restarts g.later (g.earlier ++ (g.acceptance ∷ [])) (g.is ∙ sym (append_assoc g.earlier (g.acceptance ∷ []) g.later)) g.since;
      }

  -- the work that `dpc` tells of, be it queued, running or returning
  pub dpc-given : (a : ℕ) (x : Dpc) (k : DpcWork) → DpcRead words a x → HasWork x.phase k → Given answered_after calls a k
  dpc-given a x k e h = told a k (log.dpc-given (length w) start accepted calls a x k (sym (next w start calls accepted proper (call.Reads (call.DpcAt a)) tt tt).answers ∙ e) h)

  -- the work that `start_dpc` answers
  pub start-given : (a : ℕ) (k : DpcWork) → Fits (StartDpc a) → answered words (StartDpc a) ≡ WorkIs k → Given answered_after calls a k
  start-given a k fit e = told a k (log.start-given (length w) start accepted calls a k (sym (next w start calls accepted proper (StartDpc a) fit tt).answers ∙ e))

  -- an insert that answers yes leaves the DPC queued with the caller's arguments, under the last number
  pub insert-queues : (a first second : ℕ) → Fits (InsertQueueDpc a first second) → answered words (InsertQueueDpc a first second) ≡ Flag true
      → (k : DpcWork) × (FromInsert (answered words) (InsertQueueDpc a first second) a k) × QueuedLast (answered (left words (InsertQueueDpc a first second))) a k
  insert-queues a first second fit e =
      let c = InsertQueueDpc a first second in
      let r = log.insert-queues (logged w start calls) (valid w start calls accepted proper) a first second (sym (next w start calls accepted proper c fit tt).answers ∙ e) in
      let q = r.2 in (
        r.0,
        record { inserts = r.1.inserts; accepted = e; origin = r.1.origin },
        record {
          dpc = q.dpc;
          read = (next-but-one w start calls accepted proper c (call.Reads (call.DpcAt a)) fit tt tt tt).answers ∙ q.read;
          queued = q.queued;
          counters = q.counters;
          counted = (next-but-one w start calls accepted proper c (call.Reads call.DpcCounters) fit tt tt tt).answers ∙ q.counted;
          last = q.last;
        },
      )

  -- queued work of an inserted timer's DPC is the timer's own, so an expiry that finds work queued finds its own
  pub own-queued : (a : ℕ) (t : Timer) (x : Dpc) (k : DpcWork) → TimerRead words a t → t.inserted ≡ true → (t.dpc ≡ 0 → ⊥) → DpcRead words t.dpc x → x.phase ≡ Queued k → OwnWork t k
  own-queued a t x k e i n f q =
      log.own-queued (logged w start calls) (valid w start calls accepted proper) a t x k
      (sym (next w start calls accepted proper (call.Reads (call.TimerAt a)) tt tt).answers ∙ e) i n
      (sym (next w start calls accepted proper (call.Reads (call.DpcAt t.dpc)) tt tt).answers ∙ f) q
