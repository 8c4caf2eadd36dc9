-- A number of the header set, on the words and in the log. All else stays, for the numbers' region is their own.
use Prim.Native.Nat.{ℕ, ◌+◌, ◌*◌, ◌≤◌}
use mathlib.Core.List.{List}
use mathlib.Core.Option.{some}
use mathlib.Core.Path.{◌≡◌, sym, ◌∙◌, subst}
use native.Mathlib.Omega.{arith}
use lib.ListN.{set, length, length-set}
use Rattle.words.specs.Layout as at
use Rattle.images.specs.declared.Dpc.{Dpc}
use Rattle.chains.specs.Ready.{waiters_chain}
use Rattle.model.specs.State.{State, Limits, Dispatcher, Counters, Thread, Object}
use Rattle.model.specs.Threads.{with_sequence}
use Rattle.model.specs.Dpcs.{one_accepted, one_duplicate, one_removed, one_started, one_returned, one_restored}
use Rattle.model.specs.Timers.{most}
use Rattle.model.specs.Step.{with_dispatcher, with_dpcs, configured}
use Rattle.agreement_chains.specs.Chains.{Holds, Same}
use Rattle.agreement_chains.specs.Ready.{ReadyQueues}
use Rattle.agreement_chains.proofs.Frames.{set-outside}
use Rattle.agreement.specs.Row.{Row}
use Rattle.agreement.specs.Records.{numbers_in}
use Rattle.agreement.specs.Chains.{queues_of, queue_from}
use Rattle.agreement.specs.Agree.{Enough, objects_from, dpcs_from, header_of, Threads, Waits, Objects, DpcTable, ShapeOf, Agreeing}
use Rattle.agreement.proofs.Rows.{row-set}
use Rattle.agreement.proofs.Places.{Numbers, ready-cases, waiter-cases, queue-cases}
use Rattle.agreement.proofs.Frames.{threads-depend, waits-depend, queues-depend, waiters-depend, work-depends, objects-depend, dpcs-depend}

-- what is told outside the header's numbers, of the pieces that it speaks of
pub record Rest (w : List ℕ) (l : Limits) (threads : List Thread) (placed waiters : List ℕ) (objects : List Object) (table : List Dpc) (queue : List ℕ) (holder : ℕ → ℕ) : Type 0 where
  pub enough : Enough w l
  pub of-threads : Threads w threads
  pub of-waits : Waits w threads
  pub of-placed : ReadyQueues w (queues_of threads placed)
  pub of-waiters : Holds w waiters_chain waiters
  pub of-objects : Objects w (objects_from l) objects
  pub of-dpcs : DpcTable w (dpcs_from l) holder table
  pub of-queue : Holds w (queue_from (dpcs_from l)) (numbers_in table queue)

abbrev pub RestOf : List ℕ → State → (ℕ → ℕ) → Type 0
RestOf w s holder = Rest w s.limits s.dispatcher.threads s.dispatcher.placed s.dispatcher.waiters s.dispatcher.objects s.dpcs.table s.dpcs.queue holder

pub agree-from : (w : List ℕ) (s : State) (holder : ℕ → ℕ) (active : ℕ) → Row w 0 (header_of s active) → RestOf w s holder → ShapeOf s → Agreeing w s holder active
agree-from w s holder active h r sh = record {
  enough = r.enough;
  numbers = h;
  threads = r.of-threads;
  waits = r.of-waits;
  queues = r.of-placed;
  waiters = r.of-waiters;
  objects = r.of-objects;
  dpcs = r.of-dpcs;
  work = r.of-queue;
  shape = sh;
}

-- ---- sizes, for the bounds of places

module _ (w : List ℕ) (s : State) (holder : ℕ → ℕ) (active : ℕ) (a : Agreeing w s holder active) where
  pub threads-few : length s.dispatcher.threads ≤ at.most_threads
  threads-few = omega (arith, a.shape.sizes.threads_fit, a.shape.sizes.limits.threads)

  pub objects-few : length s.dispatcher.objects ≤ 4096
  objects-few = omega (arith, a.shape.sizes.objects_fit, a.shape.sizes.limits.objects)

  pub dpcs-few : length s.dpcs.table ≤ 4096
  dpcs-few = omega (arith, a.shape.sizes.dpcs_fit, a.shape.sizes.limits.dpcs)

  -- words that differ in numbers of the header only
  pub rest-header : (w' : List ℕ) → length w' ≡ length w → Same (λ j. Numbers j → ⊥) w w' → RestOf w' s holder
  rest-header w' len same = record {
    enough = subst (λ (m : ℕ). at.header_size + at.thread_size * s.limits.threads + 32 * (s.limits.objects + s.limits.dpcs) ≤ m) (sym len) a.enough;
    of-threads = threads-depend w w' s.dispatcher.threads (λ j f. same j (λ h. omega (arith, h.small, f.here, f.one))) a.threads;
    of-waits = waits-depend w w' s.dispatcher.threads a.shape.fit (λ j f. same j (λ h. omega (arith, h.small, f.here, f.one))) a.waits;
    of-placed = queues-depend w w' s.dispatcher.threads s.dispatcher.placed threads-few a.shape.ready_standing
        (λ j r. same j (λ h. ready-cases ⊥ n j r h.no-ready (λ x y. omega (arith, h.small)) (λ l. omega (arith, h.small, l.here)))) a.queues;
    of-waiters = waiters-depend w w' n s.dispatcher.waiters threads-few a.shape.waiting_standing
        (λ j r. same j (λ h. waiter-cases ⊥ n j r (λ e. h.no_end (omega arith) (omega arith)) (λ e. h.no_end (omega arith) (omega arith)) (λ l. omega (arith, h.small, l.here)))) a.waiters;
    of-objects = objects-depend w w' (objects_from s.limits) s.dispatcher.objects (λ j f. same j (λ h. omega (arith, h.small, f.here))) a.objects;
    of-dpcs = dpcs-depend w w' (dpcs_from s.limits) holder s.dpcs.table (λ j f. same j (λ h. omega (arith, h.small, f.here))) a.dpcs;
    of-queue = work-depends w w' (dpcs_from s.limits) s.dpcs.table s.dpcs.queue dpcs-few a.shape.dpcs
        (λ j r. same j (λ h. queue-cases ⊥ (dpcs_from s.limits) (length s.dpcs.table) j r
        (λ e. h.no_end (omega arith) (omega arith)) (λ e. h.no_end (omega arith) (omega arith)) (λ l. omega (arith, h.small, l.here)))) a.work;
  }
    where
      n : ℕ
      n = length s.dispatcher.threads

  -- one number set: the header's row says it, all else stays
  pub set-number : (j v : ℕ) → Numbers j → (Row (set w j v) 0 (set (header_of s active) j (some v))) × RestOf (set w j v) s holder
  set-number j v h = (
    subst (λ (k : ℕ). Row (set w k v) 0 (set (header_of s active) j (some v))) (let e : 0 + j ≡ j = omega arith in e) (row-set w 0 (header_of s active) j v (omega (arith, h.small, a.enough)) a.numbers),
    rest-header (set w j v) (length-set w j v) (set-outside (λ i. Numbers i → ⊥) w j v (λ q. q h)),
  )

-- a number's place
pub number : (j : ℕ) → j ≤ 20 → (j ≡ 9 → ⊥) → Numbers j
number j h n = record { small = omega arith; no-ready = n; no_end = λ x y. omega arith }

-- ---- the states after

abbrev pub with_current : Dispatcher → ℕ → Dispatcher
with_current d n = record { threads = d.threads; current = n; placed = d.placed; waiters = d.waiters; sequence = d.sequence; objects = d.objects }

abbrev pub with_now : State → ℕ → State
with_now s n = record { limits = s.limits; dispatcher = s.dispatcher; dpcs = s.dpcs; now = n; policy = s.policy; timer_initializations = s.timer_initializations; dpc_initializations = s.dpc_initializations }

abbrev pub with_timers_made : State → ℕ → State
with_timers_made s n = record { limits = s.limits; dispatcher = s.dispatcher; dpcs = s.dpcs; now = s.now; policy = s.policy; timer_initializations = n; dpc_initializations = s.dpc_initializations }

abbrev pub with_dpcs_made : State → ℕ → State
with_dpcs_made s n = record { limits = s.limits; dispatcher = s.dispatcher; dpcs = s.dpcs; now = s.now; policy = s.policy; timer_initializations = s.timer_initializations; dpc_initializations = n }

abbrev pub with_counters : State → Counters → State
with_counters s c = with_dpcs s (record { table = s.dpcs.table; queue = s.dpcs.queue; counters = c })

-- ---- each number of the header

module _ (w : List ℕ) (s : State) (holder : ℕ → ℕ) (active : ℕ) (a : Agreeing w s holder active) where
  pub sim-current : (n : ℕ) → Agreeing (set w at.current n) (with_dispatcher s (with_current s.dispatcher n)) holder active
  sim-current n = let r = set-number w s holder active a at.current n (number at.current (omega arith) (λ e. omega arith)) in
      agree-from (set w at.current n) (with_dispatcher s (with_current s.dispatcher n)) holder active r.0 r.1 a.shape

  pub sim-sequence : (n : ℕ) → Agreeing (set w at.sequence n) (with_dispatcher s (with_sequence s.dispatcher n)) holder active
  sim-sequence n = let r = set-number w s holder active a at.sequence n (number at.sequence (omega arith) (λ e. omega arith)) in
      agree-from (set w at.sequence n) (with_dispatcher s (with_sequence s.dispatcher n)) holder active r.0 r.1 a.shape

  pub sim-now : (n : ℕ) → Agreeing (set w at.now n) (with_now s n) holder active
  sim-now n = let r = set-number w s holder active a at.now n (number at.now (omega arith) (λ e. omega arith)) in agree-from (set w at.now n) (with_now s n) holder active r.0 r.1 a.shape

  pub sim-timers-made : (n : ℕ) → Agreeing (set w at.timer_initializations n) (with_timers_made s n) holder active
  sim-timers-made n = let r = set-number w s holder active a at.timer_initializations n (number at.timer_initializations (omega arith) (λ e. omega arith)) in agree-from (set w at.timer_initializations n) (with_timers_made s n) holder active r.0 r.1 a.shape

  pub sim-dpcs-made : (n : ℕ) → Agreeing (set w at.dpc_initializations n) (with_dpcs_made s n) holder active
  sim-dpcs-made n = let r = set-number w s holder active a at.dpc_initializations n (number at.dpc_initializations (omega arith) (λ e. omega arith)) in agree-from (set w at.dpc_initializations n) (with_dpcs_made s n) holder active r.0 r.1 a.shape

  pub sim-active : (n : ℕ) → Agreeing (set w at.active n) s holder n
  sim-active n =
      let r = set-number w s holder active a at.active n (record { small = omega arith; no-ready = λ e. omega arith; no_end = λ x y. omega arith }) in
      agree-from (set w at.active n) s holder n r.0 r.1 a.shape

  -- ---- the policy, which is three numbers

  pub sim-policy : (first second : ℕ) → Agreeing (set (set (set w at.policy 1) 11 first) 12 second) (configured s first second) holder active
  unfolding configured
  sim-policy first second =
      agree-from w₃ (configured s first second) holder active
      (row-set w₂ 0 (set (set (header_of s active) 10 (some 1)) 11 (some first)) 12 second (omega (arith, long, len₁, len₂))
      (row-set w₁ 0 (set (header_of s active) 10 (some 1)) 11 first (omega (arith, long, len₁)) (row-set w 0 (header_of s active) 10 1 (omega (arith, long)) a.numbers)))
      (rest-header w s holder active a w₃ (length-set w₂ at.timer_argument2 second ∙ len₂ ∙ len₁) (λ j r.
      set-outside (λ i. Numbers i → ⊥) w₂ 12 second (λ q. q (number at.timer_argument2 (omega arith) (λ e. omega arith))) j r
      ∙ set-outside (λ i. Numbers i → ⊥) w₁ 11 first (λ q. q (number at.timer_argument (omega arith) (λ e. omega arith))) j r
      ∙ set-outside (λ i. Numbers i → ⊥) w 10 1 (λ q. q (number at.policy (omega arith) (λ e. omega arith))) j r))
      a.shape
    where
      w₁ : List ℕ
      w₁ = set w at.policy 1

      w₂ : List ℕ
      w₂ = set w₁ at.timer_argument first

      w₃ : List ℕ
      w₃ = set w₂ at.timer_argument2 second

      len₁ : length w₁ ≡ length w
      len₁ = length-set w at.policy 1

      len₂ : length w₂ ≡ length w₁
      len₂ = length-set w₁ at.timer_argument first

      long : at.header_size ≤ length w
      long = omega (arith, a.enough)

  -- ---- the six counts, each one more

  pub sim-accepted : Agreeing (set w at.accepted (s.dpcs.counters.accepted + 1)) (with_counters s (one_accepted s.dpcs.counters)) holder active
  sim-accepted =
      let r = set-number w s holder active a at.accepted (s.dpcs.counters.accepted + 1) (number at.accepted (omega arith) (λ e. omega arith)) in
      agree-from (set w at.accepted (s.dpcs.counters.accepted + 1)) (with_counters s (one_accepted s.dpcs.counters)) holder active r.0 r.1 a.shape

  pub sim-duplicate : s.dpcs.counters.duplicates + 1 ≤ most → Agreeing (set w at.duplicates (s.dpcs.counters.duplicates + 1)) (with_counters s (one_duplicate s.dpcs.counters)) holder active
  sim-duplicate h =
      let r = set-number w s holder active a at.duplicates (s.dpcs.counters.duplicates + 1) (number at.duplicates (omega arith) (λ e. omega arith)) in
      agree-from (set w at.duplicates (s.dpcs.counters.duplicates + 1)) (with_counters s (one_duplicate s.dpcs.counters)) holder active r.0 r.1
      (record {
        sizes = a.shape.sizes;
        fit = a.shape.fit;
        ready_standing = a.shape.ready_standing;
        waiting_standing = a.shape.waiting_standing;
        rising = a.shape.rising;
        bounded = a.shape.bounded;
        dpcs = a.shape.dpcs;
        counted = h;
      })

  pub sim-removed : Agreeing (set w at.removed (s.dpcs.counters.removed + 1)) (with_counters s (one_removed s.dpcs.counters)) holder active
  sim-removed =
      let r = set-number w s holder active a at.removed (s.dpcs.counters.removed + 1) (number at.removed (omega arith) (λ e. omega arith)) in
      agree-from (set w at.removed (s.dpcs.counters.removed + 1)) (with_counters s (one_removed s.dpcs.counters)) holder active r.0 r.1 a.shape

  pub sim-started : Agreeing (set w at.started (s.dpcs.counters.started + 1)) (with_counters s (one_started s.dpcs.counters)) holder active
  sim-started =
      let r = set-number w s holder active a at.started (s.dpcs.counters.started + 1) (number at.started (omega arith) (λ e. omega arith)) in
      agree-from (set w at.started (s.dpcs.counters.started + 1)) (with_counters s (one_started s.dpcs.counters)) holder active r.0 r.1 a.shape

  pub sim-returned : Agreeing (set w at.returned (s.dpcs.counters.returned + 1)) (with_counters s (one_returned s.dpcs.counters)) holder active
  sim-returned =
      let r = set-number w s holder active a at.returned (s.dpcs.counters.returned + 1) (number at.returned (omega arith) (λ e. omega arith)) in
      agree-from (set w at.returned (s.dpcs.counters.returned + 1)) (with_counters s (one_returned s.dpcs.counters)) holder active r.0 r.1 a.shape

  pub sim-restored : Agreeing (set w at.restored (s.dpcs.counters.restored + 1)) (with_counters s (one_restored s.dpcs.counters)) holder active
  sim-restored =
      let r = set-number w s holder active a at.restored (s.dpcs.counters.restored + 1) (number at.restored (omega arith) (λ e. omega arith)) in
      agree-from (set w at.restored (s.dpcs.counters.restored + 1)) (with_counters s (one_restored s.dpcs.counters)) holder active r.0 r.1 a.shape
