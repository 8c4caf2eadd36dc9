-- An exported answer reads back: the number that a call gives and the words of its output tell its answer, so no two answers are told alike. What else a call gives is the call's.
use Prim.Native.Nat.{ℕ, zero, suc, ◌≤◌, ◌<◌}
use mathlib.Core.Bool.{Bool, true, false, cond}
use mathlib.Core.Path.{◌≡◌, refl, sym, ap, ◌∙◌}
use mathlib.Core.List.{List, [], ◌∷◌}
use native.Mathlib.Omega.{arith}
use lib.Dec.{eqb}
use lib.ListN.{length, get_or}
use borrow.Author.Tests.{eqb-true, eqb-false, lt-ltb, le-ltb}
use Rattle.images.specs.declared.Timer.{Timer}
use Rattle.images.specs.declared.Dpc.{Dpc}
use Rattle.images.specs.declared.DpcWork.{DpcWork}
use Rattle.images.specs.declared.DpcPhase.{DpcPhase}
use Rattle.images.specs.declared.DpcPhase.TheVariants as phase
use Rattle.images.specs.declared.DpcOrigin.{DpcOrigin}
use Rattle.images.specs.declared.DpcOrigin.TheVariants as origin
use Rattle.arch.specs.declared.Architecture.{Architecture}
use Rattle.arch.specs.declared.Architecture.TheVariants.{X64, X86}
use Rattle.images.specs.declared.TimerBacking.{TimerBacking}
use Rattle.images.specs.declared.TimerBacking.TheVariants.{Image, NonpagedPool}
use Rattle.images.specs.Place.{architecture_number, backing_kind, backing_base, backing_size, backing_mapped}
use Rattle.answers.specs.Outcome.{Outcome, bit}
use Rattle.answers.specs.declared.Answer.{Answer}
use Rattle.answers.specs.declared.Answer.TheVariants as answer
use Rattle.timers.specs.TimerAnswer as timer
use Rattle.dpc_reads.specs.DpcAnswer as dpc
use Rattle.dpc_reads.specs.PolicyAnswer as policy
use Rattle.dpc_reads.specs.declared.DpcCounters.{DpcCounters}
use Rattle.dpc_reads.specs.CountersAnswer as counters
use Rattle.dpc_work.specs.WorkAnswer.{WorkAnswer}
use Rattle.dpc_work.specs.WorkAnswer as work
use Rattle.dispatcher.specs.declared.read.ThreadView.{ThreadView}
use Rattle.dispatcher.specs.declared.read.Place.{Place}
use Rattle.dispatcher.specs.ThreadAnswer as thread
use Rattle.dispatcher.specs.PlaceAnswer as place
use Rattle.dpc_work.specs.Work.{Started}
use Rattle.model.specs.Call as call
use Rattle.calls.specs.Called.{called}
use Rattle.calls.specs.Images.{Imaged}
use Rattle.calls.specs.Guard.{Kind, Code, refusing}
use Rattle.calls.specs.Guard as kind
use Rattle.exports.specs.SchedulerAnswer.{tagged, valued, evented, answer_in, refusal_of, changed_by, dispatched_by}
use Rattle.exports.specs.RecordAnswer.{located_in, state_in, setting_in, timer_in, origin_in, work_in, busy_in, phase_in, dpc_in, started_in, counters_in, pair_in, wait_in, thread_in, work_refusal, work_answer_in, refusal_as, answer_as}
use Rattle.exports.specs.RecordCall.{room, read_by, started_by, imaged_by}
use Rattle.exports.specs.ReadBack.{flag_from, answer_told, architecture_from, is_architecture, backing_from, timer_from, origin_from, work_from, phase_from, dpc_from, counters_from, thread_from, place_from, told_as, read_from, started_from}

-- what is said of any `n` words and a rest holds of a list of `n` words or more
abbrev OfWords : ℕ → (List ℕ → Type 0) → Type 0
OfWords zero P = (rest : List ℕ) → P rest
OfWords (suc n) P = (x : ℕ) → OfWords n (λ (l : List ℕ). P (x ∷ l))

of_words : (n : ℕ) (P : List ℕ → Type 0) → OfWords n P → (l : List ℕ) → n ≤ length l → P l
of_words zero P f l h = f l
of_words (suc n) P f [] h = absurd (omega arith)
of_words (suc n) P f (x ∷ l) h = of_words n (λ (l : List ℕ). P (x ∷ l)) (f x) l (omega arith)

bit-back : (b : Bool) → flag_from (bit b) ≡ b
bit-back true = refl
bit-back false = refl

-- ---- records

architecture-known : (a : Architecture) → is_architecture (architecture_number a) ≡ true
architecture-known X64 = refl
architecture-known X86 = refl

architecture-back : (a : Architecture) → architecture_from (architecture_number a) ≡ a
unfolding architecture_from
architecture-back X64 = refl
architecture-back X86 = refl

backing-back : (b : TimerBacking) → backing_from (backing_kind b) (backing_base b) (backing_size b) (backing_mapped b) ≡ b
unfolding backing_from
backing-back (Image base size) = refl
backing-back (NonpagedPool base requested mapped) = refl

timer-back : (out : List ℕ) (t : Timer) → 16 ≤ length out → read_from kind.timers 0 (timer_in out t) ≡ timer.Timer t
unfolding read_from told_as timer_from timer_in setting_in state_in located_in
timer-back out t =
    of_words 16 (λ (l : List ℕ). read_from kind.timers 0 (timer_in l t) ≡ timer.Timer t)
    (λ x0 x1 x2 x3 x4 x5 x6 x7 x8 x9 x10 x11 x12 x13 x14 x15 rest. simp (architecture-known t.architecture) (λ i. timer.Timer (record {
      address = t.address;
      architecture = architecture-back t.architecture i;
      backing = backing-back t.backing i;
      manual_reset = bit-back t.manual_reset i;
      signaled = bit-back t.signaled i;
      inserted = bit-back t.inserted i;
      due = t.due;
      period_ms = t.period_ms;
      dpc = t.dpc;
      absolute = bit-back t.absolute i;
      arm_generation = t.arm_generation;
      initialization = t.initialization;
    }))) out

-- work from word 1 on, and from word 10 on of a DPC's
started-back : (out : List ℕ) (w : DpcWork) → 11 ≤ length out → started_from 0 (started_in out w) ≡ work.Work w
unfolding started_from work_from origin_from started_in work_in origin_in
started-back out w = of_words 11 (λ (l : List ℕ). started_from 0 (started_in l w) ≡ work.Work w) (by-origin w.origin) out
  where
    made : DpcOrigin → DpcWork
    made o = record { sequence = w.sequence; first = w.first; second = w.second; origin = o }

    by-origin : (o : DpcOrigin) → OfWords 11 (λ (l : List ℕ). started_from 0 (started_in l (made o)) ≡ work.Work (made o))
    by-origin origin.Caller = λ x0 x1 x2 x3 x4 x5 x6 x7 x8 x9 x10 rest. refl
    by-origin (origin.Timer address arm initialization deadline observed periodic) =
        λ x0 x1 x2 x3 x4 x5 x6 x7 x8 x9 x10 rest. λ i. work.Work (made (origin.Timer address arm initialization deadline observed (bit-back periodic i)))

module _ (n : ℕ) (w : DpcWork) where
  made : DpcOrigin → DpcWork
  made o = record { sequence = w.sequence; first = w.first; second = w.second; origin = o }

  -- behind nine words and the phase's number
  busy-back : (out : List ℕ) → 20 ≤ length out → (get_or (busy_in out n w) 9 0 ≡ n) × (work_from (busy_in out n w) 10 ≡ w)
  unfolding work_from origin_from busy_in work_in origin_in made
  busy-back = of_words 20 (λ (l : List ℕ). (get_or (busy_in l n w) 9 0 ≡ n) × (work_from (busy_in l n w) 10 ≡ w)) (by-origin w.origin)
    where
      by-origin : (o : DpcOrigin) → OfWords 20 (λ (l : List ℕ). (get_or (busy_in l n (made o)) 9 0 ≡ n) × (work_from (busy_in l n (made o)) 10 ≡ made o))
      by-origin origin.Caller = λ x0 x1 x2 x3 x4 x5 x6 x7 x8 x9 x10 x11 x12 x13 x14 x15 x16 x17 x18 x19 rest. (refl, refl)
      by-origin (origin.Timer address arm initialization deadline observed periodic) =
          λ x0 x1 x2 x3 x4 x5 x6 x7 x8 x9 x10 x11 x12 x13 x14 x15 x16 x17 x18 x19 rest. (refl, λ i. made (origin.Timer address arm initialization deadline observed (bit-back periodic i)))

phase-back : (out : List ℕ) (p : DpcPhase) → 20 ≤ length out → phase_from (phase_in out p) ≡ p
unfolding phase_from phase_in
phase-back out phase.Idle h = of_words 20 (λ (l : List ℕ). phase_from (phase_in l phase.Idle) ≡ phase.Idle) (λ x0 x1 x2 x3 x4 x5 x6 x7 x8 x9 x10 x11 x12 x13 x14 x15 x16 x17 x18 x19 rest. refl) out h
phase-back out (phase.Queued w) h = let (n, b) = busy-back 1 w out h in simp (n, b)
phase-back out (phase.Running w) h = let (n, b) = busy-back 2 w out h in simp (n, b)
phase-back out (phase.Returning w) h = let (n, b) = busy-back 3 w out h in simp (n, b)

-- a list of nine words and a rest
abbrev behind : ℕ → ℕ → ℕ → ℕ → ℕ → ℕ → ℕ → ℕ → ℕ → List ℕ → List ℕ
behind a b c d e f g h i rest = a ∷ b ∷ c ∷ d ∷ e ∷ f ∷ g ∷ h ∷ i ∷ rest

-- the nine words before a phase stay as they are
module _ (a b c d e f g h i : ℕ) (rest : List ℕ) where
  busy-keeps : (n : ℕ) (w : DpcWork) → (l : List ℕ) × (busy_in (behind a b c d e f g h i rest) n w ≡ behind a b c d e f g h i l)
  unfolding busy_in work_in origin_in
  busy-keeps n w = go w.origin
    where
      go : (o : DpcOrigin) → (l : List ℕ) × (busy_in (behind a b c d e f g h i rest) n (record { sequence = w.sequence; first = w.first; second = w.second; origin = o }) ≡ behind a b c d e f g h i l)
      go origin.Caller = (_, refl)
      go (origin.Timer address arm initialization deadline observed periodic) = (_, refl)

  phase-keeps : (p : DpcPhase) → (l : List ℕ) × (phase_in (behind a b c d e f g h i rest) p ≡ behind a b c d e f g h i l)
  unfolding phase_in
  phase-keeps phase.Idle = (_, refl)
  phase-keeps (phase.Queued w) = busy-keeps 1 w
  phase-keeps (phase.Running w) = busy-keeps 2 w
  phase-keeps (phase.Returning w) = busy-keeps 3 w

module _ (d : Dpc) (rest : List ℕ) (h : 11 ≤ length rest) where
  -- the words of a DPC before its phase
  before : List ℕ
  before = behind 15 d.address (architecture_number d.architecture) (backing_kind d.backing) (backing_base d.backing) (backing_size d.backing) (backing_mapped d.backing) d.routine d.context rest

  written_back : read_from kind.dpcs 0 (phase_in before d.phase) ≡ dpc.Dpc d
  unfolding read_from told_as dpc_from before
  written_back =
      let (l, e) = phase-keeps 15 d.address (architecture_number d.architecture) (backing_kind d.backing) (backing_base d.backing) (backing_size d.backing) (backing_mapped d.backing) d.routine d.context rest d.phase in
      let tag : get_or (phase_in before d.phase) 0 0 ≡ 15 = ap (λ (l : List ℕ). get_or l 0 0) e in
      let place : backing_from (get_or (phase_in before d.phase) 3 0) (get_or (phase_in before d.phase) 4 0) (get_or (phase_in before d.phase) 5 0) (get_or (phase_in before d.phase) 6 0) ≡ d.backing =
      ap (λ (l : List ℕ). backing_from (get_or l 3 0) (get_or l 4 0) (get_or l 5 0) (get_or l 6 0)) e ∙ backing-back d.backing in
      let width : architecture_from (get_or (phase_in before d.phase) 2 0) ≡ d.architecture = ap (λ (l : List ℕ). architecture_from (get_or l 2 0)) e ∙ architecture-back d.architecture in
      let known : is_architecture (get_or (phase_in before d.phase) 2 0) ≡ true = ap (λ (l : List ℕ). is_architecture (get_or l 2 0)) e ∙ architecture-known d.architecture in
      let told : dpc_from (phase_in before d.phase) ≡ d =
      λ i. record {
        address = get_or (e i) 1 0;
        architecture = width i;
        backing = place i;
        routine = get_or (e i) 7 0;
        context = get_or (e i) 8 0;
        phase = phase-back before d.phase (omega arith) i;
      } in
      simp (tag, known) (ap dpc.Dpc told)

dpc-back : (out : List ℕ) (d : Dpc) → 20 ≤ length out → read_from kind.dpcs 0 (dpc_in out d) ≡ dpc.Dpc d
unfolding dpc_in located_in before
dpc-back out d h =
    of_words 9 (λ (l : List ℕ). 20 ≤ length l → read_from kind.dpcs 0 (dpc_in l d) ≡ dpc.Dpc d)
    (λ x0 x1 x2 x3 x4 x5 x6 x7 x8 rest k. written_back d rest (omega arith)) out (omega arith) h

-- ---- the others

counters-back : (out : List ℕ) (n : DpcCounters) → 7 ≤ length out → read_from kind.counts 0 (counters_in out n) ≡ counters.Counters n
unfolding read_from told_as counters_from counters_in
counters-back out n = of_words 7 (λ (l : List ℕ). read_from kind.counts 0 (counters_in l n) ≡ counters.Counters n) (λ x0 x1 x2 x3 x4 x5 x6 rest. refl) out

thread-back : (out : List ℕ) (t : ThreadView) → 11 ≤ length out → read_from kind.threads 0 (thread_in out t) ≡ thread.Thread t
unfolding read_from told_as thread_from thread_in wait_in
thread-back out t = of_words 11 (λ (l : List ℕ). read_from kind.threads 0 (thread_in l t) ≡ thread.Thread t) (λ x0 x1 x2 x3 x4 x5 x6 x7 x8 x9 x10 rest. refl) out

place-back : (out : List ℕ) (p : Place) → 3 ≤ length out → read_from kind.places 0 (pair_in out 21 p.kind p.key) ≡ place.Object p
unfolding read_from told_as place_from pair_in
place-back out p = of_words 3 (λ (l : List ℕ). read_from kind.places 0 (pair_in l 21 p.kind p.key) ≡ place.Object p) (λ x0 x1 x2 rest. refl) out

policy-back : (out : List ℕ) (first second : ℕ) → 3 ≤ length out → read_from kind.policies 0 (pair_in out 18 first second) ≡ policy.Cpu0Dispatch first second
unfolding read_from told_as pair_in
policy-back out first second = of_words 3 (λ (l : List ℕ). read_from kind.policies 0 (pair_in l 18 first second) ≡ policy.Cpu0Dispatch first second) (λ x0 x1 x2 rest. refl) out

-- ---- answers without a record

module _ (out : List ℕ) (h : 4 ≤ length out) where
  -- of every answer but a refusal
  plain_back : (a : Answer) → refusal_of a ≡ 0 → (a ≡ answer.Refused 0 → ⊥) → read_from kind.plain 0 (answer_in out a) ≡ a
  unfolding read_from told_as answer_told tagged valued evented
  plain_back a z n = of_words 4 (λ (l : List ℕ). read_from kind.plain 0 (answer_in l a) ≡ a) (λ a₀ a₁ a₂ a₃ rest. go a z n a₀ a₁ a₂ a₃ rest) out h
    where
      go : (a : Answer) → refusal_of a ≡ 0 → (a ≡ answer.Refused 0 → ⊥) → OfWords 4 (λ (l : List ℕ). read_from kind.plain 0 (answer_in l a) ≡ a)
      go (answer.Refused m) z n x0 x1 x2 x3 rest = absurd (n (ap answer.Refused z))
      go answer.Done z n x0 x1 x2 x3 rest = refl
      go answer.None z n x0 x1 x2 x3 rest = refl
      go (answer.Thread m) z n x0 x1 x2 x3 rest = refl
      go (answer.Flag b) z n x0 x1 x2 x3 rest = ap answer.Flag (bit-back b)
      go (answer.Count m) z n x0 x1 x2 x3 rest = refl
      go (answer.Satisfied m) z n x0 x1 x2 x3 rest = refl
      go answer.Timeout z n x0 x1 x2 x3 rest = refl
      go answer.Blocked z n x0 x1 x2 x3 rest = refl
      go (answer.Run m) z n x0 x1 x2 x3 rest = refl
      go (answer.AdvanceTo m) z n x0 x1 x2 x3 rest = refl
      go (answer.Deadlocked m) z n x0 x1 x2 x3 rest = refl
      go answer.Finished z n x0 x1 x2 x3 rest = refl
      go (answer.Event key manual signaled) z n x0 x1 x2 x3 rest = λ i. answer.Event key (bit-back manual i) (bit-back signaled i)

-- ---- every answer

tag_back : (k : Kind) (a : Code k) (t : ℕ) → ((x : ℕ) (rest : List ℕ) → read_from k 0 (t ∷ rest) ≡ a) → (out : List ℕ) → 1 ≤ length out → read_from k 0 (tagged out t) ≡ a
unfolding tagged
tag_back k a t f = of_words 1 (λ (l : List ℕ). read_from k 0 (tagged l t) ≡ a) f

-- a call that is not refused gives 0, and what it writes is read back
accepted-back : (k : Kind) (out : List ℕ) (a : Code k) → room k ≤ length out → refusal_as k a ≡ 0 → (a ≡ refusing k 0 → ⊥) → read_from k 0 (answer_as k out a) ≡ a
unfolding read_from told_as
accepted-back kind.plain out a h z n = plain_back out h a z n
accepted-back kind.threads out (thread.Refused m) h z n = absurd (n (ap thread.Refused z))
accepted-back kind.threads out (thread.Thread t) h z n = thread-back out t (omega arith)
accepted-back kind.threads out thread.None h z n = tag_back kind.threads thread.None 2 (λ x rest. refl) out (omega arith)
accepted-back kind.places out (place.Refused m) h z n = absurd (n (ap place.Refused z))
accepted-back kind.places out (place.Object p) h z n = place-back out p (omega arith)
accepted-back kind.places out place.None h z n = tag_back kind.places place.None 2 (λ x rest. refl) out (omega arith)
accepted-back kind.timers out (timer.Refused m) h z n = absurd (n (ap timer.Refused z))
accepted-back kind.timers out timer.None h z n = tag_back kind.timers timer.None 2 (λ x rest. refl) out (omega arith)
accepted-back kind.timers out (timer.Timer t) h z n = timer-back out t (omega arith)
accepted-back kind.dpcs out (dpc.Refused m) h z n = absurd (n (ap dpc.Refused z))
accepted-back kind.dpcs out dpc.None h z n = tag_back kind.dpcs dpc.None 2 (λ x rest. refl) out (omega arith)
accepted-back kind.dpcs out (dpc.Dpc d) h z n = dpc-back out d (omega arith)
accepted-back kind.policies out (policy.Refused m) h z n = absurd (n (ap policy.Refused z))
accepted-back kind.policies out policy.Unselected h z n = tag_back kind.policies policy.Unselected 17 (λ x rest. refl) out (omega arith)
accepted-back kind.policies out (policy.Cpu0Dispatch first second) h z n = policy-back out first second (omega arith)
accepted-back kind.counts out (counters.Refused m) h z n = absurd (n (ap counters.Refused z))
accepted-back kind.counts out (counters.Counters c) h z n = counters-back out c (omega arith)

-- a number other than 0 is that of the refusal
refused-back : (k : Kind) (a : Code k) → (refusal_as k a ≡ 0 → ⊥) → refusing k (refusal_as k a) ≡ a
refused-back kind.plain a n = plain a n
  where
    plain : (a : Answer) → (refusal_of a ≡ 0 → ⊥) → answer.Refused (refusal_of a) ≡ a
    plain (answer.Refused m) n = refl
    plain answer.Done n = absurd (n refl)
    plain answer.None n = absurd (n refl)
    plain (answer.Thread m) n = absurd (n refl)
    plain (answer.Flag b) n = absurd (n refl)
    plain (answer.Count m) n = absurd (n refl)
    plain (answer.Satisfied m) n = absurd (n refl)
    plain answer.Timeout n = absurd (n refl)
    plain answer.Blocked n = absurd (n refl)
    plain (answer.Run m) n = absurd (n refl)
    plain (answer.AdvanceTo m) n = absurd (n refl)
    plain (answer.Deadlocked m) n = absurd (n refl)
    plain answer.Finished n = absurd (n refl)
    plain (answer.Event key manual signaled) n = absurd (n refl)
refused-back kind.threads (thread.Refused m) n = refl
refused-back kind.threads (thread.Thread t) n = absurd (n refl)
refused-back kind.threads thread.None n = absurd (n refl)
refused-back kind.places (place.Refused m) n = refl
refused-back kind.places (place.Object p) n = absurd (n refl)
refused-back kind.places place.None n = absurd (n refl)
refused-back kind.timers (timer.Refused m) n = refl
refused-back kind.timers timer.None n = absurd (n refl)
refused-back kind.timers (timer.Timer t) n = absurd (n refl)
refused-back kind.dpcs (dpc.Refused m) n = refl
refused-back kind.dpcs dpc.None n = absurd (n refl)
refused-back kind.dpcs (dpc.Dpc d) n = absurd (n refl)
refused-back kind.policies (policy.Refused m) n = refl
refused-back kind.policies policy.Unselected n = absurd (n refl)
refused-back kind.policies (policy.Cpu0Dispatch first second) n = absurd (n refl)
refused-back kind.counts (counters.Refused m) n = refl
refused-back kind.counts (counters.Counters c) n = absurd (n refl)

-- the number and the output that a call gives tell its answer, a refusal being by a number other than 0
pub read_back : (k : Kind) (out : List ℕ) (a : Code k) → room k ≤ length out → (a ≡ refusing k 0 → ⊥) → read_from k (refusal_as k a) (answer_as k out a) ≡ a
unfolding read_from
read_back k out a h n = go (eqb (refusal_as k a) 0) refl
  where
    go : (b : Bool) → eqb (refusal_as k a) 0 ≡ b → read_from k (refusal_as k a) (answer_as k out a) ≡ a
    go true e = let z = eqb-true (refusal_as k a) 0 e in rw z (accepted-back k out a h z n)
    go false e = rw e (refused-back k a (eqb-false (refusal_as k a) 0 e))

pub started-read-back : (out : List ℕ) (a : WorkAnswer) → 24 ≤ length out → (a ≡ work.Refused 0 → ⊥) → started_from (work_refusal a) (work_answer_in out a) ≡ a
started-read-back out (work.Work w) h n = started-back out w (omega arith)
started-read-back out (work.Refused m) h n = unfold started_from in go (eqb m 0) refl
  where
    go : (b : Bool) → eqb m 0 ≡ b → cond b (cond (eqb (get_or out 0 0) 16) (work.Work (work_from out 1)) (work.Refused 0)) (work.Refused m) ≡ work.Refused m
    go true e = absurd (n (ap work.Refused (eqb-true m 0 e)))
    go false e = refl

-- so no two answers are told alike
pub no-two-alike : (k : Kind) (out : List ℕ) (a b : Code k) → room k ≤ length out → (a ≡ refusing k 0 → ⊥) → (b ≡ refusing k 0 → ⊥)
    → refusal_as k a ≡ refusal_as k b → answer_as k out a ≡ answer_as k out b → a ≡ b
no-two-alike k out a b h m n p q = sym (read_back k out a h m) ∙ (λ i. read_from k (p i) (q i)) ∙ read_back k out b h n

-- ---- what an exported call gives

module _ (out : List ℕ) where
  pub reading-tells : (k : Kind) (w : List ℕ) (a : Code k) → room k ≤ length out → (a ≡ refusing k 0 → ⊥) → read_from k (read_by k w out a).number (read_by k w out a).output ≡ a
  unfolding read_by
  reading-tells k w a h n = simp (le-ltb (length out) (room k) h) (read_back k out a h n)

  pub changing-tells : (w : List ℕ) (o : Outcome) → 4 ≤ length out → (o.answer ≡ answer.Refused 0 → ⊥) → read_from kind.plain (changed_by w out o).number (changed_by w out o).output ≡ o.answer
  unfolding changed_by
  changing-tells w o h n = simp (le-ltb (length out) 4 h) (read_back kind.plain out o.answer h n)

  pub starting-tells : (w : List ℕ) (s : Started) → 24 ≤ length out → (s.answer ≡ work.Refused 0 → ⊥) → started_from (started_by w out s).number (started_by w out s).output ≡ s.answer
  unfolding started_by
  starting-tells w s h n = simp (le-ltb (length out) 24 h) (started-read-back out s.answer h n)

  pub imaging-tells : (bytes : List ℕ) (i : Imaged) → 4 ≤ length out → (i.answer ≡ answer.Refused 0 → ⊥) → read_from kind.plain (imaged_by bytes out i).number (imaged_by bytes out i).output ≡ i.answer
  unfolding imaged_by
  imaging-tells bytes i h n = simp (le-ltb (length out) 4 h) (read_back kind.plain out i.answer h n)

  pub dispatching-tells : (w waiting : List ℕ) → 4 ≤ length out → let d = called w (call.Dispatch (length waiting)) waiting in
      (d.answer ≡ answer.Refused 0 → ⊥) → read_from kind.plain (dispatched_by w waiting out).number (dispatched_by w waiting out).output ≡ d.answer
  unfolding dispatched_by
  dispatching-tells w waiting h n = simp (le-ltb (length out) 4 h) (read_back kind.plain out (called w (call.Dispatch (length waiting)) waiting).answer h n)

  -- a read leaves the words as they are
  pub reading-words : (k : Kind) (w : List ℕ) (a : Code k) → room k ≤ length out → (read_by k w out a).words ≡ w
  unfolding read_by
  reading-words k w a h = simp (le-ltb (length out) (room k) h)

  -- the words after a call that changes them are the call's
  pub changing-words : (w : List ℕ) (o : Outcome) → 4 ≤ length out → (changed_by w out o).words ≡ o.words
  unfolding changed_by
  changing-words w o h = simp (le-ltb (length out) 4 h)

  -- the words after `start_dpc` are the call's
  pub starting-words : (w : List ℕ) (s : Started) → 24 ≤ length out → (started_by w out s).words ≡ s.words
  unfolding started_by
  starting-words w s h = simp (le-ltb (length out) 24 h)

  -- the bytes of an image are the call's
  pub imaging-bytes : (bytes : List ℕ) (i : Imaged) → 4 ≤ length out → (imaged_by bytes out i).bytes ≡ i.output
  unfolding imaged_by
  imaging-bytes bytes i h = simp (le-ltb (length out) 4 h)

  -- the words after a dispatch, and the waiting threads' numbers, are the call's
  pub dispatching-words : (w waiting : List ℕ) → 4 ≤ length out → let d = called w (call.Dispatch (length waiting)) waiting in
      ((dispatched_by w waiting out).words ≡ d.words) × ((dispatched_by w waiting out).waiting ≡ d.output)
  unfolding dispatched_by
  dispatching-words w waiting h = simp (le-ltb (length out) 4 h) (refl, refl)

  -- ---- an output that is too short

  -- a read is refused with 27; the words and the output are as they were
  pub reading-short : (k : Kind) (w : List ℕ) (a : Code k) → length out < room k
      → ((read_by k w out a).number ≡ 27) × ((read_by k w out a).words ≡ w) × ((read_by k w out a).output ≡ out)
  unfolding read_by
  reading-short k w a h = simp (lt-ltb (length out) (room k) h) (refl, refl, refl)

  -- so is a call that changes the words
  pub changing-short : (w : List ℕ) (o : Outcome) → length out < 4
      → ((changed_by w out o).number ≡ 27) × ((changed_by w out o).words ≡ w) × ((changed_by w out o).output ≡ out)
  unfolding changed_by
  changing-short w o h = simp (lt-ltb (length out) 4 h) (refl, refl, refl)

  -- so is `start_dpc`
  pub starting-short : (w : List ℕ) (s : Started) → length out < 24
      → ((started_by w out s).number ≡ 27) × ((started_by w out s).words ≡ w) × ((started_by w out s).output ≡ out)
  unfolding started_by
  starting-short w s h = simp (lt-ltb (length out) 24 h) (refl, refl, refl)

  -- so is an image; the bytes and the output are as they were
  pub imaging-short : (bytes : List ℕ) (i : Imaged) → length out < 4
      → ((imaged_by bytes out i).number ≡ 27) × ((imaged_by bytes out i).bytes ≡ bytes) × ((imaged_by bytes out i).output ≡ out)
  unfolding imaged_by
  imaging-short bytes i h = simp (lt-ltb (length out) 4 h) (refl, refl, refl)

  -- so is a dispatch; the words, the waiting threads' numbers and the output are as they were
  pub dispatching-short : (w waiting : List ℕ) → length out < 4
      → ((dispatched_by w waiting out).number ≡ 27) × ((dispatched_by w waiting out).words ≡ w) × ((dispatched_by w waiting out).waiting ≡ waiting) × ((dispatched_by w waiting out).output ≡ out)
  unfolding dispatched_by
  dispatching-short w waiting h = simp (lt-ltb (length out) 4 h) (refl, refl, refl, refl)
