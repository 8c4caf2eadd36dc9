-- A dispatch with none current and none ready: the least of the times ahead, or deadlocked, or finished, by what the code's reads answer;
-- and one with a current thread.
use Prim.Native.Nat.{ℕ, ◌≤◌}
use mathlib.Core.List.{List}
use mathlib.Core.Bool.{Bool, true, false, cond}
use mathlib.Core.Option.{some}
use mathlib.Core.Path.{◌≡◌, refl, sym, ap, ◌∙◌, subst}
use mathlib.Core.Logic.{◌↔◌}
use native.Mathlib.Omega.{arith}
use borrow.Author.Tests.{eqb-true, eqb-false}
use lib.Dec.{eqb, ltb}
use lib.ListN.{length, get_or}
use Rattle.images.specs.declared.Timer.{Timer}
use Rattle.std.specs.Prelude.{is_some}
use Rattle.words.specs.Layout as at
use Rattle.words.specs.Word.{top_bit}
use Rattle.dispatcher.specs.Dispatch.{Dispatched}
use Rattle.dispatcher.specs.Dispatch as code
use Rattle.dispatcher.specs.Dispatched.{dispatched}
use Rattle.dispatcher.specs.TimerDue.{next_time}
use Rattle.form.specs.Form.{in_form}
use Rattle.call_answers.specs.Told.{told_with}
use Rattle.calls.specs.Guard.{guarded_dispatch}
use Rattle.calls.specs.Called.{called}
use Rattle.calls.specs.Run.{answered, left}
use Rattle.model.specs.Lists.{Mem}
use Rattle.model.specs.State.{State, Thread, Wait, ready}
use Rattle.model.specs.Threads.{thread_of, status_of, is_ready}
use Rattle.model.specs.Waits.{timer_at}
use Rattle.model.specs.Reads.{blank, read_refusal, read_answer}
use Rattle.model.specs.Answer.{Answer, Outcome, None, ThreadNumber, Run, AdvanceTo, Deadlocked, Finished}
use Rattle.model.specs.Call.{Call, Dispatch}
use Rattle.model.specs.Call as call
use Rattle.model.specs.Step.{step, refusal, effect}
use Rattle.model.specs.Start.{Start, Accepted}
use Rattle.model.specs.Valid.{RisingBy}
use Rattle.model.proofs.ThreadLaws.{stands-somewhere}
use Rattle.model.proofs.SoundLaws.{is-thread}
use Rattle.model.specs.Idle as idle
use Rattle.model.proofs.IdleLaws as laws
use Rattle.model.proofs.Told.{thread-told, told-thread, timer-told, told-timer, current-none-told}
use Rattle.theorem.specs.History.{Proper}
use Rattle.theorem.specs.Theorem.{logged, end}
use Rattle.corollaries.specs.Reads.{ThreadRead, TimerRead}
use Rattle.corollaries.specs.Refusals.{is_refused}
use Rattle.corollaries.specs.Idle.{NoneReady, Waits, SomeWaits, Upcoming, Idles}
use Rattle.corollaries.proofs.Next.{agree, next, valid}
use Rattle.corollaries.proofs.Refusals.{passed-by}

-- ---- a dispatch that makes no thread run leaves every word, be the words in form or not

module _ (w out : List ℕ) where
  -- an answer that makes no thread run comes with the same words
  record Stays (x : Dispatched) : Type 0 where
    same : ((i : ℕ) → told_with x.output x.answer ≡ Run i → ⊥) → x.words ≡ w

  one_of : (b : Bool) (x y : Dispatched) → Stays x → Stays y → Stays (cond b x y)
  one_of true x y h k = h
  one_of false x y h k = k

  stays : (x : Dispatched) → x.words ≡ w → Stays x
  stays x e = record { same = λ n. e }

  dispatch-stays : Stays (guarded_dispatch w out)
  unfolding guarded_dispatch dispatched code.ran
  dispatch-stays =
      one_of (in_form w) _ _
      (one_of (ltb (length out) (get_or w at.thread_limit 0)) _ _ (stays _ refl)
      (one_of (eqb (get_or w at.current 0) 0) _ _
      (one_of (eqb (top_bit (get_or w at.ready 0)) 0) _ _
      (one_of (is_some (next_time w)) _ _ (stays _ refl) (one_of (eqb (code.listed_to w) 0) _ _ (stays _ refl) (stays _ refl)))
      (record { same = λ n. absurd (n _ refl) }))
      (stays _ refl)))
      (stays _ refl)

  -- the same words
  record Same (x : Dispatched) : Type 0 where
    same : x.words ≡ w

  by-test : (b : Bool) (x y : Dispatched) → (b ≡ true → Same x) → (b ≡ false → Same y) → Same (cond b x y)
  by-test true x y h k = h refl
  by-test false x y h k = k refl

  -- so does one that finds a current thread
  current-stays : (get_or w at.current 0 ≡ 0 → ⊥) → Same (guarded_dispatch w out)
  unfolding guarded_dispatch dispatched
  current-stays n =
      by-test (in_form w) _ _
      (λ a. by-test (ltb (length out) (get_or w at.thread_limit 0)) _ _ (λ b. record { same = refl })
      (λ b. by-test (eqb (get_or w at.current 0) 0) _ _ (λ c. absurd (n (eqb-true (get_or w at.current 0) 0 c))) (λ c. record { same = refl })))
      (λ a. record { same = refl })

-- ---- what the answers are not

not-run : (R : ℕ → Thread → Type 0) (T : ℕ → Timer → Type 0) (a : Answer) → idle.Idles R T a → (i : ℕ) → a ≡ Run i → ⊥
not-run R T a (idle.advances t e u l) i q = let y : AdvanceTo t ≡ Run i = sym e ∙ q in let z : ◌≡◌ {A = ℕ} 0 1 = cc in omega arith
not-run R T a (idle.deadlocks l e x n r k o) i q = let y : Deadlocked l ≡ Run i = sym e ∙ q in let z : ◌≡◌ {A = ℕ} 0 1 = cc in omega arith
not-run R T a (idle.finishes e n) i q = let y : Finished ≡ Run i = sym e ∙ q in let z : ◌≡◌ {A = ℕ} 0 1 = cc in omega arith

-- the current thread, if `current` answers one
current-told : (s : State) (i : ℕ) → (step (call.Reads call.Current) s).answer ≡ ThreadNumber i → (s.dispatcher.current ≡ i) × (s.dispatcher.current ≡ 0 → ⊥)
unfolding step refusal effect read_refusal read_answer
current-told s i e = go (eqb s.dispatcher.current 0) refl e
  where
    go : (b : Bool) → eqb s.dispatcher.current 0 ≡ b → cond b None (ThreadNumber s.dispatcher.current) ≡ ThreadNumber i → (s.dispatcher.current ≡ i) × (s.dispatcher.current ≡ 0 → ⊥)
    go true q z = let y : ◌≡◌ {A = ℕ} 0 1 = cc in absurd (omega arith)
    go false q z = (let y : s.dispatcher.current ≡ i = cc in y, eqb-false s.dispatcher.current 0 q)

module _ (w : List ℕ) (start : Start) (calls : List Call) (accepted : Accepted (length w) start) (proper : Proper (length w) calls) where
  abbrev words : List ℕ
  words = end w start calls

  abbrev log : State
  log = logged w start calls

  reads : (r : call.Read) → answered words (call.Reads r) ≡ (step (call.Reads r) log).answer
  reads r = (next w start calls accepted proper (call.Reads r) tt tt).answers

  -- what is read is what the log has
  read-thread : (i : ℕ) (x : Thread) → ThreadRead words i x → laws.HasThread log (valid w start calls accepted proper) i x
  read-thread i x e = thread-told log i x (sym (reads (call.Thread i)) ∙ e)

  thread-read : (i : ℕ) (x : Thread) → laws.HasThread log (valid w start calls accepted proper) i x → ThreadRead words i x
  thread-read i x h = subst (ThreadRead words i) h.1 (reads (call.Thread i) ∙ told-thread log i h.0)

  read-timer : (a : ℕ) (t : Timer) → TimerRead words a t → timer_at log.dispatcher.objects a ≡ some t
  read-timer a t e = timer-told log a t (sym (reads (call.TimerAt a)) ∙ e)

  timer-read : (a : ℕ) (t : Timer) → timer_at log.dispatcher.objects a ≡ some t → TimerRead words a t
  timer-read a t e = reads (call.TimerAt a) ∙ told-timer log a t e

  -- a current thread: the dispatch answers it, and changes no word
  pub running-dispatch : (n i : ℕ) → is_refused (answered words (Dispatch n)) ≡ false → answered words (call.Reads call.Current) ≡ ThreadNumber i
      → (answered words (Dispatch n) ≡ Run i) × (left words (Dispatch n) ≡ words)
  unfolding called
  running-dispatch n i e q =
      let c = current-told log i (sym (reads call.Current) ∙ q) in (
        (next w start calls accepted proper (Dispatch n) tt tt).answers
            ∙ ap (λ (o : Outcome). o.answer) (laws.running-dispatch log (valid w start calls accepted proper) n (passed-by w start calls accepted proper (Dispatch n) tt tt e) c.1) ∙ ap Run c.0,
        (current-stays words (blank n) (λ z. c.1 (sym ((agree w start calls accepted proper).numbers at.current _ refl) ∙ z))).same,
      )

  -- none current and none ready, and the dispatch not refused
  module _ (n : ℕ) (passes : is_refused (answered words (Dispatch n)) ≡ false) (nobody : answered words (call.Reads call.Current) ≡ None) (none-ready : NoneReady words) where
    idles : Idles words (answered words (Dispatch n))
    idles =
        let v = valid w start calls accepted proper in
        subst (Idles words) (sym (next w start calls accepted proper (Dispatch n) tt tt).answers)
        (laws.idles-so (laws.HasThread log v) (ThreadRead words) (laws.HasTimer log v) (TimerRead words) thread-read read-thread timer-read read-timer (step (Dispatch n) log).answer
        (laws.idle-dispatch log v n (passed-by w start calls accepted proper (Dispatch n) tt tt passes) (current-none-told log (sym (reads call.Current) ∙ nobody)) unready).1)
      where
        unready : (i : ℕ) → status_of log.dispatcher i ≡ ready → ⊥
        unready i e =
            let k = stands-somewhere log.dispatcher.threads i is_ready refl (ap is_ready e) in
            none-ready i (thread_of log.dispatcher i) (thread-read i (thread_of log.dispatcher i) (is-thread log.dispatcher i k.0 k.1, refl)) e

    -- it answers the least of the waiting deadlines and the counted timers' dues, or deadlocked, or finished, and changes no word
    pub idle-dispatch : (Idles words (answered words (Dispatch n))) × (left words (Dispatch n) ≡ words)
    unfolding called
    idle-dispatch = (idles, (dispatch-stays words (blank n)).same (not-run (ThreadRead words) (TimerRead words) (answered words (Dispatch n)) idles))

    -- a time exactly if it is the least of those ahead
    pub advances-exactly : (time : ℕ) → (answered words (Dispatch n) ≡ AdvanceTo time) ↔ ((Upcoming words time) × ((u : ℕ) → Upcoming words u → time ≤ u))
    advances-exactly = laws.advances-exactly (ThreadRead words) (TimerRead words) (answered words (Dispatch n)) idles

    -- deadlocked exactly if some thread waits and no time is ahead ..
    pub deadlocked-exactly : ((l : List ℕ) × (answered words (Dispatch n) ≡ Deadlocked l)) ↔ ((SomeWaits words) × ((time : ℕ) → Upcoming words time → ⊥))
    deadlocked-exactly = laws.deadlocked-exactly (ThreadRead words) (TimerRead words) (answered words (Dispatch n)) idles

    -- .. with the numbers of the threads that wait, rising
    pub deadlocked-numbers : (l : List ℕ) → answered words (Dispatch n) ≡ Deadlocked l → (RisingBy (λ i. i) l) × ((i : ℕ) → Mem i l ↔ ((y : Wait) × Waits words i y))
    deadlocked-numbers = laws.deadlocked-numbers (ThreadRead words) (TimerRead words) (answered words (Dispatch n)) idles

    -- finished exactly if none waits
    pub finished-exactly : (answered words (Dispatch n) ≡ Finished) ↔ (SomeWaits words → ⊥)
    finished-exactly = laws.finished-exactly (ThreadRead words) (TimerRead words) (answered words (Dispatch n)) idles
