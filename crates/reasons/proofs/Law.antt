-- A line is given no reason exactly if it is read.
use mathlib.Core.Path.{◌≡◌, refl, sym, ap, ap₂, ◌∙◌}
use mathlib.Core.Bool.{Bool, cond, true, false, false≢true}
use mathlib.Core.List.{List, [], ◌∷◌}
use Prim.Native.Nat.{ℕ, ◌≤◌}
use native.Mathlib.Omega.{arith}
use native.Mathlib.Nat.{min-le_right}
use borrow.Author.Tests.{eqb-true, ltb-false}
use lib.Dec.{eqb, ltb}
use lib.ListN.{length, take, length-take}
use Rattle.std.specs.Prelude.{Option, Some, None}
use Rattle.script_lex.specs.declared.command.Command.{Command}
use Rattle.script_lex.specs.declared.command.Command.TheVariants as command
use Rattle.script_lex.specs.Names as name
use Rattle.script_lex.specs.Words.{words_of, first, others, none, same}
use Rattle.script_lex.proofs.Cases.{either}
use Rattle.script_lex.proofs.WordLaws.{words-few}
use Rattle.script_timers.specs.Clock.{advance_line, clock_line}
use Rattle.script_timers.specs.Dpc.{dpc_work_line, dpc_line}
use Rattle.script_timers.specs.Timers.{timer_memory_line, timer_line}
use Rattle.script.specs.Scheduler.{thread_line, events_line, mutex_line, short_line}
use Rattle.script.specs.Wait.{Taken, taken, wait_line}
use Rattle.script.specs.Line.{text_length, text_line, read_line}
use Rattle.reasons.specs.Read.{reads}
use Rattle.reasons.specs.Grammar.{grammar, clock_grammar}
use Rattle.reasons.specs.declared.Reason.{Reason}
use Rattle.reasons.specs.Reasons.{is_fine, form_of, form_reason, named_reason, clock_reason, words_reason, reason_of}
use Rattle.reasons.proofs.FitLaws.{bits64, bits8, bits32}
use Rattle.reasons.proofs.FormLaws.{Agree, agree, bare-line, one_line, two-line, three-line, event-line, adopt-line, set-timer-line, new_line_lem, initialize-timer-line, initialize-dpc-line, wait-line}

-- ---- lines by their names

row : {x y : Option Command} {f g : List ℕ} {p : ℕ} {us : List (List ℕ)} (t : Bool) → Agree x f p us → Agree y g p us → Agree (cond t x y) (cond t f g) p us
row true a b = a
row false a b = b

skip : {y : Option Command} {f : List ℕ} {p : ℕ} {us : List (List ℕ)} (t : Bool) (x : Option Command) → t ≡ false → Agree y f p us → Agree (cond t x y) f p us
skip true x e a = absurd (false≢true (sym e))
skip false x e a = a

nothing : (p : ℕ) (us : List (List ℕ)) → Agree None [] p us
unfolding reads is_fine form_reason
nothing p us = agree refl

pub short-lines : (w : List ℕ) (us : List (List ℕ)) (l : List ℕ) → same w name.clock ≡ false → length us ≤ length l
    → Agree (cond (same w name.wait) (wait_line us l).command (short_line (w ∷ us))) (form_of grammar w) 0 us
unfolding short_line mutex_line events_line thread_line timer_line timer_memory_line dpc_line dpc_work_line grammar form_of first others reads
short-lines w us l e h =
    row (same w name.wait) (wait-line 0 us l h)
    (row (same w name.opens) (one_line 0 us bits8 (λ n. Some (command.Open n)) (λ n. refl))
    (row (same w name.event) (event-line 0 us)
    (row (same w name.create) (one_line 0 us bits8 (λ n. Some (command.Create n)) (λ n. refl))
    (row (same w name.dispatch) (bare-line 0 us command.Dispatch)
    (row (same w name.set) (one_line 0 us bits64 (λ n. Some (command.Set n)) (λ n. refl))
    (row (same w name.yield) (bare-line 0 us command.Yield)
    (row (same w name.initialize_mutex) (one_line 0 us bits64 (λ n. Some (command.InitializeMutex n)) (λ n. refl))
    (row (same w name.adopt_mutex) (adopt-line 0 us)
    (row (same w name.mutex_owner) (one_line 0 us bits64 (λ n. Some (command.MutexOwner n)) (λ n. refl))
    (row (same w name.mutex_waiters) (one_line 0 us bits64 (λ n. Some (command.MutexWaiters n)) (λ n. refl))
    (row (same w name.release_mutex) (one_line 0 us bits64 (λ n. Some (command.ReleaseMutex n)) (λ n. refl))
    (row (same w name.reset_event) (one_line 0 us bits64 (λ n. Some (command.ResetEvent n)) (λ n. refl))
    (row (same w name.require_event_release) (three-line 0 us (λ a b d. Some (command.RequireEventRelease a b d)) (λ a b d. refl))
    (row (same w name.retire_event_backing) (three-line 0 us (λ a b d. Some (command.RetireEventBacking a b d)) (λ a b d. refl))
    (row (same w name.current) (bare-line 0 us command.Current)
    (row (same w name.priority) (two-line 0 us bits64 bits8 (λ m n. Some (command.Priority m n)) (λ m n. refl))
    (row (same w name.terminate) (one_line 0 us bits32 (λ n. Some (command.Terminate n)) (λ n. refl))
    (row (same w name.delay_until) (two-line 0 us bits64 bits8 (λ m n. Some (command.DelayUntil m n)) (λ m n. refl))
    (row (same w name.advance_to) (one_line 0 us bits64 (λ n. Some (command.AdvanceTo n)) (λ n. refl))
    (skip (same w name.clock) (clock_line us) e
    (row (same w name.initialize_timer) (initialize-timer-line 0 us)
    (row (same w name.set_timer) (set-timer-line 0 us)
    (row (same w name.cancel_timer) (one_line 0 us bits64 (λ n. Some (command.CancelTimer n)) (λ n. refl))
    (row (same w name.timer_initializations) (bare-line 0 us command.TimerInitializations)
    (row (same w name.timer_read_overlap) (two-line 0 us bits64 bits64 (λ m n. Some (command.TimerReadOverlap m n)) (λ m n. refl))
    (row (same w name.timer_metadata_overlap) (two-line 0 us bits64 bits64 (λ m n. Some (command.TimerMetadataOverlap m n)) (λ m n. refl))
    (row (same w name.require_timer_release) (two-line 0 us bits64 bits64 (λ m n. Some (command.RequireTimerRelease m n)) (λ m n. refl))
    (row (same w name.retire_timer_backing) (two-line 0 us bits64 bits64 (λ m n. Some (command.RetireTimerBacking m n)) (λ m n. refl))
    (row (same w name.initialize_dpc) (initialize-dpc-line 0 us)
    (row (same w name.dpc_initializations) (bare-line 0 us command.DpcInitializations)
    (row (same w name.configure_dpc_dispatch) (two-line 0 us bits64 bits64 (λ m n. Some (command.ConfigureDpcDispatch m n)) (λ m n. refl))
    (row (same w name.queued_dpcs) (one_line 0 us bits64 (λ n. Some (command.QueuedDpcs n)) (λ n. refl))
    (row (same w name.insert_queue_dpc) (three-line 0 us (λ a b d. Some (command.InsertQueueDpc a b d)) (λ a b d. refl))
    (row (same w name.remove_queue_dpc) (one_line 0 us bits64 (λ n. Some (command.RemoveQueueDpc n)) (λ n. refl))
    (row (same w name.start_dpc) (one_line 0 us bits64 (λ n. Some (command.StartDpc n)) (λ n. refl))
    (row (same w name.returned_dpc) (two-line 0 us bits64 bits64 (λ m n. Some (command.ReturnedDpc m n)) (λ m n. refl))
    (row (same w name.restored_dpc) (two-line 0 us bits64 bits64 (λ m n. Some (command.RestoredDpc m n)) (λ m n. refl)) (nothing 0 us))))))))))))))))))))))))))))))))))))))

pub clock-lines : (w : List ℕ) (us : List (List ℕ)) → Agree (clock_line (w ∷ us)) (form_of clock_grammar w) 1 us
unfolding clock_line advance_line clock_grammar form_of first others reads
clock-lines w us =
    row (same w name.new) (new_line_lem 1 us)
    (row (same w name.instruction) (bare-line 1 us command.ClockInstruction)
    (row (same w name.flush_cycles) (bare-line 1 us command.ClockFlushCycles)
    (row (same w name.observe) (bare-line 1 us command.ClockObserve)
    (row (same w name.qpc) (bare-line 1 us command.ClockQpc)
    (row (same w name.tick64) (bare-line 1 us command.ClockTick64)
    (row (same w name.tsc) (bare-line 1 us command.ClockTsc)
    (row (same w name.advance_microseconds) (one_line 1 us bits64 (λ n. Some (command.ClockAdvanceMicroseconds n)) (λ n. refl))
    (row (same w name.advance100ns) (one_line 1 us bits64 (λ n. Some (command.ClockAdvance100ns n)) (λ n. refl))
    (row (same w name.advance_milliseconds) (one_line 1 us bits32 (λ n. Some (command.ClockAdvanceMilliseconds n)) (λ n. refl)) (nothing 1 us))))))))))

-- ---- lines

no_words : (l : List ℕ) → reads (text_line [] l).command ≡ is_fine (words_reason [])
unfolding text_line short_line mutex_line events_line thread_line timer_line timer_memory_line dpc_line dpc_work_line words_reason none first others same reads is_fine
no_words l = refl

agreed : {c : Option Command} {f : List ℕ} {p : ℕ} {us : List (List ℕ)} → Agree c f p us → reads c ≡ is_fine (form_reason f p us)
agreed (agree e) = e

pub same-is : (a b : List ℕ) → same a b ≡ true → a ≡ b
unfolding same
same-is [] [] e = refl
same-is [] (y ∷ b) e = absurd (false≢true e)
same-is (x ∷ a) [] e = absurd (false≢true e)
same-is (x ∷ a) (y ∷ b) e =
    either (eqb x y) (λ t. ap₂ (λ (n : ℕ) (ns : List ℕ). n ∷ ns) (eqb-true x y t) (same-is a b (simp t at e))) (λ t. absurd (false≢true (simp t at e)))

clock-law : (us : List (List ℕ)) → reads (clock_line us) ≡ is_fine (clock_reason us)
unfolding clock_line advance_line clock_reason named_reason none first others same reads is_fine
clock-law [] = refl
clock-law (w ∷ us) = agreed (clock-lines w us)

clock-text : (us : List (List ℕ)) (l : List ℕ) → reads (text_line (name.clock ∷ us) l).command ≡ is_fine (words_reason (name.clock ∷ us))
unfolding text_line short_line mutex_line events_line thread_line words_reason none first others same
clock-text us l = clock-law us

command-of : (t : Bool) (a : Taken) (c : Option Command) (l : List ℕ) → (cond t a (taken c l)).command ≡ cond t a.command c
command-of true a c l = refl
command-of false a c l = refl

-- for a list that has room for the words
text-law : (ws : List (List ℕ)) (l : List ℕ) → length ws ≤ length l → reads (text_line ws l).command ≡ is_fine (words_reason ws)
unfolding text_line words_reason named_reason none first others
text-law [] l h = no_words l
text-law (w ∷ us) l h =
    either (same w name.clock) (λ e. simp (same-is w name.clock e) (clock-text us l))
    (λ e. simp e (ap reads (command-of (same w name.wait) (wait_line us l) (short_line (w ∷ us)) l) ∙ agreed (short-lines w us l e (omega arith))))

take-few : (n : ℕ) (s : List ℕ) → length (take n s) ≤ length s
take-few n s = simp length-take (min-le_right n (length s))

-- 2,048 numbers have room for every line's words
pub law : (s l : List ℕ) → 2048 ≤ length l → reads (read_line s l).command ≡ is_fine (reason_of s)
unfolding read_line reason_of reads is_fine
law s l h =
    either (ltb 4096 (length s)) (λ e. simp e)
    (λ e. let t = take (text_length s) s in simp e (text-law (words_of t) l (omega (arith, words-few t, take-few (text_length s) s, ltb-false 4096 (length s) e))))

-- ---- the same, by the values

unread : (c : Option Command) → reads c ≡ false → c ≡ None
unfolding reads
unread None q = refl
unread (Some c) q = absurd (false≢true (sym q))

fine : (r : Option Reason) → is_fine r ≡ true → r ≡ None
unfolding is_fine
fine None e = refl
fine (Some r) e = absurd (false≢true e)

-- no line that is read is given a reason
pub read-fine : (s l : List ℕ) → 2048 ≤ length l → ((read_line s l).command ≡ None → ⊥) → reason_of s ≡ None
read-fine s l h n =
    either (reads (read_line s l).command) (λ e. fine (reason_of s) (sym (law s l h) ∙ e)) (λ e. absurd (n (unread (read_line s l).command e)))

-- no line that cannot be read goes without
pub unread-reason : (s l : List ℕ) → 2048 ≤ length l → (read_line s l).command ≡ None → reason_of s ≡ None → ⊥
unfolding reads is_fine
unread-reason s l h u f = false≢true (sym (ap reads u) ∙ law s l h ∙ ap is_fine f)
