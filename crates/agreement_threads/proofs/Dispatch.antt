-- Dispatch: the call on the words and on the log.
use Prim.Native.Nat.{ℕ, ◌≤◌}
use mathlib.Core.List.{List, [], ◌∷◌, ◌++◌}
use mathlib.Core.Bool.{Bool, true, false, cond}
use mathlib.Core.Option.{Option, none, some}
use mathlib.Core.Path.{◌≡◌, refl, sym, ap, ◌∙◌, subst}
use native.Mathlib.Omega.{arith}
use borrow.Author.Tests.{eq-eqb, ne_eqb, ltb-false}
use lib.ListN.{get_or, length}
use lib.Dec.{eqb, ltb}
use Rattle.std.specs.Prelude.{Some, None, is_some, unwrap_or}
use Rattle.words.specs.Layout as at
use Rattle.answers.specs.declared.Answer.TheVariants as answer
use Rattle.call_answers.specs.Told.{told_with}
use Rattle.words.specs.Word.{top_bit}
use Rattle.dispatcher.specs.Dispatch as words
use Rattle.dispatcher.specs.Dispatch.{Dispatched, listed, listed_to}
use Rattle.dispatcher.specs.Dispatched as code
use Rattle.dispatcher.specs.TimerDue.{next_time}
use Rattle.model.specs.Lists.{is_empty, largest, keep, given}
use Rattle.model.specs.State.{State}
use Rattle.model.specs.Threads.{priority_of, next, ran, waiting_numbers}
use Rattle.model.specs.Waits.{timers_of}
use Rattle.model.specs.Valid.{Valid}
use Rattle.model.specs.Refusal.{dispatch_refusal}
use Rattle.model.specs.Answer.{Outcome, gives, Run, AdvanceTo, Deadlocked, Finished}
use Rattle.model.specs.Call as call
use Rattle.model.specs.Step.{step, refusal, effect, dispatched, idle_answer, with_dispatcher, smallest, deadlines_of, dues_of, counts}
use Rattle.model.proofs.ListLaws.{not-both}
use Rattle.agreement.specs.Agree.{Agree}
use Rattle.agreement.specs.Matches.{Matches}
use Rattle.agreement.proofs.Matches.{step-refused, step-accepted}
use Rattle.agreement_threads.proofs.Listed.{listed-is, listed-none}
use Rattle.agreement_threads.proofs.Least.{Seen, due_of}
use Rattle.agreement_threads.proofs.NextTime.{next-time-is}
use Rattle.agreement_threads.proofs.Ran.{top-bit-is, top-none, agree-ran}

-- a dispatch with its output
abbrev pub Dispatches : Dispatched → Outcome → Type 0
Dispatches x m = Matches (told_with x.output x.answer) x.words m

module _ (w : List ℕ) (s : State) (a : Agree w s) (v : Valid s) (out : List ℕ) where
  abbrev top : ℕ
  top = largest (priority_of s.dispatcher) s.dispatcher.placed

  top-empty : eqb (largest (priority_of s.dispatcher) s.dispatcher.placed) 0 ≡ is_empty s.dispatcher.placed
  top-empty = go s.dispatcher.placed refl
    where
      go : (l : List ℕ) → s.dispatcher.placed ≡ l → eqb (largest (priority_of s.dispatcher) s.dispatcher.placed) 0 ≡ is_empty l
      go [] e = eq-eqb top 0 (ap (largest (priority_of s.dispatcher)) e)
      go (x ∷ xs) e = ne_eqb top 0 (λ z. absurd (not-both (ap is_empty (sym (top-none w s a z) ∙ e))))

  -- ---- none is ready

  -- none waits, or the waiting ones are listed
  stuck : s.limits.threads ≤ length out
      → Dispatches (cond (eqb (listed_to w) 0) (words.told answer.Finished w (listed w out)) (words.told (answer.Deadlocked (listed_to w)) w (listed w out)))
      (gives (cond (is_empty (waiting_numbers s.dispatcher)) Finished (Deadlocked (waiting_numbers s.dispatcher))) s)
  stuck room =
      subst (λ (b : Bool). Dispatches (cond b (words.told answer.Finished w (listed w out)) (words.told (answer.Deadlocked (listed_to w)) w (listed w out)))
      (gives (cond (is_empty (waiting_numbers s.dispatcher)) Finished (Deadlocked (waiting_numbers s.dispatcher))) s)) (sym (listed-none w s _ _ a))
      (go (is_empty (waiting_numbers s.dispatcher)))
    where
      go : (b : Bool) → Dispatches (cond b (words.told answer.Finished w (listed w out)) (words.told (answer.Deadlocked (listed_to w)) w (listed w out)))
          (gives (cond b Finished (Deadlocked (waiting_numbers s.dispatcher))) s)
      go true = record { answers = refl; agree = a }
      go false = record { answers = ap Deadlocked (listed-is w s _ _ a out room); agree = a }

  idle : s.limits.threads ≤ length out
      → Dispatches (cond (is_some (next_time w)) (words.told (answer.AdvanceTo (unwrap_or (next_time w) 0)) w out)
      (cond (eqb (listed_to w) 0) (words.told answer.Finished w (listed w out)) (words.told (answer.Deadlocked (listed_to w)) w (listed w out))))
      (gives (idle_answer s.dispatcher) s)
  unfolding idle_answer
  idle room = go (next_time w) (next-time-is w s _ _ a v.sound.standing.waiters_waiting)
    where
      times : Option ℕ
      times = smallest (deadlines_of s.dispatcher.threads ++ dues_of (keep (counts s.dispatcher) (timers_of s.dispatcher.objects)))

      go : (o : Seen) → due_of o ≡ times
          → Dispatches (cond (is_some o) (words.told (answer.AdvanceTo (unwrap_or o 0)) w out)
          (cond (eqb (listed_to w) 0) (words.told answer.Finished w (listed w out)) (words.told (answer.Deadlocked (listed_to w)) w (listed w out))))
          (gives (given times (cond (is_empty (waiting_numbers s.dispatcher)) Finished (Deadlocked (waiting_numbers s.dispatcher))) AdvanceTo) s)
      go (Some time) e = record {
        answers = ap (λ (o : Option ℕ). given o (cond (is_empty (waiting_numbers s.dispatcher)) Finished (Deadlocked (waiting_numbers s.dispatcher))) AdvanceTo) e;
        agree = a;
      }
      go None e =
          subst (λ (o : Option ℕ). Dispatches (cond (eqb (listed_to w) 0) (words.told answer.Finished w (listed w out)) (words.told (answer.Deadlocked (listed_to w)) w (listed w out)))
          (gives (given o (cond (is_empty (waiting_numbers s.dispatcher)) Finished (Deadlocked (waiting_numbers s.dispatcher))) AdvanceTo) s)) e (stuck room)

  -- ---- the call

  -- the words of the header and of the ready queues in their places
  told-by : Bool → ℕ → ℕ → Dispatched
  told-by b id p =
      cond b (words.told (answer.Refused 27) w out)
      (cond (eqb id 0)
      (cond (eqb p 0)
      (cond (is_some (next_time w)) (words.told (answer.AdvanceTo (unwrap_or (next_time w) 0)) w out)
      (cond (eqb (listed_to w) 0) (words.told answer.Finished w (listed w out)) (words.told (answer.Deadlocked (listed_to w)) w (listed w out))))
      (words.told (words.ran w p).answer (words.ran w p).words out))
      (words.told (answer.Run id) w out))

  read : code.dispatched w out ≡ told-by (ltb (length out) s.limits.threads) s.dispatcher.current top
  unfolding code.dispatched told-by
  read =
      ap (λ (n : ℕ). told-by (ltb (length out) n) (get_or w at.current 0) (top_bit (get_or w at.ready 0))) (a.numbers at.thread_limit s.limits.threads refl)
      ∙ ap (λ (n : ℕ). told-by (ltb (length out) s.limits.threads) n (top_bit (get_or w at.ready 0))) (a.numbers at.current s.dispatcher.current refl)
      ∙ ap (told-by (ltb (length out) s.limits.threads) s.dispatcher.current) (top-bit-is w s a)

  -- none is current
  resumes : s.limits.threads ≤ length out
      → Dispatches (cond (eqb (largest (priority_of s.dispatcher) s.dispatcher.placed) 0)
      (cond (is_some (next_time w)) (words.told (answer.AdvanceTo (unwrap_or (next_time w) 0)) w out)
      (cond (eqb (listed_to w) 0) (words.told answer.Finished w (listed w out)) (words.told (answer.Deadlocked (listed_to w)) w (listed w out))))
      (words.told (words.ran w (largest (priority_of s.dispatcher) s.dispatcher.placed)).answer (words.ran w (largest (priority_of s.dispatcher) s.dispatcher.placed)).words out))
      (cond (is_empty s.dispatcher.placed) (gives (idle_answer s.dispatcher) s) (gives (Run (next s.dispatcher)) (with_dispatcher s (ran s.dispatcher (next s.dispatcher)))))
  unfolding words.ran
  resumes room =
      subst (λ (b : Bool). Dispatches (cond b
      (cond (is_some (next_time w)) (words.told (answer.AdvanceTo (unwrap_or (next_time w) 0)) w out)
      (cond (eqb (listed_to w) 0) (words.told answer.Finished w (listed w out)) (words.told (answer.Deadlocked (listed_to w)) w (listed w out))))
      (words.told (words.ran w top).answer (words.ran w top).words out))
      (cond (is_empty s.dispatcher.placed) (gives (idle_answer s.dispatcher) s) (gives (Run (next s.dispatcher)) (with_dispatcher s (ran s.dispatcher (next s.dispatcher)))))) (sym top-empty)
      (go (is_empty s.dispatcher.placed) refl)
    where
      go : (b : Bool) → is_empty s.dispatcher.placed ≡ b → Dispatches (cond b
          (cond (is_some (next_time w)) (words.told (answer.AdvanceTo (unwrap_or (next_time w) 0)) w out)
          (cond (eqb (listed_to w) 0) (words.told answer.Finished w (listed w out)) (words.told (answer.Deadlocked (listed_to w)) w (listed w out))))
          (words.told (words.ran w (largest (priority_of s.dispatcher) s.dispatcher.placed)).answer (words.ran w (largest (priority_of s.dispatcher) s.dispatcher.placed)).words out))
          (cond b (gives (idle_answer s.dispatcher) s) (gives (Run (next s.dispatcher)) (with_dispatcher s (ran s.dispatcher (next s.dispatcher)))))
      go true q = idle room
      go false q = let r = agree-ran w s a v q in record { answers = r.answers; agree = r.agree }

  pub agree-dispatch : Matches (told_with (code.dispatched w out).output (code.dispatched w out).answer) (code.dispatched w out).words (step (call.Dispatch (length out)) s)
  unfolding told-by refusal effect dispatch_refusal dispatched
  agree-dispatch = subst (λ (x : Dispatched). Dispatches x (step (call.Dispatch (length out)) s)) (sym read) (go (ltb (length out) s.limits.threads) refl)
    where
      current : s.limits.threads ≤ length out → (b : Bool)
          → Dispatches (cond b
          (cond (eqb (largest (priority_of s.dispatcher) s.dispatcher.placed) 0)
          (cond (is_some (next_time w)) (words.told (answer.AdvanceTo (unwrap_or (next_time w) 0)) w out)
          (cond (eqb (listed_to w) 0) (words.told answer.Finished w (listed w out)) (words.told (answer.Deadlocked (listed_to w)) w (listed w out))))
          (words.told (words.ran w (largest (priority_of s.dispatcher) s.dispatcher.placed)).answer (words.ran w (largest (priority_of s.dispatcher) s.dispatcher.placed)).words out))
          (words.told (answer.Run s.dispatcher.current) w out))
          (cond b
          (cond (is_empty s.dispatcher.placed) (gives (idle_answer s.dispatcher) s) (gives (Run (next s.dispatcher)) (with_dispatcher s (ran s.dispatcher (next s.dispatcher)))))
          (gives (Run s.dispatcher.current) s))
      current room true = resumes room
      current room false = record { answers = refl; agree = a }

      go : (b : Bool) → ltb (length out) s.limits.threads ≡ b → Dispatches (told-by b s.dispatcher.current (largest (priority_of s.dispatcher) s.dispatcher.placed)) (step (call.Dispatch (length out)) s)
      go true q =
          subst (λ (m : Outcome). Dispatches (words.told (answer.Refused 27) w out) m)
          (sym (step-refused (call.Dispatch (length out)) s 27 (ap (λ (b : Bool). cond b 27 0) q) (λ z. omega arith))) (record { answers = refl; agree = a })
      go false q =
          subst (λ (m : Outcome). Dispatches (told-by false s.dispatcher.current top) m) (sym (step-accepted (call.Dispatch (length out)) s (ap (λ (b : Bool). cond b 27 0) q)))
          (current (ltb-false (length out) s.limits.threads q) (eqb s.dispatcher.current 0))
