-- A new thread: the call on the words and on the log.
use Prim.Native.Nat.{ℕ, suc, ◌+◌, ◌%◌, ◌^◌, ◌≤◌, ◌<◌}
use mathlib.Core.List.{List, [], ◌∷◌, ◌++◌}
use mathlib.Core.Bool.{Bool, true, false, cond}
use mathlib.Core.Path.{◌≡◌, refl, sym, ap, ◌∙◌, subst}
use native.Mathlib.Omega.{arith}
use native.Mathlib.Decide.{ℕ_discrete}
use borrow.Author.Tests.{leb-false, ltb-false, ne_eqb}
use lib.ListN.{get_or, set, length}
use lib.Dec.{eqb, leb, ltb}
use Rattle.words.specs.Layout as at
use Rattle.answers.specs.Outcome.{outcome, unless}
use Rattle.answers.specs.declared.Answer.TheVariants as answer
use Rattle.opening.specs.Open.{bad_priority}
use Rattle.threading.specs.Thread as words
use Rattle.threads.specs.Thread.{put_thread, put_wait, no_wait}
use Rattle.chains.specs.Ready.{placed_last}
use Rattle.model.specs.Lists.{Mem, without}
use Rattle.model.specs.State.{State, Dispatcher, Thread}
use Rattle.model.specs.Threads.{becomes, created, count, with_new, new_thread}
use Rattle.model.specs.Valid.{Valid}
use Rattle.model.specs.Refusal.{create_refusal, not_priority}
use Rattle.model.specs.Call as call
use Rattle.model.specs.Step.{step, refusal, effect, with_dispatcher}
use Rattle.model.proofs.ListLaws.{not-both, without-absent}
use Rattle.model.proofs.ThreadLaws.{append-new, append-length}
use Rattle.model.proofs.CreateLaws.{created-threads}
use Rattle.model.proofs.KeepLaws.{current-known}
use Rattle.agreement.specs.Agree.{Agree}
use Rattle.agreement.specs.Matches.{Plainly}
use Rattle.agreement.proofs.Headers.{threads-few}
use Rattle.agreement.proofs.Threads.{stored_of}
use Rattle.agreement.proofs.Chains.{with_placed, sim_place}
use Rattle.agreement.proofs.Matches.{plainly-unless}
use Rattle.agreement_threads.proofs.New.{sim-new}

-- a priority that is none of the refused
pub priority-range : (p : ℕ) → not_priority p ≡ false → (1 ≤ p) × (p ≤ 31)
unfolding not_priority
priority-range p = go (ltb p 1) refl
  where
    go : (b : Bool) → ltb p 1 ≡ b → cond b true (ltb 31 p) ≡ false → (1 ≤ p) × (p ≤ 31)
    go true q e = absurd (not-both e)
    go false q e = (ltb-false p 1 q, ltb-false 31 p e)

-- the thread placed last, where it stood in no list and is not current
pub created-is : (s : State) → Valid s → (p : ℕ) → (Mem (suc (count s.dispatcher)) s.dispatcher.placed → ⊥) → (Mem (suc (count s.dispatcher)) s.dispatcher.waiters → ⊥)
    → created s.dispatcher p ≡ with_placed (with_new s.dispatcher (new_thread p)) (s.dispatcher.placed ++ (suc (count s.dispatcher) ∷ []))
unfolding created becomes
created-is s v p unplaced unblocked =
    ap (λ (l : List Thread). step₁ l (cond (eqb d.current id) 0 d.current) (without id d.placed) (without id d.waiters)) (created-threads d p)
    ∙ ap (λ (b : Bool). step₁ (d.threads ++ (new_thread p ∷ [])) (cond b 0 d.current) (without id d.placed) (without id d.waiters)) (ne_eqb d.current id other)
    ∙ ap (λ (l : List ℕ). step₁ (d.threads ++ (new_thread p ∷ [])) d.current l (without id d.waiters)) (without-absent id d.placed unplaced)
    ∙ ap (λ (l : List ℕ). step₁ (d.threads ++ (new_thread p ∷ [])) d.current d.placed l) (without-absent id d.waiters unblocked)
  where
    d : Dispatcher
    d = s.dispatcher

    id : ℕ
    id = suc (count s.dispatcher)

    step₁ : List Thread → ℕ → List ℕ → List ℕ → Dispatcher
    step₁ threads current placed waiters = record { threads = threads; current = current; placed = placed ++ (id ∷ []); waiters = waiters; sequence = s.dispatcher.sequence; objects = s.dispatcher.objects }

    other : s.dispatcher.current ≡ suc (count s.dispatcher) → ⊥
    other e = go (ℕ_discrete s.dispatcher.current 0)
      where
        go : Dec (s.dispatcher.current ≡ 0) → ⊥
        go (yes z) = omega arith
        go (no z) = omega (arith, current-known s v z)

module _ (w : List ℕ) (s : State) (a : Agree w s) (v : Valid s) (p : ℕ) where
  abbrev n : ℕ
  n = length s.dispatcher.threads

  abbrev t : Thread
  t = new_thread p

  count-is : get_or w at.threads 0 ≡ length s.dispatcher.threads
  count-is = a.numbers at.threads n refl

  pub create-refusal : words.create_refusal w p ≡ create_refusal s p
  unfolding words.create_refusal create_refusal bad_priority not_priority
  create-refusal = simp (count-is, a.numbers at.thread_limit s.limits.threads refl)

  -- the next number
  number_is : (get_or w at.threads 0 + 1) % 2 ^ 64 ≡ suc (length s.dispatcher.threads)
  number_is = ap (λ (m : ℕ). (m + 1) % 2 ^ 64) count-is ∙ omega (arith, threads-few w s _ _ a)

  placed-new : 1 ≤ p → p ≤ 31 → length s.dispatcher.threads < s.limits.threads
      → Agree (words.created_thread w (suc (length s.dispatcher.threads)) p) (with_dispatcher s (with_placed (with_new s.dispatcher (new_thread p)) (s.dispatcher.placed ++ (suc (length s.dispatcher.threads) ∷ []))))
  unfolding words.created_thread
  placed-new one small room =
      subst (λ (q : ℕ). Agree (placed_last w₃ q (suc n)) after) (ap (λ (x : Thread). x.priority) (append-new s.dispatcher.threads t))
      (sim_place w₃ (with_dispatcher s (with_new s.dispatcher t)) _ _ (sim-new w s _ _ a p one small room) (suc n) (omega arith)
      (omega (arith, append-length s.dispatcher.threads t)) (λ m. omega (arith, a.shape.ready_standing.within (suc n) m)))
    where
      w₃ : List ℕ
      w₃ = put_thread (put_wait (set w at.threads (suc (length s.dispatcher.threads))) (suc (length s.dispatcher.threads)) no_wait) (suc (length s.dispatcher.threads)) (stored_of (new_thread p))

      after : State
      after = with_dispatcher s (with_placed (with_new s.dispatcher (new_thread p)) (s.dispatcher.placed ++ (suc (length s.dispatcher.threads) ∷ [])))

  agree-created : create_refusal s p ≡ 0 → Agree (words.created_thread w (suc (length s.dispatcher.threads)) p) (with_dispatcher s (created s.dispatcher p))
  unfolding create_refusal
  agree-created = go (not_priority p) (leb s.limits.threads (count s.dispatcher)) refl refl
    where
      go : (b c : Bool) → not_priority p ≡ b → leb s.limits.threads (count s.dispatcher) ≡ c → ◌≡◌ {A = ℕ} (cond b 1 (cond c 4 0)) 0
          → Agree (words.created_thread w (suc (length s.dispatcher.threads)) p) (with_dispatcher s (created s.dispatcher p))
      go true c q r e = absurd (omega arith)
      go false true q r e = absurd (omega arith)
      go false false q r e =
          let k = priority-range p q in
          subst (λ (d : Dispatcher). Agree (words.created_thread w (suc n) p) (with_dispatcher s d))
          (sym (created-is s v p (λ m. omega (arith, a.shape.ready_standing.within (suc n) m)) (λ m. omega (arith, a.shape.waiting_standing.within (suc n) m))))
          (placed-new k.0 k.1 (leb-false s.limits.threads (count s.dispatcher) r))

  pub agree-create : Plainly (words.created w p) (step (call.CreateThread p) s)
  unfolding words.created refusal effect
  agree-create =
      subst (λ (i : ℕ). Plainly (unless (words.create_refusal w p) w (outcome (answer.Thread i) (words.created_thread w i p))) (step (call.CreateThread p) s)) (sym number_is)
      (plainly-unless w s a (call.CreateThread p) (words.create_refusal w p) (outcome (answer.Thread (suc n)) (words.created_thread w (suc n) p)) create-refusal
      (λ e. record { answers = refl; agree = agree-created e }))
