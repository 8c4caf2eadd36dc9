-- A thread made, and a scheduler opened: what they write stands within the words that the limits need.
use Prim.Native.Nat.{ℕ, zero, suc, ◌+◌, ◌%◌, ◌^◌, ◌≤◌, ◌<◌}
use mathlib.Core.List.{List}
use mathlib.Core.Bool.{Bool, true, false, cond}
use mathlib.Core.Path.{◌≡◌, refl, sym, ap, ◌∙◌, subst}
use native.Mathlib.Omega.{arith}
use borrow.Author.Tests.{leb-false}
use lib.Dec.{leb}
use lib.ListN.{get_or, set, length}
use Rattle.words.specs.Layout as at
use Rattle.answers.specs.declared.Answer.TheVariants as answer
use Rattle.answers.specs.Outcome.{outcome, unless}
use Rattle.threads.specs.declared.Wait as stored-wait
use Rattle.threads.specs.Thread.{put_thread, put_wait, no_wait}
use Rattle.threading.specs.Thread as words
use Rattle.opening.specs.Open as opening
use Rattle.model.specs.State.{State, Limits}
use Rattle.model.specs.Threads.{count, with_new, new_thread}
use Rattle.model.specs.Valid.{Valid}
use Rattle.model.specs.Refusal.{create_refusal, not_priority}
use Rattle.model.specs.Step.{with_dispatcher}
use Rattle.agreement_chains.specs.Chains.{Same}
use Rattle.agreement_chains.proofs.Frames.{set-outside}
use Rattle.agreement.specs.Agree.{Agree}
use Rattle.agreement.proofs.Headers.{threads-few}
use Rattle.agreement.proofs.Threads.{stored_of}
use Rattle.agreement.proofs.Waits.{wait-writes}
use Rattle.agreement.proofs.Opened.{Accepted, accepted}
use Rattle.agreement_threads.proofs.New.{no-wait-form, sim-new}
use Rattle.agreement_threads.proofs.Create.{priority-range, create-refusal}
use Rattle.agreement_past.specs.Past.{Beyond}
use Rattle.agreement_past.proofs.Kept.{unless-kept}
use Rattle.agreement_past.proofs.Steps.{placed-kept, thread-kept}
use Rattle.agreement_past.proofs.Running.{ready-last}

-- ---- the wait of a thread that the limits allow

wait-kept : (l : Limits) (w : List ℕ) (id : ℕ) → id ≤ l.threads → l.threads ≤ at.most_threads → (x : stored-wait.Wait) → x.count ≤ 64 → Same (Beyond l) w (put_wait w id x)
wait-kept l w id fit few x h j r = wait-writes w id x (omega arith) h j (λ o. omega (arith, o.here, o.has.to))

-- ---- create_thread

module _ (w : List ℕ) (s : State) (a : Agree w s) (v : Valid s) (p : ℕ) where
  abbrev id : ℕ
  id = suc (length s.dispatcher.threads)

  new-kept : 1 ≤ p → p ≤ 31 → length s.dispatcher.threads < s.limits.threads → Same (Beyond s.limits) w (words.created_thread w (suc (length s.dispatcher.threads)) p)
  unfolding words.created_thread
  new-kept one small room j r =
      placed-kept s.limits w₃ p id (omega arith) (ready-last w₃ (with_dispatcher s (with_new s.dispatcher (new_thread p))) _ _ (sim-new w s _ _ a p one small room) p one small) j r
      ∙ thread-kept s.limits w₂ id (stored_of (new_thread p)) (omega arith) a.shape.sizes.limits.threads j r
      ∙ wait-kept s.limits w₁ id (omega arith) a.shape.sizes.limits.threads no_wait no-wait-form.few j r
      ∙ set-outside (Beyond s.limits) w at.threads id (λ r. omega arith) j r
    where
      w₁ : List ℕ
      w₁ = set w at.threads (suc (length s.dispatcher.threads))

      w₂ : List ℕ
      w₂ = put_wait (set w at.threads (suc (length s.dispatcher.threads))) (suc (length s.dispatcher.threads)) no_wait

      w₃ : List ℕ
      w₃ = put_thread (put_wait (set w at.threads (suc (length s.dispatcher.threads))) (suc (length s.dispatcher.threads)) no_wait) (suc (length s.dispatcher.threads)) (stored_of (new_thread p))

  number_is : (get_or w at.threads 0 + 1) % 2 ^ 64 ≡ suc (length s.dispatcher.threads)
  number_is = ap (λ (m : ℕ). (m + 1) % 2 ^ 64) (a.numbers at.threads (length s.dispatcher.threads) refl) ∙ omega (arith, threads-few w s _ _ a)

  pub created-kept : Same (Beyond s.limits) w (words.created w p).words
  unfolding words.created
  created-kept =
      subst (λ (i : ℕ). Same (Beyond s.limits) w (unless (words.create_refusal w p) w (outcome (answer.Thread i) (words.created_thread w i p))).words) (sym number_is)
      (unless-kept (Beyond s.limits) w (words.create_refusal w p) _ (λ e. made (sym (create-refusal w s a v p) ∙ e)))
    where
      made : create_refusal s p ≡ 0 → Same (Beyond s.limits) w (words.created_thread w (suc (length s.dispatcher.threads)) p)
      made = unfold create_refusal in go (not_priority p) (leb s.limits.threads (count s.dispatcher)) refl refl
        where
          go : (b c : Bool) → not_priority p ≡ b → leb s.limits.threads (count s.dispatcher) ≡ c → ◌≡◌ {A = ℕ} (cond b 1 (cond c 4 0)) 0 → Same (Beyond s.limits) w (words.created_thread w (suc (length s.dispatcher.threads)) p)
          go true c q r e = absurd (omega arith)
          go false true q r e = absurd (omega arith)
          go false false q r e = let k = priority-range p q in new-kept k.0 k.1 (leb-false s.limits.threads (count s.dispatcher) r)

-- ---- open, of any words and by its own limits

cleared-kept : (R : ℕ → Type 0) (k : ℕ) (w : List ℕ) → ((j : ℕ) → j < k → R j → ⊥) → Same R w (opening.cleared k w)
unfolding opening.cleared
cleared-kept R zero w out j r = refl
cleared-kept R (suc k) w out j r = set-outside R (opening.cleared k w) k 0 (out k (omega arith)) j r ∙ cleared-kept R k w (λ j h. out j (omega arith)) j r

pub opened-kept : (w : List ℕ) (p t o d : ℕ) → Same (Beyond (record { threads = t; objects = o; dpcs = d })) w (opening.opened w p t o d).words
unfolding opening.opened opening.started opening.limited
opened-kept w p t o d = unless-kept R w (opening.open_refusal w p t o d) _ (λ e. made (accepted w p t o d e))
  where
    l : Limits
    l = record { threads = t; objects = o; dpcs = d }

    R : ℕ → Type 0
    R = Beyond (record { threads = t; objects = o; dpcs = d })

    w₀ : List ℕ
    w₀ = opening.cleared at.unused w

    w₁ : List ℕ
    w₁ = opening.limited (opening.cleared at.unused w) t o d

    w₂ : List ℕ
    w₂ = put_wait (opening.limited (opening.cleared at.unused w) t o d) 1 no_wait

    header-kept : Same (Beyond (record { threads = t; objects = o; dpcs = d })) (opening.cleared at.unused w) (opening.limited (opening.cleared at.unused w) t o d)
    header-kept j r =
        let x₁ = set w₀ at.thread_limit t in
        let x₂ = set x₁ at.object_limit o in
        let x₃ = set x₂ at.dpc_limit d in
        let x₄ = set x₃ at.threads 1 in
        set-outside R x₄ at.current 1 (λ r. omega arith) j r ∙ set-outside R x₃ at.threads 1 (λ r. omega arith) j r
        ∙ set-outside R x₂ at.dpc_limit d (λ r. omega arith) j r ∙ set-outside R x₁ at.object_limit o (λ r. omega arith) j r ∙ set-outside R w₀ at.thread_limit t (λ r. omega arith) j r

    made : Accepted w p t o d → Same (Beyond (record { threads = t; objects = o; dpcs = d })) w (opening.started w p t o d)
    made c j r =
        thread-kept l w₂ 1 (record { priority = p; state = 1; result = 0; status = 0 }) c.limits.some_thread c.limits.threads j r
        ∙ wait-kept l w₁ 1 c.limits.some_thread c.limits.threads no_wait no-wait-form.few j r
        ∙ header-kept j r
        ∙ cleared-kept R at.unused w (λ j h r. omega arith) j r
