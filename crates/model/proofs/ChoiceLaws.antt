-- With none current and some placed, dispatch runs the right thread.
use Prim.Native.Nat.{ℕ, ◌≤◌}
use mathlib.Core.List.{List, [], ◌∷◌}
use mathlib.Core.Bool.{Bool, true, false, cond}
use mathlib.Core.Path.{◌≡◌, refl, sym, ap, ◌∙◌}
use mathlib.Core.Logic.{◌⊎◌, inl, inr, ⊎_elim}
use native.Mathlib.Omega.{arith}
use borrow.Author.Tests.{eq-eqb, le-ltb}
use lib.Dec.{eqb, ltb}
use Rattle.model.specs.Lists.{Mem, Before, keep, first, largest, is_empty}
use Rattle.model.specs.State.{State}
use Rattle.model.specs.Threads.{priority_of, status_of, next, ran}
use Rattle.model.specs.Answer.{Answer, gives, Run, Refused}
use Rattle.model.specs.Call.{Dispatch}
use Rattle.model.specs.Refusal.{dispatch_refusal}
use Rattle.model.specs.Step.{step, refusal, effect, dispatched, idle_answer, with_dispatcher}
use Rattle.model.specs.Choice.{Right}
use Rattle.model.specs.Valid.{Valid}
use Rattle.model.proofs.ListLaws.{not-both, largest-above, mem-member}
use Rattle.model.proofs.KeepLaws.{next-placed, ready-only}

-- the first that passes a test stands before every other that passes it
first-earliest : (f : ℕ → Bool) (l : List ℕ) (i : ℕ) → Mem i l → f i ≡ true → (i ≡ first (keep f l)) ⊎ Before (first (keep f l)) i l
first-earliest f [] i m t = absurd m
first-earliest f (x ∷ xs) i m t = go (f x) refl (λ a. first-earliest f xs i a t) m
  where
    go : (b : Bool) → f x ≡ b → (Mem i xs → (i ≡ first (keep f xs)) ⊎ Before (first (keep f xs)) i xs) → (i ≡ x) ⊎ Mem i xs
        → (i ≡ first (cond b (x ∷ keep f xs) (keep f xs))) ⊎ Before (first (cond b (x ∷ keep f xs) (keep f xs))) i (x ∷ xs)
    go true e ih (inl q) = inl q
    go true e ih (inr a) = inr (inl (refl, a))
    go false e ih (inl q) = absurd (not-both (sym t ∙ ap f q ∙ e))
    go false e ih (inr a) = ⊎_elim (λ (q : i ≡ first (keep f xs)). inl q) (λ (b : Before (first (keep f xs)) i xs). inr (inr b)) (ih a)

module _ (s : State) (v : Valid s) (some : is_empty s.dispatcher.placed ≡ false) where
  pub right-next : Right s.dispatcher (next s.dispatcher)
  right-next =
      let d = s.dispatcher in
      let n = next-placed s v some in
      let top = largest (priority_of d) d.placed in
      record {
        placed = n.0;
        is-ready = ready-only (status_of d (next d)) (sym (v.sound.standing.placed_ready (next d)) ∙ mem-member (next d) d.placed n.0);
        highest = λ i m. omega (arith, largest-above (priority_of d) i d.placed m, n.1);
        earliest = λ i m e. first-earliest (λ y. eqb (priority_of d y) top) d.placed i m (eq-eqb (priority_of d i) top (e ∙ n.1));
      }

  -- the answer of the call, with an output that is long enough
  pub dispatch-right : (out : ℕ) → s.limits.threads ≤ out → s.dispatcher.current ≡ 0 → (t : ℕ) × ((step (Dispatch out) s).answer ≡ Run t) × Right s.dispatcher t
  unfolding step refusal effect dispatch_refusal dispatched
  dispatch-right out h z = (next s.dispatcher, answered, right-next)
    where
      run : State → Bool → Bool → Bool → Answer
      run s' a b c = (cond (eqb (cond a 27 0) 0) (cond b (cond c (gives (idle_answer s.dispatcher) s) (gives (Run (next s.dispatcher)) s')) (gives (Run s.dispatcher.current) s)) (gives (Refused (cond a 27 0)) s)).answer

      answered : run (with_dispatcher s (ran s.dispatcher (next s.dispatcher))) (ltb out s.limits.threads) (eqb s.dispatcher.current 0) (is_empty s.dispatcher.placed) ≡ Run (next s.dispatcher)
      answered = go (ltb out s.limits.threads) (eqb s.dispatcher.current 0) (is_empty s.dispatcher.placed) (le-ltb out s.limits.threads h) (eq-eqb s.dispatcher.current 0 z) some
        where
          go : (a b c : Bool) → a ≡ false → b ≡ true → c ≡ false → run (with_dispatcher s (ran s.dispatcher (next s.dispatcher))) a b c ≡ Run (next s.dispatcher)
          go true b c p q r = absurd (not-both p)
          go false true true p q r = absurd (not-both r)
          go false true false p q r = refl
          go false false c p q r = absurd (not-both (sym q))
