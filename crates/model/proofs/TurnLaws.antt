-- Of two ready threads of one priority the one that became ready by the earlier call, or earlier within one call, is dispatched first.
use Prim.Native.Nat.{ℕ, ◌<◌}
use mathlib.Core.List.{List, [], ◌∷◌}
use mathlib.Core.Bool.{Bool, true, false, cond}
use mathlib.Core.Option.{Option, none, some}
use mathlib.Core.Path.{◌≡◌, refl, sym, ap, ◌∙◌, subst}
use mathlib.Core.Logic.{◌⊎◌, inl, inr, ⊎_elim}
use native.Mathlib.Omega.{arith}
use native.Mathlib.Decide.{ℕ_discrete, dec_lt}
use borrow.Author.Tests.{eqb-false}
use lib.Dec.{eqb, ltb}
use Rattle.model.specs.Lists.{Mem, Before, Distinct, member, is_empty}
use Rattle.model.specs.State.{State, Dispatcher, Thread, Status, running, ready, waiting, exited, Wait, WaitResult, satisfied, timeout}
use Rattle.model.specs.Threads.{thread_of, status_of, priority_of, is_ready, is_waiting, is_running, wait_of, with_thread, with_priority, placed_as, becomes, prioritized, next, ran}
use Rattle.model.specs.Waits.{wake, reached, is_overdue, time_out}
use Rattle.model.specs.Call.{Call, Priority, Dispatch}
use Rattle.model.specs.Answer.{Outcome, gives, Run, Refused}
use Rattle.model.specs.Refusal.{dispatch_refusal}
use Rattle.model.specs.Choice.{Right}
use Rattle.model.specs.Step.{step, refusal, effect, after, dispatched, idle_answer, with_dispatcher}
use Rattle.model.specs.Valid.{Valid, Standing, sequence_at}
use Rattle.model.proofs.ListLaws.{not-both, member-mem, mem-member, member-not, rising-distinct}
use Rattle.model.proofs.ThreadLaws.{change-other}
use Rattle.model.proofs.StepLaws.{valid-step, valid-after}
use Rattle.model.proofs.KeepLaws.{ready-only, current-known}
use Rattle.model.proofs.ChoiceLaws.{right-next}
use Rattle.model.proofs.WdkLaws.{step_is}
use Rattle.model.specs.Turns.{IsReady, Prioritizes, Places, StaysReady, EarlierWithin, wakes-first, by_sequence, by_number, Together}
use Rattle.model.proofs.AheadLaws.{Ahead, ahead_before, before-left, before-once, Keeps, keeps_same, keeps_on, keeps_placed, ahead-placed}
use Rattle.model.proofs.NumberLaws.{number-passes, numbers-rise, lesser-first, same_once}
use Rattle.model.proofs.VisitLaws.{Asleep, Fate, sleeps, wakes, WasSatisfied, HasTimedOut, wake-others, wake-fate, wake-ahead, late, timeout-others, timeout-fate, timeout-ahead}
use Rattle.model.proofs.ChangeLaws.{Prepared, Change, still, one, none-ready, woke, moved_on, step-changes}

-- ---- small things

-- a satisfied wait did not time out
ended-once : (r : Option WaitResult) (k : ℕ) → r ≡ some (satisfied k) → r ≡ some timeout → ⊥
ended-once r k p q = not-both (ap was (sym p ∙ q))
  where
    was : Option WaitResult → Bool
    was none = true
    was (some (satisfied i)) = true
    was (some timeout) = false

not-ready-waits : (x : Status) → is_waiting x ≡ true → x ≡ ready → ⊥
not-ready-waits x w r = not-both (sym w ∙ ap is_waiting r)

-- a ready thread has no deadline
ready-in-time : (now : ℕ) (d : Dispatcher) (i : ℕ) → status_of d i ≡ ready → Mem i (late now d) → ⊥
ready-in-time now d i r m = not-both (sym (number-passes (is_overdue now) d.threads i m).2 ∙ ap (λ (x : Status). reached (wait_of x).deadline now) r)

-- who is overdue waits
overdue-waits : (now : ℕ) (x : Status) → reached (wait_of x).deadline now ≡ true → is_waiting x ≡ true
overdue-waits now running e = absurd (not-both (sym e))
overdue-waits now ready e = absurd (not-both (sym e))
overdue-waits now (waiting w) e = refl
overdue-waits now (exited n) e = absurd (not-both (sym e))

module _ (d : Dispatcher) (st : Standing d.threads d.placed d.waiters d.current d.sequence) where
  ready-unwaiting : (i : ℕ) → status_of d i ≡ ready → Mem i d.waiters → ⊥
  ready-unwaiting i r = member-not i d.waiters (st.waiters_waiting i ∙ ap is_waiting r)

  asleep : (i : ℕ) → is_waiting (status_of d i) ≡ true → Asleep d i
  asleep i w = record { waits = w; unplaced = member-not i d.placed (st.placed_ready i ∙ unready (status_of d i) w) }
    where
      unready : (x : Status) → is_waiting x ≡ true → is_ready x ≡ false
      unready running e = refl
      unready ready e = absurd (not-both (sym e))
      unready (waiting y) e = refl
      unready (exited n) e = refl

  waiter : (i : ℕ) → is_waiting (status_of d i) ≡ true → Mem i d.waiters
  waiter i w = member-mem i d.waiters (st.waiters_waiting i ∙ w)

  waiters-asleep : (i : ℕ) → Mem i d.waiters → Asleep d i
  waiters-asleep i m = asleep i (sym (st.waiters_waiting i) ∙ mem-member i d.waiters m)

  waiters-distinct : Distinct d.waiters
  waiters-distinct = rising-distinct (sequence_at d.threads) d.waiters st.waiters_rising

  -- of two that the pass wakes the one that waits longer is ahead
  longer-ahead : (i j : ℕ) → is_waiting (status_of d i) ≡ true → is_waiting (status_of d j) ≡ true → sequence_at d.threads i < sequence_at d.threads j → status_of (wake d) i ≡ ready → Ahead i j (wake d).placed
  longer-ahead i j a b h r = wake-ahead d waiters-distinct waiters-asleep i j (lesser-first (sequence_at d.threads) d.waiters st.waiters_rising i j (waiter i a) (waiter j b) h) r

-- ---- one call: who stays ready keeps its place

module _ (s : State) (v : Valid s) (c : Call) where
  abbrev d₀ : Dispatcher
  d₀ = s.dispatcher

  abbrev d₂ : Dispatcher
  d₂ = (step c s).state.dispatcher

  v₂ : Valid (step c s).state
  v₂ = valid-step s v c

  ready-placed : (i : ℕ) → status_of d₀ i ≡ ready → Mem i d₀.placed
  ready-placed i r = member-mem i d₀.placed (v.sound.standing.placed_ready i ∙ ap is_ready r)

  unready-unplaced : (i : ℕ) → (status_of d₀ i ≡ ready → ⊥) → Mem i d₀.placed → ⊥
  unready-unplaced i n m = n (ready-only (status_of d₀ i) (sym (v.sound.standing.placed_ready i) ∙ mem-member i d₀.placed m))

  stays-keeps : (i : ℕ) → status_of d₀ i ≡ ready → status_of d₂ i ≡ ready → (Prioritizes c s i → ⊥) → Keeps i d₀.placed d₂.placed
  stays-keeps i r q n = go (step-changes s v c)
    where
      unrun : is_running (status_of d₀ i) ≡ false
      unrun = ap is_running r

      passed : (d₁ : Dispatcher) → Prepared d₀ d₁ → (status_of (wake d₁) i ≡ ready) × Keeps i d₀.placed (wake d₁).placed
      passed d₁ b =
          let e : status_of d₁ i ≡ ready = b.same i unrun ∙ r in
          let o = wake-others d₁ i (ready-unwaiting d₁ b.standing i e) in
          (ap (λ (t : Thread). t.status) o.thread ∙ e, keeps_on i d₀.placed d₁.placed (wake d₁).placed (b.keeps i unrun) o.keeps)

      go : Change c s d₂ → Keeps i d₀.placed d₂.placed
      go (still t p) = keeps_same i d₀.placed d₂.placed p
      go (one id x t p own w) = elim (ℕ_discrete i id) [
        | yes e ↦ absurd (n (subst (Prioritizes c s) (sym e) (own (subst (λ (j : ℕ). status_of d₀ j ≡ ready) e r) (subst (λ (j : ℕ). status_of d₂ j ≡ ready) e q))))
        | no u ↦ subst (Keeps i d₀.placed) (sym p) (keeps_placed i id d₀.placed u x)
      ]
      go (none-ready u) = absurd (u i q)
      go (woke d₁ b e) = subst (λ (d : Dispatcher). Keeps i d₀.placed d.placed) (sym e) (passed d₁ b).1
      go (moved_on d₁ time b e) =
          let h = passed d₁ b in
          let o = timeout-others time (wake d₁) i (ready-in-time time (wake d₁) i h.0) in
          subst (λ (d : Dispatcher). Keeps i d₀.placed d.placed) (sym e) (keeps_on i d₀.placed (wake d₁).placed (time_out time (wake d₁)).placed h.1 o.keeps)

  -- ---- one call: whom it places goes behind those that stay ready

  priority-last : (j p : ℕ) → c ≡ Priority j p → refusal c s ≡ 0 → is_ready (status_of d₀ j) ≡ true → d₂.placed ≡ placed_as ready j d₀.placed
  unfolding effect prioritized becomes
  priority-last j p q e r =
      let t = with_priority (thread_of d₀ j) p in
      ap (λ (o : Outcome). o.state.dispatcher.placed) (step_is c s e ∙ ap (λ (x : Call). effect x s) q)
      ∙ ap (λ (b : Bool). (cond b (becomes d₀ j t) (with_thread d₀ j t)).placed) r
      ∙ ap (λ (x : Status). placed_as x j d₀.placed) (ready-only (status_of d₀ j) r)

  placed-behind : (i j : ℕ) → status_of d₀ i ≡ ready → status_of d₂ i ≡ ready → (Prioritizes c s i → ⊥) → Places c s j → Ahead i j d₂.placed
  placed-behind i j r q n h = ⊎_elim newly given-priority h.newly
    where
      newly : (IsReady s j → ⊥) → Ahead i j d₂.placed
      newly u = (stays-keeps i r q n).ahead j (ready-placed i r) (inr (unready-unplaced j u))

      given-priority : Prioritizes c s j → Ahead i j d₂.placed
      given-priority z = go (is_ready (status_of d₀ j)) refl
        where
          apart : i ≡ j → ⊥
          apart e = n (subst (Prioritizes c s) (sym e) z)

          go : (b : Bool) → is_ready (status_of d₀ j) ≡ b → Ahead i j d₂.placed
          go true e = subst (Ahead i j) (sym (priority-last j z.0 z.1 z.2 e)) (inl (ahead-placed i j d₀.placed apart (ready-placed i r)))
          go false e = newly (λ k. not-both (sym (ap is_ready k) ∙ e))

  -- ---- one call that makes two ready

  -- a thread that waits, through a wake pass and the timeouts after it
  data Stage (w d : Dispatcher) (k : ℕ) : Type 0 where
    early : status_of w k ≡ ready → WasSatisfied (thread_of d k) → Mem k w.placed → Stage w d k
    later : Asleep w k → HasTimedOut (thread_of d k) → Stage w d k

  module _ (d₁ : Dispatcher) (b : Prepared d₀ d₁) where
    waits-on : (k : ℕ) (x : Wait) → status_of d₀ k ≡ waiting x → status_of d₁ k ≡ waiting x
    waits-on k x e = b.same k (ap is_running e) ∙ e

    sleeper : (k : ℕ) (x : Wait) → status_of d₀ k ≡ waiting x → Asleep d₁ k
    sleeper k x e = asleep d₁ b.standing k (ap is_waiting (waits-on k x e))

    got : (k : ℕ) (x : Wait) → status_of d₀ k ≡ waiting x → status_of (wake d₁) k ≡ ready → (WasSatisfied (thread_of (wake d₁) k)) × Mem k (wake d₁).placed
    got k x e r = go (wake-fate d₁ k (waiters-distinct d₁ b.standing) (sleeper k x e))
      where
        go : Fate WasSatisfied d₁ (wake d₁) k → (WasSatisfied (thread_of (wake d₁) k)) × Mem k (wake d₁).placed
        go (sleeps t u) = absurd (not-ready-waits (status_of (wake d₁) k) (ap (λ (y : Thread). is_waiting y.status) t ∙ (sleeper k x e).waits) r)
        go (wakes q p m) = (p, m)

    longer : (i j : ℕ) (x y : Wait) → status_of d₀ i ≡ waiting x → status_of d₀ j ≡ waiting y → x.sequence < y.sequence → status_of (wake d₁) i ≡ ready → Ahead i j (wake d₁).placed
    longer i j x y p q h r =
        let a = waits-on i x p in
        let z = waits-on j y q in
        longer-ahead d₁ b.standing i j (ap is_waiting a) (ap is_waiting z)
        (omega (arith, h, ap (λ (u : Status). (wait_of u).sequence) a, ap (λ (u : Status). (wait_of u).sequence) z)) r

    -- who is late after the pass waits, and is not placed
    late-asleep : (time k : ℕ) → Mem k (late time (wake d₁)) → Asleep (wake d₁) k
    late-asleep time k m = go (member k d₁.waiters) refl
      where
        w : is_waiting (status_of (wake d₁) k) ≡ true
        w = overdue-waits time (status_of (wake d₁) k) (number-passes (is_overdue time) (wake d₁).threads k m).2

        fated : Fate WasSatisfied d₁ (wake d₁) k → Asleep (wake d₁) k
        fated (sleeps t u) = record { waits = w; unplaced = u }
        fated (wakes q p n) = absurd (not-ready-waits (status_of (wake d₁) k) w q)

        go : (t : Bool) → member k d₁.waiters ≡ t → Asleep (wake d₁) k
        go true e = fated (wake-fate d₁ k (waiters-distinct d₁ b.standing) (waiters-asleep d₁ b.standing k (member-mem k d₁.waiters e)))
        go false e = absurd (not-both (sym w ∙ ap (λ (y : Thread). is_waiting y.status) (wake-others d₁ k (member-not k d₁.waiters e)).thread ∙ sym (b.standing.waiters_waiting k) ∙ e))

    module _ (time : ℕ) where
      abbrev w₁ : Dispatcher
      w₁ = wake d₁

      abbrev w₂ : Dispatcher
      w₂ = time_out time w₁

      stage : (k : ℕ) (x : Wait) → status_of d₀ k ≡ waiting x → status_of w₂ k ≡ ready → Stage w₁ w₂ k
      stage k x e r = go (wake-fate d₁ k (waiters-distinct d₁ b.standing) (sleeper k x e))
        where
          timed : Fate HasTimedOut w₁ w₂ k → Asleep w₁ k → Stage w₁ w₂ k
          timed (sleeps t u) a = absurd (not-ready-waits (status_of w₂ k) (ap (λ (y : Thread). is_waiting y.status) t ∙ a.waits) r)
          timed (wakes q p m) a = later a p

          go : Fate WasSatisfied d₁ w₁ k → Stage w₁ w₂ k
          go (sleeps t u) =
              let a : Asleep w₁ k = record { waits = ap (λ (y : Thread). is_waiting y.status) t ∙ (sleeper k x e).waits; unplaced = u } in
              timed (timeout-fate time w₁ k a) a
          go (wakes q p m) = early q (subst WasSatisfied (sym (timeout-others time w₁ k (ready-in-time time w₁ k q)).thread) p) m

      is-late : (k : ℕ) → Asleep w₁ k → status_of w₂ k ≡ ready → Mem k (late time w₁)
      is-late k a r = go (member k (late time w₁)) refl
        where
          go : (t : Bool) → member k (late time w₁) ≡ t → Mem k (late time w₁)
          go true e = member-mem k (late time w₁) e
          go false e = absurd (not-ready-waits (status_of w₂ k) (ap (λ (y : Thread). is_waiting y.status) (timeout-others time w₁ k (member-not k (late time w₁) e)).thread ∙ a.waits) r)

      through : (i j : ℕ) → status_of w₁ i ≡ ready → Mem i w₁.placed → Ahead i j w₁.placed → Ahead i j w₂.placed
      through i j r m a = (timeout-others time w₁ i (ready-in-time time w₁ i r)).keeps.ahead j m a

  together-ahead : (i j : ℕ) → Together c s i j → Ahead i j d₂.placed
  together-ahead i j h = go (step-changes s v c)
    where
      stuck : status_of d₂ i ≡ status_of d₀ i → Ahead i j d₂.placed
      stuck e = absurd (not-ready-waits (status_of d₂ i) (ap is_waiting (e ∙ h.first_waits)) h.first_ready)

      by-pass : (d₁ : Dispatcher) → Prepared d₀ d₁ → status_of (wake d₁) i ≡ ready → status_of (wake d₁) j ≡ ready
          → EarlierWithin i j h.first h.second (thread_of (wake d₁) i) (thread_of (wake d₁) j) → Ahead i j (wake d₁).placed
      by-pass d₁ b p q (wakes-first k x y) = let g = got d₁ b j h.second h.second_waits q in absurd (ended-once (thread_of (wake d₁) j).result g.0.0 g.0.1 y)
      by-pass d₁ b p q (by_sequence k l x y z) = longer d₁ b i j h.first h.second h.first_waits h.second_waits z p
      by-pass d₁ b p q (by_number x y z) = let g = got d₁ b i h.first h.first_waits p in absurd (ended-once (thread_of (wake d₁) i).result g.0.0 g.0.1 x)

      by-time : (d₁ : Dispatcher) (time : ℕ) → Prepared d₀ d₁
          → let d = time_out time (wake d₁) in status_of d i ≡ ready → status_of d j ≡ ready
          → EarlierWithin i j h.first h.second (thread_of d i) (thread_of d j) → Stage (wake d₁) d i → Stage (wake d₁) d j → Ahead i j d.placed
      by-time d₁ time b p q (wakes-first k x y) (early r e m) (later a o) = through d₁ b time i j r m (inr a.unplaced)
      by-time d₁ time b p q (wakes-first k x y) (later a o) g = absurd (ended-once (thread_of (time_out time (wake d₁)) i).result k x o)
      by-time d₁ time b p q (wakes-first k x y) (early r e m) (early r' e' m') = absurd (ended-once (thread_of (time_out time (wake d₁)) j).result e'.0 e'.1 y)
      by-time d₁ time b p q (by_sequence k l x y z) (early r e m) g = through d₁ b time i j r m (longer d₁ b i j h.first h.second h.first_waits h.second_waits z r)
      by-time d₁ time b p q (by_sequence k l x y z) (later a o) g = absurd (ended-once (thread_of (time_out time (wake d₁)) i).result k x o)
      by-time d₁ time b p q (by_number x y z) (early r e m) g = absurd (ended-once (thread_of (time_out time (wake d₁)) i).result e.0 e.1 x)
      by-time d₁ time b p q (by_number x y z) (later a o) (early r e m) = absurd (ended-once (thread_of (time_out time (wake d₁)) j).result e.0 e.1 y)
      by-time d₁ time b p q (by_number x y z) (later a o) (later a' o') =
          timeout-ahead time (wake d₁) (late-asleep d₁ b time) i j
          (lesser-first (λ n. n) (late time (wake d₁)) (numbers-rise (is_overdue time) (wake d₁).threads) i j (is-late d₁ b time i a p) (is-late d₁ b time j a' q) z) p

      go : Change c s d₂ → Ahead i j d₂.placed
      go (still t p) = stuck (t i)
      go (one id x t p own w) = elim (ℕ_discrete i id) [
        | yes e ↦ absurd (not-both (sym (ap is_waiting h.first_waits) ∙ ap (λ (k : ℕ). is_waiting (status_of d₀ k)) e ∙ w))
        | no u ↦ stuck (t i u)
      ]
      go (none-ready u) = absurd (u i h.first_ready)
      go (woke d₁ b e) =
          subst (λ (d : Dispatcher). status_of d i ≡ ready → status_of d j ≡ ready → EarlierWithin i j h.first h.second (thread_of d i) (thread_of d j) → Ahead i j d.placed) (sym e) (by-pass d₁ b)
          h.first_ready h.second_ready h.earlier
      go (moved_on d₁ time b e) =
          subst (λ (d : Dispatcher). status_of d i ≡ ready → status_of d j ≡ ready → EarlierWithin i j h.first h.second (thread_of d i) (thread_of d j) → Ahead i j d.placed) (sym e)
          (λ p q z. by-time d₁ time b p q z (stage d₁ b time i h.first h.first_waits p) (stage d₁ b time j h.second h.second_waits q))
          h.first_ready h.second_ready h.earlier

  -- ---- and whom else one call makes ready: of two that it places one is earlier

  -- how a thread came to be ready: it waited, and its wait ended; or it alone changed
  data Came (i : ℕ) : Type 0 where
    waited : (y : Wait) → status_of d₀ i ≡ waiting y → (WasSatisfied (thread_of d₂ i)) ⊎ HasTimedOut (thread_of d₂ i) → Came i
    alone : ((j : ℕ) → (j ≡ i → ⊥) → status_of d₂ j ≡ status_of d₀ j) → Came i

  -- who waits before a wake pass waited before the call
  waits_back : (d₁ : Dispatcher) → Prepared d₀ d₁ → (i : ℕ) → is_waiting (status_of d₁ i) ≡ true → (y : Wait) × (status_of d₀ i ≡ waiting y)
  waits_back d₁ b i e = go (is_running (status_of d₀ i)) refl
    where
      is : (x : Status) → is_waiting x ≡ true → (y : Wait) × (x ≡ waiting y)
      is running q = absurd (not-both (sym q))
      is ready q = absurd (not-both (sym q))
      is (waiting y) q = (y, refl)
      is (exited n) q = absurd (not-both (sym q))

      go : (t : Bool) → is_running (status_of d₀ i) ≡ t → (y : Wait) × (status_of d₀ i ≡ waiting y)
      go true r = absurd (not-both (sym e ∙ (b.running-not i r).1))
      go false r = is (status_of d₀ i) (ap is_waiting (sym (b.same i r)) ∙ e)

  -- who is ready before a wake pass was ready before the call
  ready-back : (d₁ : Dispatcher) → Prepared d₀ d₁ → (i : ℕ) → status_of d₁ i ≡ ready → status_of d₀ i ≡ ready
  ready-back d₁ b i e = go (is_running (status_of d₀ i)) refl
    where
      go : (t : Bool) → is_running (status_of d₀ i) ≡ t → status_of d₀ i ≡ ready
      go true r = absurd (not-both (sym (ap is_ready e) ∙ (b.running-not i r).0))
      go false r = sym (b.same i r) ∙ e

  came : (i : ℕ) → (IsReady s i → ⊥) → status_of d₂ i ≡ ready → Came i
  came i n r = go (step-changes s v c)
    where
      by-pass : (d₁ : Dispatcher) → Prepared d₀ d₁ → d₂ ≡ wake d₁ → (t : Bool) → member i d₁.waiters ≡ t → Came i
      by-pass d₁ b e true q =
          let y = waits_back d₁ b i (sym (b.standing.waiters_waiting i) ∙ q) in
          waited y.0 y.1 (inl (subst (λ (d : Dispatcher). WasSatisfied (thread_of d i)) (sym e) (got d₁ b i y.0 y.1 (subst (λ (d : Dispatcher). status_of d i ≡ ready) e r)).0))
      by-pass d₁ b e false q =
          absurd (n (ready-back d₁ b i (ap (λ (t : Thread). t.status) (sym (wake-others d₁ i (member-not i d₁.waiters q)).thread) ∙ subst (λ (d : Dispatcher). status_of d i ≡ ready) e r)))

      by-time : (d₁ : Dispatcher) (time : ℕ) → Prepared d₀ d₁ → d₂ ≡ time_out time (wake d₁) → (t : Bool) → member i d₁.waiters ≡ t → Came i
      by-time d₁ time b e true q =
          let y = waits_back d₁ b i (sym (b.standing.waiters_waiting i) ∙ q) in
          waited y.0 y.1 (subst (λ (d : Dispatcher). (WasSatisfied (thread_of d i)) ⊎ HasTimedOut (thread_of d i)) (sym e) (ended (stage d₁ b time i y.0 y.1 (subst (λ (d : Dispatcher). status_of d i ≡ ready) e r))))
        where
          ended : Stage (wake d₁) (time_out time (wake d₁)) i → (WasSatisfied (thread_of (time_out time (wake d₁)) i)) ⊎ HasTimedOut (thread_of (time_out time (wake d₁)) i)
          ended (early p u m) = inl u
          ended (later a o) = inr o
      by-time d₁ time b e false q =
          let w = wake-others d₁ i (member-not i d₁.waiters q) in
          let out : Mem i (late time (wake d₁)) → ⊥ = λ m. not-both (sym (late-asleep d₁ b time i m).waits ∙ ap (λ (t : Thread). is_waiting t.status) w.thread ∙ sym (b.standing.waiters_waiting i) ∙ q) in
          absurd (n (ready-back d₁ b i (ap (λ (t : Thread). t.status) (sym ((timeout-others time (wake d₁) i out).thread ∙ w.thread)) ∙ subst (λ (d : Dispatcher). status_of d i ≡ ready) e r)))

      go : Change c s d₂ → Came i
      go (still t p) = absurd (n (sym (t i) ∙ r))
      go (one id x t p own w) = elim (ℕ_discrete i id) [ yes e ↦ alone (λ j u. t j (λ q. u (q ∙ sym e))) | no u ↦ absurd (n (sym (t i u) ∙ r)) ]
      go (none-ready u) = absurd (u i r)
      go (woke d₁ b e) = by-pass d₁ b e (member i d₁.waiters) refl
      go (moved_on d₁ time b e) = by-time d₁ time b e (member i d₁.waiters) refl

  -- a call that gives a thread a priority changes no other
  priority-alone : (i p : ℕ) → c ≡ Priority i p → refusal c s ≡ 0 → (j : ℕ) → (j ≡ i → ⊥) → status_of d₂ j ≡ status_of d₀ j
  unfolding effect prioritized becomes
  priority-alone i p q e j n =
      let t = with_priority (thread_of d₀ i) p in
      ap (λ (o : Outcome). status_of o.state.dispatcher j) (step_is c s e ∙ ap (λ (x : Call). effect x s) q) ∙ go (is_ready (status_of d₀ i)) t
    where
      go : (b : Bool) (t : Thread) → status_of (cond b (becomes d₀ i t) (with_thread d₀ i t)) j ≡ status_of d₀ j
      go true t = ap (λ (x : Thread). x.status) (change-other d₀.threads i t j n)
      go false t = ap (λ (x : Thread). x.status) (change-other d₀.threads i t j n)

  lone : (i j : ℕ) → (j ≡ i → ⊥) → Prioritizes c s i → Places c s j → ⊥
  lone i j n p h = ⊎_elim
      (λ (u : IsReady s j → ⊥). u (sym (priority-alone i p.0 p.1 p.2 j n) ∙ h.is-ready))
      (λ (q : Prioritizes c s j). n (let z : Priority j q.0 ≡ Priority i p.0 = sym q.1 ∙ p.1 in let y : j ≡ i = cc in y)) h.newly

  -- one of two that both waited
  either-came : (i j : ℕ) → (i ≡ j → ⊥) → Places c s i → Places c s j → (IsReady s i → ⊥) → (IsReady s j → ⊥) → Came i → Came j → (Together c s i j) ⊎ Together c s j i
  either-came i j n p q u w (alone a) g = absurd (w (sym (a j (λ e. n (sym e))) ∙ q.is-ready))
  either-came i j n p q u w (waited x a e) (alone z) = absurd (u (sym (z i n) ∙ p.is-ready))
  either-came i j n p q u w (waited x a e) (waited y b f) = go e f
    where
      first : EarlierWithin i j x y (thread_of d₂ i) (thread_of d₂ j) → (Together c s i j) ⊎ Together c s j i
      first h = inl (record { first = x; second = y; first_waits = a; second_waits = b; first_ready = p.is-ready; second_ready = q.is-ready; earlier = h })

      second : EarlierWithin j i y x (thread_of d₂ j) (thread_of d₂ i) → (Together c s i j) ⊎ Together c s j i
      second h = inr (record { first = y; second = x; first_waits = b; second_waits = a; first_ready = q.is-ready; second_ready = p.is-ready; earlier = h })

      apart : x.sequence ≡ y.sequence → ⊥
      apart z = n (same_once (sequence_at d₀.threads) d₀.waiters v.sound.standing.waiters_rising i j (waiter d₀ v.sound.standing i (ap is_waiting a)) (waiter d₀ v.sound.standing j (ap is_waiting b))
          (ap (λ (t : Status). (wait_of t).sequence) a ∙ z ∙ sym (ap (λ (t : Status). (wait_of t).sequence) b)))

      go : (WasSatisfied (thread_of d₂ i)) ⊎ HasTimedOut (thread_of d₂ i) → (WasSatisfied (thread_of d₂ j)) ⊎ HasTimedOut (thread_of d₂ j) → (Together c s i j) ⊎ Together c s j i
      go (inl k) (inl l) = elim (dec_lt x.sequence y.sequence) [
        | yes h ↦ first (by_sequence k.0 l.0 k.1 l.1 h)
        | no h ↦ second (by_sequence l.0 k.0 l.1 k.1 (omega (arith, h, apart)))
      ]
      go (inl k) (inr l) = first (wakes-first k.0 k.1 l)
      go (inr k) (inl l) = second (wakes-first l.0 l.1 k)
      go (inr k) (inr l) = elim (dec_lt i j) [ yes h ↦ first (by_number k l h) | no h ↦ second (by_number l k (omega (arith, h, n))) ]

  -- of two threads that one call places, one is earlier
  pub either-earlier : (i j : ℕ) → (i ≡ j → ⊥) → Places c s i → Places c s j → (Together c s i j) ⊎ Together c s j i
  either-earlier i j n p q = go p.newly q.newly
    where
      go : (IsReady s i → ⊥) ⊎ Prioritizes c s i → (IsReady s j → ⊥) ⊎ Prioritizes c s j → (Together c s i j) ⊎ Together c s j i
      go (inr z) w = absurd (lone i j (λ e. n (sym e)) z q)
      go (inl u) (inr z) = absurd (lone j i n z p)
      go (inl u) (inl w) = either-came i j n p q u w (came i u p.is-ready) (came j w q.is-ready)

-- ---- a list of calls

pub stays-now : (i : ℕ) (cs : List Call) (s : State) → StaysReady i cs s → IsReady s i
stays-now i [] s h = h
stays-now i (c ∷ cs) s h = h.0

pub stays-end : (i : ℕ) (cs : List Call) (s : State) → StaysReady i cs s → IsReady (after cs s) i
stays-end i [] s h = h
stays-end i (c ∷ cs) s h = stays-end i cs (step c s).state h.2

stays-ahead : (i j : ℕ) (cs : List Call) (s : State) → Valid s → StaysReady i cs s → Ahead i j s.dispatcher.placed → Ahead i j (after cs s).dispatcher.placed
stays-ahead i j [] s v h a = a
stays-ahead i j (c ∷ cs) s v h a =
    stays-ahead i j cs (step c s).state (valid-step s v c) h.2
    ((stays-keeps s v c i h.0 (stays-now i cs (step c s).state h.2) h.1).ahead j (ready-placed s v c i h.0) a)

-- ---- the dispatch

-- a dispatch that answers a ready thread found none current, and took the first of the highest queue
runs-next : (s : State) → Valid s → (n j : ℕ) → IsReady s j → (step (Dispatch n) s).answer ≡ Run j → next s.dispatcher ≡ j
unfolding step refusal effect dispatch_refusal dispatched
runs-next s v n j r e = go (ltb n s.limits.threads) (eqb s.dispatcher.current 0) (is_empty s.dispatcher.placed) refl refl e
  where
    d : Dispatcher
    d = s.dispatcher

    placed : is_empty s.dispatcher.placed ≡ true → ⊥
    placed z = empty s.dispatcher.placed (member-mem j s.dispatcher.placed (v.sound.standing.placed_ready j ∙ ap is_ready r)) z
      where
        empty : (l : List ℕ) → Mem j l → is_empty l ≡ true → ⊥
        empty [] m q = m
        empty (x ∷ l) m q = not-both (sym q)

    go : (a b t : Bool) → eqb s.dispatcher.current 0 ≡ b → is_empty s.dispatcher.placed ≡ t
        → (cond (eqb (cond a 27 0) 0) (cond b (cond t (gives (idle_answer d) s) (gives (Run (next d)) (with_dispatcher s (ran d (next d))))) (gives (Run d.current) s)) (gives (Refused (cond a 27 0)) s)).answer ≡ Run j
        → next s.dispatcher ≡ j
    go true b t p q z = let y : ◌≡◌ {A = ℕ} 0 1 = cc in absurd (omega arith)
    go false true true p q z = absurd (placed q)
    go false true false p q z = let y : next d ≡ j = cc in y
    go false false t p q z =
        let y : d.current ≡ j = cc in
        let k = current-known s v (eqb-false d.current 0 p) in
        absurd (not-both (sym (ap is_ready r) ∙ ap (λ (x : ℕ). is_ready (status_of d x)) (sym y) ∙ ap is_ready k.2))

-- of two ready threads of one priority a dispatch does not answer the one behind
behind-waits : (s : State) → Valid s → (n i j : ℕ) → IsReady s i → IsReady s j → priority_of s.dispatcher i ≡ priority_of s.dispatcher j
    → Ahead i j s.dispatcher.placed → (step (Dispatch n) s).answer ≡ Run j → ⊥
behind-waits s v n i j r q e a z = go (right.earliest i (before-left i j placed b) (e ∙ ap (priority_of d) (sym y)))
  where
    d : Dispatcher
    d = s.dispatcher

    placed : List ℕ
    placed = s.dispatcher.placed

    m : Mem j s.dispatcher.placed
    m = member-mem j s.dispatcher.placed (v.sound.standing.placed_ready j ∙ ap is_ready q)

    b : Before i j s.dispatcher.placed
    b = ahead_before i j s.dispatcher.placed a m

    y : next s.dispatcher ≡ j
    y = runs-next s v n j q z

    some : (l : List ℕ) → Mem j l → is_empty l ≡ false
    some [] m' = absurd m'
    some (x ∷ l) m' = refl

    right : Right s.dispatcher (next s.dispatcher)
    right = right-next s v (some s.dispatcher.placed m)

    go : (i ≡ next s.dispatcher) ⊎ Before (next s.dispatcher) i s.dispatcher.placed → ⊥
    go (inl p) = before-once j j s.dispatcher.placed v.sound.standing.placed_once (subst (λ (k : ℕ). Before k j s.dispatcher.placed) (p ∙ y) b) (subst (λ (k : ℕ). Before k j s.dispatcher.placed) (p ∙ y) b)
    go (inr p) = before-once i j s.dispatcher.placed v.sound.standing.placed_once b (subst (λ (k : ℕ). Before k i s.dispatcher.placed) y p)

module _ (s : State) (v : Valid s) (c : Call) (cs : List Call) (i j n : ℕ) where
  -- thread i was ready before the call, and is still; the call placed thread j: of the two, while they are ready and of one priority,
  -- a dispatch does not answer j
  pub earlier-call-first : StaysReady i (c ∷ cs) s → Places c s j → IsReady (after (c ∷ cs) s) j
      → priority_of (after (c ∷ cs) s).dispatcher i ≡ priority_of (after (c ∷ cs) s).dispatcher j → (step (Dispatch n) (after (c ∷ cs) s)).answer ≡ Run j → ⊥
  earlier-call-first h p r e = behind-waits (after (c ∷ cs) s) (valid-after (c ∷ cs) s v) n i j (stays-end i (c ∷ cs) s h) r e
      (stays-ahead i j cs (step c s).state (valid-step s v c) h.2 (placed-behind s v c i j h.0 (stays-now i cs (step c s).state h.2) h.1 p))

  -- one call made both ready, thread i earlier: the same
  pub earlier-within-first : Together c s i j → StaysReady i cs (step c s).state → IsReady (after (c ∷ cs) s) j
      → priority_of (after (c ∷ cs) s).dispatcher i ≡ priority_of (after (c ∷ cs) s).dispatcher j → (step (Dispatch n) (after (c ∷ cs) s)).answer ≡ Run j → ⊥
  earlier-within-first t h r e = behind-waits (after (c ∷ cs) s) (valid-after (c ∷ cs) s v) n i j (stays-end i cs (step c s).state h) r e
      (stays-ahead i j cs (step c s).state (valid-step s v c) h (together-ahead s v c i j t))
