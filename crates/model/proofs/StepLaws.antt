-- An accepted `open` makes a valid state, and every step, refused or not, keeps it.
use Prim.Native.Nat.{ℕ, zero, suc, ◌≤◌}
use mathlib.Core.List.{List, [], ◌∷◌}
use mathlib.Core.Bool.{Bool, true, false, cond, not}
use mathlib.Core.Path.{◌≡◌, refl, sym, ap}
use native.Mathlib.Omega.{arith}
use borrow.Author.Tests.{eqb-true, ne_eqb}
use lib.Dec.{eqb, ltb}
use Rattle.model.specs.State.{State, Thread, running, Status}
use Rattle.model.specs.Threads.{thread_at, no_one, first_thread, is_ready, is_waiting, is_running, wait_of}
use Rattle.model.specs.Waits.{can_wake, reached}
use Rattle.model.specs.Refusal.{not_priority, bad_limits, words_needed, open_refusal}
use Rattle.model.specs.Step.{opened, period_of, refusal, effect, step, after}
use Rattle.model.specs.Refusal.{signed_due, is_negative}
use Rattle.model.specs.Answer.{gives, Refused}
use Rattle.model.specs.Call.{Call, Read}
use Rattle.model.specs.Call as call
use Rattle.model.specs.Valid.{Valid, WaitingValid}
use Rattle.model.proofs.RowLaws.{passes, priority-ok, limits-ok}
use Rattle.model.proofs.KeepLaws.{valid-create, valid-priority, valid-yield, valid-terminate, valid-dispatch, valid-wait, valid-delay}
use Rattle.model.proofs.KeepObjects.{valid-mutex, valid-event, valid-adopt, valid-release, valid-set, valid-reset, valid-retire-events}
use Rattle.model.proofs.KeepDpcs.{valid-init-dpc, valid-configure, valid-insert, valid-remove, valid-start, valid-returned, valid-restored}
use Rattle.model.proofs.KeepTimers.{valid-init-timer, valid-set-timer, valid-set-signed, valid-cancel, valid-retire-timers, valid-advance}
use Rattle.model.proofs.TableLaws.{none-some}
use Rattle.model.specs.Reads.{read_answer, read_refusal}

-- ---- open

pub valid-opened : (words p t o d : ℕ) → open_refusal words p t o d ≡ 0 → Valid (opened p t o d)
unfolding open_refusal opened
valid-opened words p t o d e =
    let a = passes (not_priority p) 0 (cond (bad_limits t o d) 27 (cond (ltb words (words_needed t o d)) 27 0)) e in
    let b = passes (bad_limits t o d) 26 (cond (ltb words (words_needed t o d)) 27 0) a.1 in
    let l = limits-ok t o d b.0 in
    record {
      limits = record { some_thread = l.0; threads = l.1; objects = l.2; dpcs = l.3 };
      sound = record {
        some = omega arith;
        few = l.0;
        priorities = λ i h k. priority i h k (priority-ok p a.0);
        standing = record {
          placed_ready = λ i. nobody i is_ready refl refl;
          placed_once = tt;
          waiters_waiting = λ i. nobody i is_waiting refl refl;
          waiters_rising = tt;
          below = λ i m. absurd m;
          current_runs = λ i h. runs i h;
        };
        waits = λ i. every i (λ (x : Thread). WaitingValid (opened p t o d).dispatcher x.status) tt tt;
        owners = λ k x f. absurd (none-some x f);
        rising = tt;
        room = omega arith;
        places = λ k x f. absurd (none-some x f);
      };
      quiet = λ i. every i (λ (x : Thread). can_wake (opened p t o d).dispatcher (wait_of x.status) ≡ false) refl refl;
      in_time = λ i. every i (λ (x : Thread). reached (wait_of x.status).deadline 0 ≡ false) refl refl;
      queueing = record {
        rising = tt;
        room = omega arith;
        places = λ k x f. absurd (none-some x f);
        queued = λ b. refl;
        once = tt;
        by_acceptance = tt;
        given_out = λ b. omega arith;
        lived = omega arith;
        sum = refl;
        starts = refl;
        one_active = omega arith;
        returns = refl;
      };
      linked = record {
        served = λ k x f. absurd (none-some x f);
        alone = λ k x f. absurd (none-some x f);
        apart = λ k f. refl;
      };
      policy = tt;
      timers_lived = omega arith;
      dpcs_lived = omega arith;
    }
  where
    every : (i : ℕ) (P : Thread → Type 0) → P (first_thread p) → P no_one → P (thread_at (first_thread p ∷ []) i)
    every zero P a b = b
    every (suc zero) P a b = a
    every (suc (suc n)) P a b = b

    nobody : (i : ℕ) (f : Status → Bool) → f running ≡ false → f no_one.status ≡ false → false ≡ f (thread_at (first_thread p ∷ []) i).status
    nobody i f a b = every i (λ (x : Thread). false ≡ f x.status) (sym a) (sym b)

    runs : (i : ℕ) → 1 ≤ i → eqb i 1 ≡ is_running (thread_at (first_thread p ∷ []) i).status
    runs zero h = absurd (omega arith)
    runs (suc zero) h = refl
    runs (suc (suc n)) h = ne_eqb (suc (suc n)) 1 (λ z. omega arith)

    priority : (i : ℕ) → 1 ≤ i → i ≤ 1 → (1 ≤ p) × (p ≤ 31) → (1 ≤ (thread_at (first_thread p ∷ []) i).priority) × ((thread_at (first_thread p ∷ []) i).priority ≤ 31)
    priority zero h k q = absurd (omega arith)
    priority (suc zero) h k q = q
    priority (suc (suc n)) h k q = absurd (omega arith)

-- ---- an accepted call

module _ (s : State) (v : Valid s) where
  pub valid-effect : (c : Call) → refusal c s ≡ 0 → Valid (effect c s).state
  unfolding refusal effect
  valid-effect (call.Open words p t o d) e = valid-opened words p t o d e
  valid-effect (call.CreateThread p) e = valid-create s v p e
  valid-effect (call.Priority id p) e = valid-priority s v id p e
  valid-effect (call.InitializeMutex key) e = valid-mutex s v key 0 refl e
  valid-effect (call.InitializeEvent key manual signaled) e = valid-event s v key manual signaled e
  valid-effect (call.AdoptMutex key owner) e = valid-adopt s v key owner e
  valid-effect (call.ReleaseMutex key) e = valid-release s v key e
  valid-effect (call.SetEvent key) e = valid-set s v key
  valid-effect (call.ResetEvent key) e = valid-reset s v key
  valid-effect (call.RetireEventBacking base size layout) e = valid-retire-events s v base size layout e
  valid-effect (call.Wait l all deadline irql) e = valid-wait s v l all deadline irql e
  valid-effect (call.DelayUntil deadline irql) e = valid-delay s v deadline irql e
  valid-effect call.YieldCurrent e = valid-yield s v e
  valid-effect (call.Terminate status) e = valid-terminate s v status e
  valid-effect (call.AdvanceTo time) e = valid-advance s v time e
  valid-effect (call.Dispatch out) e = valid-dispatch s v
  valid-effect (call.InitializeTimer address a b manual) e = valid-init-timer s v address a b manual e
  valid-effect (call.InitializeDpc address a b routine context) e = valid-init-dpc s v address a b routine context e
  valid-effect (call.SetTimer address due absolute period dpc) e = valid-set-timer s v address due absolute period (period_of period) dpc e
  valid-effect (call.SetTimerSigned address d period dpc) e = valid-set-signed s v address d period (signed_due s.now d) (not (is_negative d)) (period_of period) dpc e
  valid-effect (call.CancelTimer address) e = valid-cancel s v address
  valid-effect (call.RetireTimerBacking address size) e = valid-retire-timers s v address size e
  valid-effect (call.ConfigureDpcDispatch first second) e = valid-configure s v first second e
  valid-effect (call.InsertQueueDpc address first second) e = valid-insert s v address first second e
  valid-effect (call.RemoveQueueDpc address) e = valid-remove s v address
  valid-effect (call.StartDpc address) e = valid-start s v address e
  valid-effect (call.ReturnedDpc address n) e = valid-returned s v address
  valid-effect (call.RestoredDpc address n) e = valid-restored s v address n e
  valid-effect (call.Reads r) e = v

  -- every step keeps a valid state, refused or not
  pub valid-step : (c : Call) → Valid (step c s).state
  unfolding step
  valid-step c = go (eqb (refusal c s) 0) refl
    where
      go : (b : Bool) → eqb (refusal c s) 0 ≡ b → Valid (cond b (effect c s) (gives (Refused (refusal c s)) s)).state
      go true e = valid-effect c (eqb-true (refusal c s) 0 e)
      go false e = v

-- and so does any list of calls
pub valid-after : (cs : List Call) (s : State) → Valid s → Valid (after cs s)
valid-after [] s v = v
valid-after (c ∷ cs) s v = valid-after cs (step c s).state (valid-step s v c)

-- "A refused call changes no state"
pub refused-unchanged : (c : Call) (s : State) → (refusal c s ≡ 0 → ⊥) → step c s ≡ gives (Refused (refusal c s)) s
unfolding step
refused-unchanged c s n = ap (λ (b : Bool). cond b (effect c s) (gives (Refused (refusal c s)) s)) (ne_eqb (refusal c s) 0 n)

-- "Refused calls and reads do nothing"
pub read-unchanged : (r : Read) (s : State) → (step (call.Reads r) s).state ≡ s
unfolding step refusal effect
read-unchanged r s = go (eqb (read_refusal r s) 0)
  where
    go : (b : Bool) → (cond b (gives (read_answer r s) s) (gives (Refused (read_refusal r s)) s)).state ≡ s
    go true = refl
    go false = refl
