-- The rows of the table that say 27: an `open` with bad limits or short memory, and an output that is too short; no other.
use Prim.Native.Nat.{ℕ, ◌<◌}
use mathlib.Core.Bool.{Bool, true, false, cond}
use mathlib.Core.Logic.{◌⊎◌, inl, inr}
use mathlib.Core.Path.{◌≡◌, refl}
use native.Mathlib.Omega.{arith}
use borrow.Author.Tests.{eqb-false, ltb-true}
use lib.Dec.{eqb, ltb}
use Rattle.model.specs.State.{State}
use Rattle.model.specs.Refusal as table
use Rattle.model.specs.Call.{Call, Read}
use Rattle.model.specs.Call as call
use Rattle.model.specs.Reads.{read_refusal}
use Rattle.model.specs.Step.{refusal}
use Rattle.corollaries.specs.Refusals.{Short}
use Rattle.corollaries.proofs.Rows.{create-27, priority-27, mutex-27, event-27, signal-27, owner-27, event-release-27, wait-27, delay-27, unknown-timer-27, unknown-dpc-27, timer-release-27, configure-27, start-27, returned-27, restored-27, yield-27, terminate-27, timer-27, dpc-27, release-27, adopt-27, set-27, set-signed-27, insert-27, advance-27}

no : (n : ℕ) (A : Type 0) → eqb n 27 ≡ false → n ≡ 27 → A
no n A q e = absurd (eqb-false n 27 q e)

open-27 : (m p t o d : ℕ) → table.open_refusal m p t o d ≡ 27 → (table.bad_limits t o d ≡ true) ⊎ (m < table.words_needed t o d)
unfolding table.open_refusal
open-27 m p t o d e = go (table.not_priority p) (table.bad_limits t o d) (ltb m (table.words_needed t o d)) refl refl e
  where
    go : (a b c : Bool) → table.bad_limits t o d ≡ b → ltb m (table.words_needed t o d) ≡ c → ◌≡◌ {A = ℕ} (cond a 1 (cond b 27 (cond c 27 0))) 27
        → (table.bad_limits t o d ≡ true) ⊎ (m < table.words_needed t o d)
    go true b c x y z = absurd (omega arith)
    go false true c x y z = inl x
    go false false true x y z = inr (ltb-true m (table.words_needed t o d) y)
    go false false false x y z = absurd (omega arith)

short-27 : (m n r : ℕ) → eqb r 27 ≡ false → cond (ltb m n) 27 r ≡ 27 → m < n
short-27 m n r q e = go (ltb m n) refl e
  where
    go : (b : Bool) → ltb m n ≡ b → cond b 27 r ≡ 27 → m < n
    go true x z = ltb-true m n x
    go false x z = no r (m < n) q z

module _ (s : State) where
  read-27 : (r : Read) → read_refusal r s ≡ 27 → Short s.limits.threads (call.Reads r)
  unfolding read_refusal
  read-27 call.Current e = no 0 _ refl e
  read-27 (call.Thread id) e = no 0 _ refl e
  read-27 (call.Threads position) e = no 0 _ refl e
  read-27 (call.WaitedObject id position) e = no 0 _ refl e
  read-27 (call.MutexOwner key) e = no _ _ (owner-27 s key) e
  read-27 (call.MutexWaiters key) e = no 0 _ refl e
  read-27 (call.EventState key) e = no 0 _ refl e
  read-27 (call.EventStates position) e = no 0 _ refl e
  read-27 (call.RequireEventRelease base size layout) e = no _ _ (event-release-27 s base size layout) e
  read-27 (call.TimerAt address) e = no _ _ (unknown-timer-27 s address) e
  read-27 (call.DpcAt address) e = no _ _ (unknown-dpc-27 s address) e
  read-27 (call.Timers position) e = no 0 _ refl e
  read-27 (call.Dpcs position) e = no 0 _ refl e
  read-27 (call.TimerImage address n) e = unfold table.timer_image_refusal in (inr (inr (inl (address, n, refl, short-27 n 64 _ (unknown-timer-27 s address) e))))
  read-27 (call.DpcImage address n) e = unfold table.dpc_image_refusal in (inr (inr (inr (address, n, refl, short-27 n 64 _ (unknown-dpc-27 s address) e))))
  read-27 call.TimerInitializations e = no 0 _ refl e
  read-27 call.DpcInitializations e = no 0 _ refl e
  read-27 (call.TimerReadOverlap address size) e = no 0 _ refl e
  read-27 (call.TimerMetadataOverlap address size) e = no 0 _ refl e
  read-27 call.PendingTimerDpc e = no 0 _ refl e
  read-27 (call.RequireTimerRelease address size) e = no _ _ (timer-release-27 s address size) e
  read-27 call.DpcPolicy e = no 0 _ refl e
  read-27 call.DpcCounters e = no 0 _ refl e
  read-27 (call.QueuedDpcs position) e = no 0 _ refl e
  read-27 call.ActiveDpc e = no 0 _ refl e
  read-27 call.NextDpc e = no 0 _ refl e

  pub row-27 : (c : Call) → refusal c s ≡ 27 → Short s.limits.threads c
  unfolding refusal
  row-27 (call.Open m p t o d) e = inl (m, p, t, o, d, refl, open-27 m p t o d e)
  row-27 (call.CreateThread p) e = no _ _ (create-27 s p) e
  row-27 (call.Priority id p) e = no _ _ (priority-27 s id p) e
  row-27 (call.InitializeMutex key) e = no _ _ (mutex-27 s key) e
  row-27 (call.InitializeEvent key manual signaled) e = no _ _ (event-27 s key) e
  row-27 (call.AdoptMutex key owner) e = no _ _ (adopt-27 s key owner) e
  row-27 (call.ReleaseMutex key) e = no _ _ (release-27 s key) e
  row-27 (call.SetEvent key) e = no _ _ (signal-27 s key) e
  row-27 (call.ResetEvent key) e = no _ _ (signal-27 s key) e
  row-27 (call.RetireEventBacking base size layout) e = no _ _ (event-release-27 s base size layout) e
  row-27 (call.Wait l all deadline irql) e = no _ _ (wait-27 s l all deadline irql) e
  row-27 (call.DelayUntil deadline irql) e = no _ _ (delay-27 s deadline irql) e
  row-27 call.YieldCurrent e = no _ _ (yield-27 s) e
  row-27 (call.Terminate status) e = no _ _ (terminate-27 s) e
  row-27 (call.AdvanceTo time) e = no _ _ (advance-27 s time) e
  row-27 (call.Dispatch n) e = unfold table.dispatch_refusal in (inr (inl (n, refl, short-27 n s.limits.threads 0 refl e)))
  row-27 (call.InitializeTimer address a b manual) e = no _ _ (timer-27 s address a b) e
  row-27 (call.InitializeDpc address a b routine context) e = no _ _ (dpc-27 s address a b) e
  row-27 (call.SetTimer address due absolute period dpc) e = no _ _ (set-27 s address period dpc) e
  row-27 (call.SetTimerSigned address v period dpc) e = no _ _ (set-signed-27 s address v period dpc) e
  row-27 (call.CancelTimer address) e = no _ _ (unknown-timer-27 s address) e
  row-27 (call.RetireTimerBacking address size) e = no _ _ (timer-release-27 s address size) e
  row-27 (call.ConfigureDpcDispatch first second) e = no _ _ (configure-27 s first second) e
  row-27 (call.InsertQueueDpc address first second) e = no _ _ (insert-27 s address) e
  row-27 (call.RemoveQueueDpc address) e = no _ _ (unknown-dpc-27 s address) e
  row-27 (call.StartDpc address) e = no _ _ (start-27 s address) e
  row-27 (call.ReturnedDpc address n) e = no _ _ (returned-27 s address n) e
  row-27 (call.RestoredDpc address n) e = no _ _ (restored-27 s address n) e
  row-27 (call.Reads r) e = read-27 r e
