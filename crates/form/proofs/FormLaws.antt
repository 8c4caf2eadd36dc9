-- What the passes need of the limits and say of the counts, and the laws of the pass of the objects, as the code counts.
use Prim.Native.Nat.{ℕ, zero, suc, ◌+◌, ◌≤◌, ◌<◌}
use native.Mathlib.Omega.{arith}
use mathlib.Core.List.{List}
use mathlib.Core.Bool.{Bool, cond, true, false}
use mathlib.Core.Path.{◌≡◌, refl, ap}
use lib.ListN.{get_or}
use lib.Dec.{leb, ltb}
use borrow.Author.Tests.{le-leb, ltb-false, not-true}
use native.Mathlib.Decide.{ℕ_discrete}
use Rattle.words.specs.Layout.{entry_at}
use Rattle.objects.specs.Objects.{objects_base, object_count}
use Rattle.form_dpc.specs.Place.{key_rises, Risen}
use Rattle.form_dpc.specs.Timer.{dpc_serves}
use Rattle.words.specs.Layout as at
use Rattle.opening.proofs.OpenLaws.{Limits, limits}
use Rattle.form.specs.Header.{limits_pass, counts_pass, current_passes, ready_passes, policy_passes, lifetimes_pass, header_numbers}
use Rattle.form.specs.Header.{long_enough}
use Rattle.form.specs.Form.{in_form}
use Rattle.std.specs.Prelude.{Option, Some, None}
use Rattle.form_threads.specs.Thread.{threads_pass, threads_seen, state_count}
use Rattle.form_threads.specs.declared.Counts as threads
use Rattle.form_dpc.specs.Dpc.{dpcs_pass, dpcs_seen, phase_count}
use Rattle.form_dpc.specs.declared.dpc_records.Counts as dpcs
use Rattle.form_dpc.specs.Queue.{queue_stands_as, queue_stands_once}
use Rattle.form_dpc.specs.Counts.{active_count, sum_holds_as, sum_holds, starts_pass_as, starts_pass, returns_pass_as, returns_pass}
use Rattle.form_chains.specs.Chain.{sequences_rise, waiters_stand_as, waiters_stand_once, ready_stand_as, ready_stand_once}
use Rattle.form.specs.Object.{object_numbers, owner_lives, object_passes, objects_in, objects_pass}

-- ---- limits

pub limits-pass : (w : List ℕ) → limits_pass w ≡ true → Limits (get_or w at.thread_limit 0) (get_or w at.object_limit 0) (get_or w at.dpc_limit 0)
unfolding limits_pass
limits-pass w e = limits _ _ _ (not-true _ e)

-- ---- objects

objects-rise : (m : ℕ) (w : List ℕ) (base i : ℕ) → objects_in m w base i ≡ true → (x : ℕ) → i ≤ x → x < i + m → key_rises w base x ≡ true
unfolding objects_in object_passes
objects-rise zero w base i e x l h = absurd (omega arith)
objects-rise (suc m) w base i e x l h = go (object_numbers w base i) (key_rises w base i) (cond (owner_lives w base i) (dpc_serves w (entry_at base i)) false) refl e (objects-rise m w base (i + 1)) (ℕ_discrete x i)
  where
    go : (a b d : Bool) → key_rises w base i ≡ b → cond (cond a (cond b d false) false) (objects_in m w base (i + 1)) false ≡ true
        → (objects_in m w base (i + 1) ≡ true → (y : ℕ) → i + 1 ≤ y → y < i + 1 + m → key_rises w base y ≡ true) → Dec (x ≡ i) → key_rises w base x ≡ true
    go true true d f p ih (yes q) = cc
    go true true true f p ih (no q) = ih p x (omega (arith, q)) (omega arith)
    go true true false f p ih (no q) = let z : ◌≡◌ {A = ℕ} 0 1 = cc in absurd (omega arith)
    go true false d f p ih q = let z : ◌≡◌ {A = ℕ} 0 1 = cc in absurd (omega arith)
    go false b d f p ih q = let z : ◌≡◌ {A = ℕ} 0 1 = cc in absurd (omega arith)

objects-few : (w : List ℕ) → limits_pass w ≡ true → header_numbers w ≡ true → get_or w at.objects 0 ≤ 4096
unfolding header_numbers counts_pass
objects-few w l e =
    go (ltb (get_or w at.threads 0) 1) (ltb (get_or w at.thread_limit 0) (get_or w at.threads 0)) (ltb (get_or w at.object_limit 0) (get_or w at.objects 0))
    (leb (get_or w at.dpcs 0) (get_or w at.dpc_limit 0)) (cond (current_passes w) (cond (ready_passes w) (cond (policy_passes w) (lifetimes_pass w) false) false) false) refl e
  where
    go : (a b d f g : Bool) → ltb (get_or w at.object_limit 0) (get_or w at.objects 0) ≡ d
        → cond (cond a false (cond b false (cond d false f))) g false ≡ true → get_or w at.objects 0 ≤ 4096
    go false false false f g q h = omega (arith, ltb-false (get_or w at.object_limit 0) (get_or w at.objects 0) q, limits-pass w l)
    go false false true f g q h = let z : ◌≡◌ {A = ℕ} 0 1 = cc in absurd (omega arith)
    go false true d f g q h = let z : ◌≡◌ {A = ℕ} 0 1 = cc in absurd (omega arith)
    go true b d f g q h = let z : ◌≡◌ {A = ℕ} 0 1 = cc in absurd (omega arith)

-- what the pass of the DPCs asks of the objects
pub risen : (w : List ℕ) → limits_pass w ≡ true → header_numbers w ≡ true → objects_pass w ≡ true → Risen w
unfolding objects_pass object_count
risen w l h e =
    let few = objects-few w l h in
    record { few = few; rise = λ i k. objects-rise (get_or w at.objects 0) w (objects_base w) 0 (simp (le-leb (get_or w at.objects 0) 4096 few) at e) i (omega arith) (omega arith) }

-- ---- what the passes say

threads-of : (w : List ℕ) (t : threads.Counts) → ◌≡◌ {A = Option threads.Counts} (Some t) (threads_seen w)
    → (threads_pass w ≡ true) × (t ≡ record { ready = state_count w 2; waiting = state_count w 3 })
unfolding threads_seen
threads-of w t e = go (threads_pass w) refl e
  where
    go : (b : Bool) → threads_pass w ≡ b → ◌≡◌ {A = Option threads.Counts} (Some t) (cond b (Some (record { ready = state_count w 2; waiting = state_count w 3 })) None)
        → (threads_pass w ≡ true) × (t ≡ record { ready = state_count w 2; waiting = state_count w 3 })
    go true p q = (p, cc)
    go false p q = let z : ◌≡◌ {A = ℕ} 0 1 = cc in absurd (omega arith)

pub threads-out : (w : List ℕ) → ◌≡◌ {A = Option threads.Counts} None (threads_seen w) → threads_pass w ≡ false
unfolding threads_seen
threads-out w e = go (threads_pass w) refl e
  where
    go : (b : Bool) → threads_pass w ≡ b → ◌≡◌ {A = Option threads.Counts} None (cond b (Some (record { ready = state_count w 2; waiting = state_count w 3 })) None)
        → threads_pass w ≡ false
    go true p q = let z : ◌≡◌ {A = ℕ} 0 1 = cc in absurd (omega arith)
    go false p q = p

dpcs-of : (w : List ℕ) (d : dpcs.Counts) → ◌≡◌ {A = Option dpcs.Counts} (Some d) (dpcs_seen w)
    → (dpcs_pass w ≡ true) × (d ≡ record { queued = phase_count w 1; active = phase_count w 2 + phase_count w 3; returning = phase_count w 3 })
unfolding dpcs_seen
dpcs-of w d e = go (dpcs_pass w) refl e
  where
    go : (b : Bool) → dpcs_pass w ≡ b
        → ◌≡◌ {A = Option dpcs.Counts} (Some d) (cond b (Some (record { queued = phase_count w 1; active = phase_count w 2 + phase_count w 3; returning = phase_count w 3 })) None)
        → (dpcs_pass w ≡ true) × (d ≡ record { queued = phase_count w 1; active = phase_count w 2 + phase_count w 3; returning = phase_count w 3 })
    go true p q = (p, cc)
    go false p q = let z : ◌≡◌ {A = ℕ} 0 1 = cc in absurd (omega arith)

pub dpcs-out : (w : List ℕ) → ◌≡◌ {A = Option dpcs.Counts} None (dpcs_seen w) → dpcs_pass w ≡ false
unfolding dpcs_seen
dpcs-out w e = go (dpcs_pass w) refl e
  where
    go : (b : Bool) → dpcs_pass w ≡ b
        → ◌≡◌ {A = Option dpcs.Counts} None (cond b (Some (record { queued = phase_count w 1; active = phase_count w 2 + phase_count w 3; returning = phase_count w 3 })) None)
        → dpcs_pass w ≡ false
    go true p q = let z : ◌≡◌ {A = ℕ} 0 1 = cc in absurd (omega arith)
    go false p q = p

module _ (w : List ℕ) (t : threads.Counts) (e : ◌≡◌ {A = Option threads.Counts} (Some t) (threads_seen w)) where
  pub threads-in : threads_pass w ≡ true
  threads-in = (threads-of w t e).0

  waiters-as : waiters_stand_once w ≡ waiters_stand_as w t.waiting
  unfolding waiters_stand_once
  waiters-as = let q = ap (λ (t : threads.Counts). t.waiting) (threads-of w t e).1 in cc

  ready-as : ready_stand_once w ≡ ready_stand_as w t.ready
  unfolding ready_stand_once
  ready-as = let q = ap (λ (t : threads.Counts). t.ready) (threads-of w t e).1 in cc

  module _ (d : dpcs.Counts) (f : ◌≡◌ {A = Option dpcs.Counts} (Some d) (dpcs_seen w)) where
    queue-as : queue_stands_once w ≡ queue_stands_as w d.queued
    unfolding queue_stands_once
    queue-as = let q = ap (λ (t : dpcs.Counts). t.queued) (dpcs-of w d f).1 in cc

    sum-as : sum_holds w ≡ sum_holds_as w d.queued d.active
    unfolding sum_holds active_count
    sum-as = let q = ap (λ (t : dpcs.Counts). t.queued) (dpcs-of w d f).1 in let a = ap (λ (t : dpcs.Counts). t.active) (dpcs-of w d f).1 in cc

    starts-as : starts_pass w ≡ starts_pass_as w d.active
    unfolding starts_pass active_count
    starts-as = let a = ap (λ (t : dpcs.Counts). t.active) (dpcs-of w d f).1 in cc

    returns-as : returns_pass w ≡ returns_pass_as w d.returning
    unfolding returns_pass
    returns-as = let a = ap (λ (t : dpcs.Counts). t.returning) (dpcs-of w d f).1 in cc

    -- where each record passes, the tests that are given the counts are what is left
    pub counts_left : {r : Bool} → limits_pass w ≡ true → long_enough w ≡ true → header_numbers w ≡ true → objects_pass w ≡ true
        → r ≡ cond (sequences_rise w) (cond (waiters_stand_as w t.waiting) (cond (ready_stand_as w t.ready) (cond (queue_stands_as w d.queued)
        (cond (sum_holds_as w d.queued d.active) (cond (starts_pass_as w d.active) (returns_pass_as w d.returning) false) false) false) false) false) false
        → r ≡ in_form w
    unfolding in_form
    counts_left a b h o e = simp (a, b, h, threads-in, o, (dpcs-of w d f).0, waiters-as, ready-as, queue-as, sum-as, starts-as, returns-as) e
