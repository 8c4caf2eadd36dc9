-- Calls on DPCs: each keeps a valid state valid.
use Prim.Native.Nat.{ℕ, ◌≤◌, ◌<◌}
use mathlib.Core.List.{List, [], ◌∷◌}
use mathlib.Core.Bool.{Bool, true, false, cond, ◌&&◌, ◌||◌}
use mathlib.Core.Path.{◌≡◌, refl, sym, ap, ◌∙◌}
use mathlib.Core.Option.{Option, none, some}
use native.Mathlib.Omega.{arith}
use native.Mathlib.Decide.{ℕ_discrete}
use borrow.Author.Tests.{eqb-true, eqb-false, leb-false}
use lib.Dec.{eqb, leb}
use lib.ListN.{length}
use Rattle.arch.specs.declared.Architecture.{Architecture}
use Rattle.images.specs.declared.TimerBacking.{TimerBacking}
use Rattle.images.specs.declared.Dpc.{Dpc}
use Rattle.images.specs.declared.DpcOrigin.TheVariants as origin
use Rattle.images.specs.declared.DpcPhase.{DpcPhase}
use Rattle.images.specs.declared.DpcPhase.TheVariants.{Idle, Queued, Running, Returning}
use Rattle.images.specs.Place.{location_refusal, dpc_size}
use Rattle.model.specs.Lists.{present}
use Rattle.model.specs.State.{State, Dpcs, Object}
use Rattle.model.specs.Waits.{object_at}
use Rattle.model.specs.Dpcs.{address_of, dpc_at, phase_at, put_dpc, rephased, is_queued, is_busy, new_work, active_dpc, accepted, duplicated, withdrawn, started, returned, restored, is_idle}
use Rattle.model.specs.Timers.{lifetime, is_named}
use Rattle.model.specs.Refusal.{place_refusal, dpc_refusal, is_unselected, is_untouched, configure_refusal, insert_in_phase, insert_refusal, is_head, start_refusal, returns_with, restored_refusal}
use Rattle.model.specs.Step.{with_dpcs, dpc_initialized, configured, dpc_inserted, dpc_removed, dpc_started, dpc_returned}
use Rattle.model.specs.Answer.{gives, Flag}
use Rattle.model.specs.Valid.{Served, Queueing, Linked, Valid}
use Rattle.model.proofs.ListLaws.{not-both}
use Rattle.model.proofs.ObjectLaws.{map-timer}
use Rattle.model.proofs.TableLaws.{find-put-own, find-put-other, length-put, length-put-known}
use Rattle.model.proofs.DpcLaws.{idle-not-busy, queued-work, present-some, phase-found, phase-known, queueing-accepted, queueing-duplicated, queueing-withdrawn, queueing-started, queueing-returned, queueing-restored, queueing-put, idle-phases}
use Rattle.model.proofs.LinkLaws.{linked-table, linked-rephased, unnamed}
use Rattle.model.proofs.RowLaws.{passes, holds, and-true, or-false}

module _ (s : State) (v : Valid s) where
  -- the state with other DPCs
  pub valid-dpcs : (q : Dpcs) → Queueing s.limits.dpcs q.table q.queue q.counters → Linked s.dispatcher.objects q.table → Valid (with_dpcs s q)
  valid-dpcs q a l = record {
    limits = v.limits;
    sound = v.sound;
    quiet = v.quiet;
    in_time = v.in_time;
    queueing = a;
    linked = l;
    policy = v.policy;
    timers_lived = v.timers_lived;
    dpcs_lived = v.dpcs_lived;
  }

  abbrev table : List Dpc
  table = s.dpcs.table

  abbrev limit : ℕ
  limit = s.limits.dpcs

  -- in a phase that is not queued, no timer is concerned
  pub unqueued : (a : ℕ) (d : Dpc) → dpc_at table a ≡ some d → (p : DpcPhase) → is_queued p ≡ false → Linked s.dispatcher.objects (rephased table a p)
  unqueued a d f p e = linked-rephased s.dispatcher.objects table v.queueing.rising a d f p (λ k t g i z w q. absurd (not-both (sym (ap is_queued q) ∙ e))) v.linked

  -- ---- taken out of the queue

  pub withdrawn-linked : (a : ℕ) (d : Dpc) → dpc_at table a ≡ some d → Linked s.dispatcher.objects (withdrawn s.dpcs a).table
  unfolding withdrawn
  withdrawn-linked a d f = unqueued a d f Idle refl

  -- ---- initialize_dpc

  pub valid-init-dpc : (address : ℕ) (a : Architecture) (b : TimerBacking) (routine context : ℕ) → dpc_refusal s address a b ≡ 0 → Valid (dpc_initialized s address a b routine context)
  unfolding dpc_refusal place_refusal dpc_initialized
  valid-init-dpc address a b routine context e =
      let r₁ = passes (present (object_at s.dispatcher.objects address)) 4 _ e in
      let r₂ = passes (cond (present (dpc_at table address)) false (leb limit (length table))) 3 _ r₁.1 in
      let r₃ = passes (leb lifetime s.dpc_initializations) 13 _ r₂.1 in
      let r₄ = passes (is_busy (phase_at table address)) 18 _ r₃.1 in
      let r₅ = passes (is_named s.dispatcher.objects address) 18 _ r₄.1 in
      let r₆ = holds (eqb (location_refusal address (dpc_size a) a b) 0) 14 _ r₅.1 in
      let idle = idle-not-busy (phase_at table address) r₄.0 in
      record {
        limits = v.limits;
        sound = v.sound;
        quiet = v.quiet;
        in_time = v.in_time;
        queueing = queueing-put limit s.dpcs v.queueing x refl idle (room (dpc_at table address) refl r₂.0) (eqb-true (location_refusal address (dpc_size a) a b) 0 r₆.0);
        linked = linked-table s.dispatcher.objects table (put_dpc x table) (λ k y f. served y (idle-phases limit s.dpcs v.queueing x refl idle) (v.linked.served k y f)) (λ k p z. elsewhere k p z r₁.0) v.linked;
        policy = v.policy;
        timers_lived = v.timers_lived;
        dpcs_lived = omega (arith, leb-false lifetime s.dpc_initializations r₃.0);
      }
    where
      x : Dpc
      x = record { address = address; architecture = a; backing = b; routine = routine; context = context; phase = Idle }

      room : (o : Option Dpc) → dpc_at table address ≡ o → cond (present (dpc_at table address)) false (leb limit (length table)) ≡ false → length (put_dpc x table) ≤ limit
      room none f z =
          let y : leb limit (length table) ≡ false = sym (ap (λ (o : Option Dpc). cond (present o) false (leb limit (length table))) f) ∙ z in
          omega (arith, length-put address_of x table, leb-false limit (length table) y)
      room (some d) f z = omega (arith, length-put-known address_of x table v.queueing.rising d f, v.queueing.room)

      still : (c : ℕ) → present (dpc_at table c) ≡ true → present (dpc_at (put_dpc x table) c) ≡ true
      still c p = elim (ℕ_discrete c address) [
        | yes q ↦ ap (λ (k : ℕ). present (dpc_at (put_dpc x table) k)) q ∙ ap present (find-put-own address_of x table)
        | no n ↦ ap present (find-put-other address_of x table c n) ∙ p
      ]

      served : (y : Object) → ((c : ℕ) → phase_at (put_dpc x table) c ≡ phase_at table c) → Served table y → Served (put_dpc x table) y
      served y ph = map-timer (λ t h i n. let q = h i n in (still t.dpc q.0, λ w z. q.1 w (sym (ph t.dpc) ∙ z))) y

      elsewhere : (k : ℕ) → present (object_at s.dispatcher.objects k) ≡ true → present (dpc_at table k) ≡ false → present (object_at s.dispatcher.objects address) ≡ false → present (dpc_at (put_dpc x table) k) ≡ false
      elsewhere k p z none' = ap present (find-put-other address_of x table k (λ q. not-both (sym p ∙ ap (λ (j : ℕ). present (object_at s.dispatcher.objects j)) q ∙ none'))) ∙ z

  -- ---- configure_dpc_dispatch

  pub valid-configure : (first second : ℕ) → configure_refusal s first second ≡ 0 → Valid (configured s first second)
  unfolding configure_refusal configured
  valid-configure first second e =
      let r₁ = holds (is_untouched s) 19 (cond (eqb first 0 || eqb second 0 || eqb first second) 20 0) e in
      let r₂ = passes (eqb first 0 || eqb second 0 || eqb first second) 19 0 r₁.1 in
      let a = or-false (eqb first 0 || eqb second 0) (eqb first second) r₂.0 in
      let b = or-false (eqb first 0) (eqb second 0) a.0 in
      record {
        limits = v.limits;
        sound = v.sound;
        quiet = v.quiet;
        in_time = v.in_time;
        queueing = v.queueing;
        linked = v.linked;
        policy = (eqb-false first 0 b.0, eqb-false second 0 b.1, eqb-false first second a.1);
        timers_lived = v.timers_lived;
        dpcs_lived = v.dpcs_lived;
      }

  -- ---- insert_queue_dpc

  pub valid-insert : (address first second : ℕ) → insert_refusal s address ≡ 0 → Valid (dpc_inserted s address first second).state
  unfolding insert_refusal dpc_inserted
  valid-insert address first second e =
      let r₁ = passes (is_named s.dispatcher.objects address) 17 _ e in
      let r₂ = passes (is_unselected s.policy) 19 _ r₁.1 in
      let r₃ = holds (present (dpc_at table address)) 1 (insert_in_phase s (phase_at table address)) r₂.1 in
      let d = present-some table address r₃.0 in
      go (phase_at table address) refl r₁.0 d.0 d.1 r₃.1
    where
      go : (p : DpcPhase) → phase_at table address ≡ p → is_named s.dispatcher.objects address ≡ false → (d : Dpc) → dpc_at table address ≡ some d → insert_in_phase s p ≡ 0
          → Valid (cond (is_queued p) (gives (Flag false) (with_dpcs s (duplicated s.dpcs))) (gives (Flag true) (with_dpcs s (accepted s.dpcs address first second origin.Caller)))).state
      go Idle q n d f z = valid-dpcs (accepted s.dpcs address first second origin.Caller)
          (queueing-accepted limit s.dpcs v.queueing address first second origin.Caller d f (sym (phase-found table address d f) ∙ q) (few (leb lifetime s.dpcs.counters.accepted) refl z))
          (queued d f n)
        where
          few : (b : Bool) → leb lifetime s.dpcs.counters.accepted ≡ b → ◌≡◌ {A = ℕ} (cond b 14 0) 0 → s.dpcs.counters.accepted < lifetime
          few true y z' = absurd (omega arith)
          few false y z' = leb-false lifetime s.dpcs.counters.accepted y

          queued : (d : Dpc) → dpc_at table address ≡ some d → is_named s.dispatcher.objects address ≡ false → Linked s.dispatcher.objects (accepted s.dpcs address first second origin.Caller).table
          queued d f n = unfold accepted in (linked-rephased s.dispatcher.objects table v.queueing.rising address d f (Queued (new_work s.dpcs first second origin.Caller))
              (λ k t g i y w x. absurd (unnamed s.dispatcher.objects address n k t g i y)) v.linked)
      go (Queued w) q n d f z = valid-dpcs (duplicated s.dpcs) (queueing-duplicated limit s.dpcs v.queueing) same
        where
          same : Linked s.dispatcher.objects (duplicated s.dpcs).table
          same = unfold duplicated in v.linked
      go (Running w) q n d f z = absurd (omega arith)
      go (Returning w) q n d f z = absurd (omega arith)

  -- ---- remove_queue_dpc

  pub valid-remove : (address : ℕ) → Valid (dpc_removed s address).state
  unfolding dpc_removed
  valid-remove address = go (is_queued (phase_at table address)) refl
    where
      go : (b : Bool) → is_queued (phase_at table address) ≡ b → Valid (cond b (gives (Flag true) (with_dpcs s (withdrawn s.dpcs address))) (gives (Flag false) s)).state
      go true e =
          let w = queued-work (phase_at table address) e in
          let d = phase-known table address (ap is_idle w.1) in
          valid-dpcs (withdrawn s.dpcs address) (queueing-withdrawn limit s.dpcs v.queueing address d.0 d.1 w.0 (sym (phase-found table address d.0 d.1) ∙ w.1)) (withdrawn-linked address d.0 d.1)
      go false e = v

  -- ---- start_dpc

  head-is : (a : ℕ) (l : List ℕ) → is_head a l ≡ true → (xs : List ℕ) × (l ≡ a ∷ xs)
  head-is a [] e = absurd (not-both (sym e))
  head-is a (x ∷ xs) e = (xs, ap (λ (y : ℕ). y ∷ xs) (eqb-true x a e))

  pub valid-start : (address : ℕ) → start_refusal s address ≡ 0 → Valid (dpc_started s address (phase_at table address)).state
  unfolding start_refusal dpc_started
  valid-start address e =
      let r₁ = passes (present (active_dpc table)) 21 _ e in
      let r₂ = holds (is_head address s.dpcs.queue && is_queued (phase_at table address)) 21 0 r₁.1 in
      let a = and-true (is_head address s.dpcs.queue) (is_queued (phase_at table address)) r₂.0 in
      let h = head-is address s.dpcs.queue a.0 in
      go (phase_at table address) refl r₁.0 h.0 h.1
    where
      go : (p : DpcPhase) → phase_at table address ≡ p → present (active_dpc table) ≡ false → (xs : List ℕ) → s.dpcs.queue ≡ address ∷ xs → Valid (dpc_started s address p).state
      go Idle q n xs h = v
      go (Queued w) q n xs h =
          let d = phase-known table address (ap is_idle q) in
          valid-dpcs (started s.dpcs address w) (queueing-started limit s.dpcs v.queueing address xs h d.0 d.1 w (sym (phase-found table address d.0 d.1) ∙ q) n) (linked d)
        where
          linked : (d : Dpc) × (dpc_at table address ≡ some d) → Linked s.dispatcher.objects (started s.dpcs address w).table
          linked d = unfold started in (unqueued address d.0 d.1 (Running w) refl)
      go (Running w) q n xs h = v
      go (Returning w) q n xs h = v

  -- ---- returned_dpc, restored_dpc

  pub valid-returned : (address : ℕ) → Valid (dpc_returned s address (phase_at table address)).state
  unfolding dpc_returned
  valid-returned address = go (phase_at table address) refl
    where
      go : (p : DpcPhase) → phase_at table address ≡ p → Valid (dpc_returned s address p).state
      go Idle q = v
      go (Queued w) q = v
      go (Running w) q =
          let d = phase-known table address (ap is_idle q) in
          valid-dpcs (returned s.dpcs address w) (queueing-returned limit s.dpcs v.queueing address d.0 d.1 w (sym (phase-found table address d.0 d.1) ∙ q)) (linked d)
        where
          linked : (d : Dpc) × (dpc_at table address ≡ some d) → Linked s.dispatcher.objects (returned s.dpcs address w).table
          linked d = unfold returned in (unqueued address d.0 d.1 (Returning w) refl)
      go (Returning w) q = v

  pub valid-restored : (address n : ℕ) → restored_refusal s address n ≡ 0 → Valid (with_dpcs s (restored s.dpcs address))
  unfolding restored_refusal
  valid-restored address n e =
      let r₁ = holds (present (dpc_at table address)) 1 (cond (returns_with n (phase_at table address)) 0 22) e in
      let r₂ = holds (returns_with n (phase_at table address)) 21 0 r₁.1 in
      go (phase_at table address) refl r₂.0
    where
      go : (p : DpcPhase) → phase_at table address ≡ p → returns_with n p ≡ true → Valid (with_dpcs s (restored s.dpcs address))
      go Idle q z = absurd (not-both (sym z))
      go (Queued w) q z = absurd (not-both (sym z))
      go (Running w) q z = absurd (not-both (sym z))
      go (Returning w) q z =
          let d = phase-known table address (ap is_idle q) in
          valid-dpcs (restored s.dpcs address) (queueing-restored limit s.dpcs v.queueing address d.0 d.1 w (sym (phase-found table address d.0 d.1) ∙ q)) (linked d)
        where
          linked : (d : Dpc) × (dpc_at table address ≡ some d) → Linked s.dispatcher.objects (restored s.dpcs address).table
          linked d = unfold restored in (unqueued address d.0 d.1 Idle refl)
