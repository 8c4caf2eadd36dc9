-- Calls on threads: each keeps a valid state valid.
use Prim.Native.Nat.{ℕ, ◌+◌, ◌≤◌}
use mathlib.Core.List.{List, [], ◌∷◌}
use mathlib.Core.Bool.{Bool, true, false, cond, not}
use mathlib.Core.Path.{◌≡◌, refl, sym, ap, ◌∙◌, subst}
use mathlib.Core.Logic.{inl}
use mathlib.Core.Option.{Option, some}
use native.Mathlib.Omega.{arith}
use borrow.Author.Tests.{eq-eqb, eqb-true, eqb-false, leb-false, ltb-false, not-false}
use lib.Dec.{eqb, leb, ltb}
use lib.ListN.{length}
use Rattle.model.specs.Lists.{Mem, any, is_empty, largest}
use Rattle.model.specs.State.{State, Limits, Dispatcher, Thread, Status, running, ready, waiting, exited, Wait, WaitResult, satisfied, timeout, Named, Mutex, mutex}
use Rattle.model.specs.Threads.{count, thread_of, status_of, priority_of, is_thread, is_ready, is_waiting, is_running, has_exited, with_thread, with_objects, with_sequence, with_status, with_priority, with_result, waiting_thread, becomes, created, prioritized, yielded, terminated, blocked, next, queue_of, ran}
use Rattle.model.specs.Waits.{key_of, object_at, mutexes_of, exists, is_met, can_wake, reached, takes, index, wake}
use Rattle.model.specs.Refusal.{not_priority, create_refusal, priority_refusal, yield_refusal, owns_mutex, terminate_refusal, bad_list, has_duplicate, pairs, sequence_refusal, wait_refusal, delay_refusal}
use Rattle.model.specs.Step.{with_dispatcher, with_own_result, granted, timed_out, blocks, waited, delayed, dispatched, idle_answer}
use Rattle.model.specs.Answer.{gives, Run}
use Rattle.model.specs.Valid.{WaitValid, Sound, Quiet, InTime, Linked, Valid}
use Rattle.model.proofs.ListLaws.{not-both, neither, any_false, mem-keep, keep-mem, mem-member, largest-reached, first-mem}
use Rattle.model.proofs.TableLaws.{found}
use Rattle.model.proofs.ThreadLaws.{stands-somewhere}
use Rattle.model.proofs.ObjectLaws.{takes-restated}
use Rattle.model.proofs.SoundLaws.{sound-becomes, quiet-becomes, in-time-becomes, sound-same, quiet_same, in-time-same, sound-sequence, unmet-sequence, quiet-sequence, is_live_lem, thread-is, waits-on}
use Rattle.model.proofs.CreateLaws.{sound-created, quiet-created, in-time-created}
use Rattle.model.proofs.WakeLaws.{sound-restated, quiet-restated, wake-quiet, wake-in-time}
use Rattle.model.proofs.LinkLaws.{linked-same}
use Rattle.model.proofs.RowLaws.{passes, holds, priority-ok, mutex-mem}

-- ---- what a status is

pub ready-only : (x : Status) → is_ready x ≡ true → x ≡ ready
ready-only running e = absurd (not-both (sym e))
ready-only ready e = refl
ready-only (waiting w) e = absurd (not-both (sym e))
ready-only (exited n) e = absurd (not-both (sym e))

pub running-only : (x : Status) → is_running x ≡ true → x ≡ running
running-only running e = refl
running-only ready e = absurd (not-both (sym e))
running-only (waiting w) e = absurd (not-both (sym e))
running-only (exited n) e = absurd (not-both (sym e))

module _ (s : State) (v : Valid s) where
  -- the state with another dispatcher
  pub valid-dispatcher : (d : Dispatcher) → Sound s.limits d → Quiet d → InTime s.now d → Linked d.objects s.dpcs.table → Valid (with_dispatcher s d)
  valid-dispatcher d a q i l = record {
    limits = v.limits;
    sound = a;
    quiet = q;
    in_time = i;
    queueing = v.queueing;
    linked = l;
    policy = v.policy;
    timers_lived = v.timers_lived;
    dpcs_lived = v.dpcs_lived;
  }

  abbrev d₀ : Dispatcher
  d₀ = s.dispatcher

  abbrev lim : Limits
  lim = s.limits

  -- the current thread is one, and runs
  pub current-known : (d₀.current ≡ 0 → ⊥) → (1 ≤ d₀.current) × (d₀.current ≤ count d₀) × (status_of d₀ d₀.current ≡ running)
  current-known n =
      let h : 1 ≤ d₀.current = omega (arith, n) in
      let r : is_running (status_of d₀ d₀.current) ≡ true = sym (v.sound.standing.current_runs d₀.current h) ∙ eq-eqb d₀.current d₀.current refl in
      (h, (stands-somewhere d₀.threads d₀.current is_running refl r).1, running-only (status_of d₀ d₀.current) r)

  -- ---- create_thread

  pub valid-create : (p : ℕ) → create_refusal s p ≡ 0 → Valid (with_dispatcher s (created d₀ p))
  unfolding create_refusal
  valid-create p e =
      let a = passes (not_priority p) 0 (cond (leb lim.threads (count d₀)) 4 0) e in
      let b = passes (leb lim.threads (count d₀)) 3 0 a.1 in
      valid-dispatcher (created d₀ p) (sound-created d₀ p lim (priority-ok p a.0) (leb-false lim.threads (count d₀) b.0) v.sound)
      (quiet-created d₀ p v.quiet) (in-time-created d₀ p s.now v.in_time) (same p)
    where
      same : (p : ℕ) → Linked (created d₀ p).objects s.dpcs.table
      same p = unfold created becomes in v.linked

  -- ---- priority

  pub valid-priority : (id p : ℕ) → priority_refusal s id p ≡ 0 → Valid (with_dispatcher s (prioritized d₀ id p))
  unfolding priority_refusal prioritized becomes
  valid-priority id p e =
      let a = passes (not_priority p) 0 (cond (is_thread d₀ id) (cond (has_exited (status_of d₀ id)) 11 0) 2) e in
      let b = holds (is_thread d₀ id) 1 (cond (has_exited (status_of d₀ id)) 11 0) a.1 in
      let k = thread-is d₀ id b.0 in
      go (is_ready (status_of d₀ id)) refl (priority-ok p a.0) k
    where
      t : Thread
      t = with_priority (thread_of d₀ id) p

      go : (b : Bool) → is_ready (status_of d₀ id) ≡ b → (1 ≤ p) × (p ≤ 31) → (1 ≤ id) × (id ≤ count d₀) → Valid (with_dispatcher s (cond b (becomes d₀ id t) (with_thread d₀ id t)))
      go true r hp k =
          let x : status_of d₀ id ≡ ready = ready-only (status_of d₀ id) r in
          valid-dispatcher (becomes d₀ id t)
          (sound-becomes lim d₀ v.sound id t
          (record { from = k.0; to = k.1; runs = λ q. absurd (not-both (sym q ∙ ap is_running x)); later = λ q. absurd (not-both (sym q ∙ ap is_waiting x)); below = λ q. absurd (not-both (sym q ∙ ap is_waiting x)) })
          hp (v.sound.waits id) (λ q. absurd (not-both (sym q ∙ ap has_exited x))))
          (quiet-becomes lim d₀ v.sound id t (ap has_exited x) (v.quiet id) v.quiet)
          (in-time-becomes lim d₀ v.sound id t s.now (v.in_time id) v.in_time)
          v.linked
      go false r hp k = valid-dispatcher (with_thread d₀ id t) (sound-same lim d₀ v.sound id t refl (λ a b. hp)) (quiet_same lim d₀ v.sound id t refl v.quiet) (in-time-same lim d₀ v.sound id t s.now refl v.in_time) v.linked

  -- ---- yield_current

  pub valid-yield : yield_refusal s ≡ 0 → Valid (with_dispatcher s (yielded d₀))
  unfolding yield_refusal yielded becomes
  valid-yield e =
      let a = passes (eqb d₀.current 0) 2 0 e in
      let k = current-known (eqb-false d₀.current 0 a.0) in
      let id = d₀.current in
      let t = with_status (thread_of d₀ id) ready in
      valid-dispatcher (becomes d₀ id t)
      (sound-becomes lim d₀ v.sound id t
      (record { from = k.0; to = k.1; runs = λ q. absurd (not-both (sym q)); later = λ q. absurd (not-both (sym q)); below = λ q. absurd (not-both (sym q)) })
      (v.sound.priorities id k.0 k.1) tt (λ q. absurd (not-both (sym q))))
      (quiet-becomes lim d₀ v.sound id t refl refl v.quiet) (in-time-becomes lim d₀ v.sound id t s.now refl v.in_time) v.linked

  -- ---- terminate

  pub valid-terminate : (status : ℕ) → terminate_refusal s ≡ 0 → Valid (with_dispatcher s (wake (terminated d₀ status)))
  unfolding terminate_refusal terminated becomes
  valid-terminate status e =
      let a = passes (eqb d₀.current 0) 2 (cond (owns_mutex d₀.objects d₀.current) 10 0) e in
      let b = passes (owns_mutex d₀.objects d₀.current) 9 0 a.1 in
      let k = current-known (eqb-false d₀.current 0 a.0) in
      let id = d₀.current in
      let t = with_status (thread_of d₀ id) (exited status) in
      let d₁ = becomes d₀ id t in
      let a₁ = sound-becomes lim d₀ v.sound id t
      (record { from = k.0; to = k.1; runs = λ q. absurd (not-both (sym q)); later = λ q. absurd (not-both (sym q)); below = λ q. absurd (not-both (sym q)) })
      (v.sound.priorities id k.0 k.1) tt (λ q. unowned b.0) in
      let w = wake-quiet lim d₁ a₁ in
      valid-dispatcher (wake d₁) w.0.sound w.1 (wake-in-time lim d₁ a₁ s.now (in-time-becomes lim d₀ v.sound id t s.now refl v.in_time))
      (linked-same d₁.objects (wake d₁).objects s.dpcs.table w.0.same v.linked)
    where
      unowned : owns_mutex d₀.objects d₀.current ≡ false → (k : ℕ) (m : Mutex) → object_at d₀.objects k ≡ some (mutex m) → m.owner ≡ d₀.current → ⊥
      unowned q k m f z = not-both (sym (eq-eqb m.owner d₀.current z)
          ∙ any_false (λ (y : Mutex). eqb y.owner d₀.current) (mutexes_of d₀.objects) q m (mutex-mem d₀.objects m (found key_of d₀.objects k (mutex m) f).0))

  -- ---- dispatch

  placed-range : (i : ℕ) → Mem i d₀.placed → (1 ≤ i) × (i ≤ count d₀) × (status_of d₀ i ≡ ready)
  placed-range i m =
      let r : is_ready (status_of d₀ i) ≡ true = sym (v.sound.standing.placed_ready i) ∙ mem-member i d₀.placed m in
      let k = stands-somewhere d₀.threads i is_ready refl r in (k.0, k.1, ready-only (status_of d₀ i) r)

  pub next-placed : is_empty d₀.placed ≡ false → (Mem (next d₀) d₀.placed) × (priority_of d₀ (next d₀) ≡ largest (priority_of d₀) d₀.placed)
  next-placed e = go d₀.placed refl e
    where
      top : ℕ
      top = largest (priority_of d₀) d₀.placed

      go : (l : List ℕ) → d₀.placed ≡ l → is_empty l ≡ false → (Mem (next d₀) d₀.placed) × (priority_of d₀ (next d₀) ≡ largest (priority_of d₀) d₀.placed)
      go [] f z = absurd (not-both z)
      go (x ∷ xs) f z =
          let r = subst (λ (l : List ℕ). (y : ℕ) × (Mem y l) × (priority_of d₀ y ≡ largest (priority_of d₀) l)) (sym f) (largest-reached (priority_of d₀) x xs) in
          let m = first-mem (queue_of d₀ top) r.0 (keep-mem (λ y. eqb (priority_of d₀ y) top) r.0 d₀.placed r.1 (eq-eqb (priority_of d₀ r.0) top r.2)) in
          let h = mem-keep (λ y. eqb (priority_of d₀ y) top) (next d₀) d₀.placed m in
          (h.0, eqb-true (priority_of d₀ (next d₀)) top h.1)

  valid-run : (id : ℕ) → d₀.current ≡ 0 → Mem id d₀.placed → Valid (with_dispatcher s (ran d₀ id))
  unfolding ran becomes
  valid-run id z m =
      let k = placed-range id m in
      let t = with_status (thread_of d₀ id) running in
      valid-dispatcher (becomes d₀ id t)
      (sound-becomes lim d₀ v.sound id t
      (record { from = k.0; to = k.1; runs = λ q. inl z; later = λ q. absurd (not-both (sym q)); below = λ q. absurd (not-both (sym q)) })
      (v.sound.priorities id k.0 k.1) tt (λ q. absurd (not-both (sym q))))
      (quiet-becomes lim d₀ v.sound id t refl refl v.quiet) (in-time-becomes lim d₀ v.sound id t s.now refl v.in_time) v.linked

  pub valid-dispatch : Valid (dispatched s).state
  unfolding dispatched
  valid-dispatch = go (eqb d₀.current 0) (is_empty d₀.placed) refl refl
    where
      go : (a b : Bool) → eqb d₀.current 0 ≡ a → is_empty d₀.placed ≡ b
          → Valid (cond a (cond b (gives (idle_answer d₀) s) (gives (Run (next d₀)) (with_dispatcher s (ran d₀ (next d₀))))) (gives (Run d₀.current) s)).state
      go true true p q = v
      go true false p q = valid-run (next d₀) (eqb-true d₀.current 0 p) (next-placed q).0
      go false b p q = v

  -- ---- waiting

  valid-own-result : (d : Dispatcher) → Sound lim d → Quiet d → InTime s.now d → Linked d.objects s.dpcs.table → (r : WaitResult) → Valid (with_dispatcher s (with_own_result d (some r)))
  valid-own-result d a q i l r =
      let t = with_result (thread_of d d.current) (some r) in
      valid-dispatcher (with_thread d d.current t) (sound-same lim d a d.current t refl (λ x y. a.priorities d.current x y)) (quiet_same lim d a d.current t refl q) (in-time-same lim d a d.current t s.now refl i) l

  pub valid-granted : (d₀.current ≡ 0 → ⊥) → (ns : List Named) (all : Bool) → Valid (granted s ns all).state
  unfolding granted
  valid-granted n ns all =
      let k = current-known n in
      let r = takes-restated d₀ d₀.current k.0 (is_live_lem d₀ d₀.current k.0 k.1 (ap has_exited k.2)) ns all v.sound.rising v.sound.owners in
      let l = takes d₀ d₀.current ns all in
      valid-own-result (with_objects d₀ l) (sound-restated lim d₀ v.sound l r.0) (quiet-restated lim d₀ v.sound l r.0 r.1 v.quiet) v.in_time
      (linked-same d₀.objects l s.dpcs.table r.0.same v.linked) (satisfied (index d₀ ns all))

  pub valid-timed-out : Valid (timed_out s).state
  unfolding timed_out
  valid-timed-out = valid-own-result d₀ v.sound v.quiet v.in_time v.linked timeout

  pub valid-blocks : (d₀.current ≡ 0 → ⊥) → (ns : List Named) (all : Bool) (deadline : Option ℕ) → WaitValid d₀ (record { objects = ns; all = all; deadline = deadline; sequence = d₀.sequence })
      → can_wake d₀ (record { objects = ns; all = all; deadline = deadline; sequence = d₀.sequence }) ≡ false → reached deadline s.now ≡ false → Valid (blocks s ns all deadline).state
  unfolding blocks blocked becomes
  valid-blocks n ns all deadline ok unmet early =
      let k = current-known n in
      let id = d₀.current in
      let w : Wait = record { objects = ns; all = all; deadline = deadline; sequence = d₀.sequence } in
      let t = waiting_thread (thread_of d₀ id) w in
      let d₁ = with_sequence d₀ (d₀.sequence + 1) in
      let a₁ = sound-sequence lim d₀ v.sound (d₀.sequence + 1) (omega arith) in
      valid-dispatcher (becomes d₁ id t)
      (sound-becomes lim d₁ a₁ id t
      (record { from = k.0; to = k.1; runs = λ q. absurd (not-both (sym q)); later = λ q i m z. v.sound.standing.below i m; below = λ q. omega arith })
      (v.sound.priorities id k.0 k.1) (waits-on d₀ d₁ (waiting w) (λ x m e. e) ok) (λ q. absurd (not-both (sym q))))
      (quiet-becomes lim d₁ a₁ id t refl (unmet-sequence lim d₀ v.sound (d₀.sequence + 1) w unmet) (quiet-sequence lim d₀ v.sound (d₀.sequence + 1) v.quiet)) (in-time-becomes lim d₁ a₁ id t s.now early v.in_time) v.linked

  wait-ok : (l : List ℕ) (all : Bool) (deadline : Option ℕ) → bad_list l ≡ false → any (λ (n : Named). not (exists d₀ n)) (pairs l) ≡ false
      → WaitValid d₀ (record { objects = pairs l; all = all; deadline = deadline; sequence = d₀.sequence })
  unfolding bad_list
  wait-ok l all deadline e f =
      let a = neither (is_empty (pairs l)) (cond (ltb 64 (length (pairs l))) true (cond (has_duplicate (pairs l)) true (cond (eqb (Prim.Native.Nat.◌%◌ (length l) 2) 1) true (any (λ (n : Named). ltb 3 n.kind) (pairs l))))) e in
      let b = neither (ltb 64 (length (pairs l))) (cond (has_duplicate (pairs l)) true (cond (eqb (Prim.Native.Nat.◌%◌ (length l) 2) 1) true (any (λ (n : Named). ltb 3 n.kind) (pairs l)))) a.1 in
      let c = neither (has_duplicate (pairs l)) (cond (eqb (Prim.Native.Nat.◌%◌ (length l) 2) 1) true (any (λ (n : Named). ltb 3 n.kind) (pairs l))) b.1 in
      let g = neither (eqb (Prim.Native.Nat.◌%◌ (length l) 2) 1) (any (λ (n : Named). ltb 3 n.kind) (pairs l)) c.1 in
      record {
        few = ltb-false 64 (length (pairs l)) b.0;
        kinds = λ n m. ltb-false 3 n.kind (any_false (λ (x : Named). ltb 3 x.kind) (pairs l) g.1 n m);
        once = c.0;
        exist = λ n m. not-false (exists d₀ n) (any_false (λ (x : Named). not (exists d₀ x)) (pairs l) f n m);
        delay = λ z. absurd (not-both (sym (ap is_empty z) ∙ a.0));
      }

  pub valid-wait : (l : List ℕ) (all : Bool) (deadline : Option ℕ) (irql : ℕ) → wait_refusal s l all deadline irql ≡ 0 → Valid (waited s (pairs l) all deadline).state
  unfolding wait_refusal waited bad_list
  valid-wait l all deadline irql e =
      let a = passes (eqb d₀.current 0) 2 _ e in
      let b = passes (bad_list l) 6 _ a.1 in
      let c = passes (any (λ (n : Named). not (exists d₀ n)) (pairs l)) 1 _ b.1 in
      go (is_met d₀ (pairs l) all) (reached deadline s.now) refl refl (eqb-false d₀.current 0 a.0) b.0 c.0
    where
      go : (x y : Bool) → is_met d₀ (pairs l) all ≡ x → reached deadline s.now ≡ y → (d₀.current ≡ 0 → ⊥) → bad_list l ≡ false → any (λ (n : Named). not (exists d₀ n)) (pairs l) ≡ false
          → Valid (cond x (granted s (pairs l) all) (cond y (timed_out s) (blocks s (pairs l) all deadline))).state
      go true y p q n f g = valid-granted n (pairs l) all
      go false true p q n f g = valid-timed-out
      go false false p q n f g = valid-blocks n (pairs l) all deadline (wait-ok l all deadline f g) (still (is_empty (pairs l)) p) q
        where
          still : (b : Bool) → is_met d₀ (pairs l) all ≡ false → cond b false (is_met d₀ (pairs l) all) ≡ false
          still true z = refl
          still false z = z

  pub valid-delay : (deadline irql : ℕ) → delay_refusal s deadline irql ≡ 0 → Valid (delayed s deadline).state
  unfolding delay_refusal delayed
  valid-delay deadline irql e =
      let a = passes (ltb 1 irql) 8 (cond (eqb d₀.current 0) 3 (cond (leb deadline s.now) 0 (sequence_refusal s))) e in
      let b = passes (eqb d₀.current 0) 2 (cond (leb deadline s.now) 0 (sequence_refusal s)) a.1 in
      go (leb deadline s.now) refl (eqb-false d₀.current 0 b.0)
    where
      go : (x : Bool) → leb deadline s.now ≡ x → (d₀.current ≡ 0 → ⊥) → Valid (cond x (timed_out s) (blocks s [] false (some deadline))).state
      go true p n = valid-timed-out
      go false p n = valid-blocks n [] false (some deadline) (record { few = omega arith; kinds = λ x m. absurd m; once = refl; exist = λ x m. absurd m; delay = λ z. refl }) refl p
