-- A new thread: what it keeps.
use Prim.Native.Nat.{ℕ, suc, ◌≤◌, ◌<◌}
use mathlib.Core.List.{List, [], ◌∷◌, ◌++◌}
use mathlib.Core.Bool.{Bool, true, false, cond}
use mathlib.Core.Path.{◌≡◌, refl, sym, ap, ◌∙◌, subst}
use native.Mathlib.Omega.{arith}
use native.Mathlib.Decide.{ℕ_discrete}
use lib.Dec.{eqb}
use lib.ListN.{length}
use lib.Seq.{set-append_seam}
use Rattle.model.specs.Lists.{given}
use Rattle.model.specs.State.{Limits, Dispatcher, Thread, Named, Object}
use Rattle.model.specs.Threads.{count, thread_at, status_of, is_thread, is_live, has_exited, wait_of, new_thread, becomes, created}
use Rattle.model.specs.Waits.{named_in, is_free, is_available, can_wake, reached}
use Rattle.model.specs.Valid.{WaitingValid, Sound, Quiet, InTime}
use Rattle.model.proofs.ListLaws.{not-both}
use Rattle.model.proofs.ThreadLaws.{append-length, append-old, append-new, append-either, standing-new}
use Rattle.model.proofs.ObjectLaws.{wake-falls}
use Rattle.model.proofs.SoundLaws.{waits-on, exists-on, thread-is, is-thread, is_live_lem, live-is, owner-on}

module _ (d : Dispatcher) (p : ℕ) where
  -- the threads after it: those before, and the new one
  pub created-threads : (created d p).threads ≡ d.threads ++ (new_thread p ∷ [])
  unfolding created becomes
  created-threads = set-append_seam d.threads (new_thread p) [] (new_thread p)

  pub created-count : count (created d p) ≡ suc (count d)
  created-count = ap length created-threads ∙ append-length d.threads (new_thread p)

  created-either : (P : Thread → Type 0) (i : ℕ) → P (new_thread p) → P (thread_at d.threads i) → P (thread_at (created d p).threads i)
  created-either P i a b = subst (λ (l : List Thread). P (thread_at l i)) (sym created-threads) (append-either P d.threads (new_thread p) i a b)

  pub created-old : (i : ℕ) → i ≤ count d → thread_at (created d p).threads i ≡ thread_at d.threads i
  created-old i h = ap (λ (l : List Thread). thread_at l i) created-threads ∙ append-old d.threads (new_thread p) i h

  created-objects : (created d p).objects ≡ d.objects
  unfolding created becomes
  created-objects = refl

  created-available : (n : Named) → is_available (created d p) n ≡ true → is_available d n ≡ true
  created-available n e = go (eqb n.kind 3) e
    where
      back : (b : Bool) → is_thread (created d p) n.key ≡ b → cond b (has_exited (status_of (created d p) n.key)) false ≡ true → cond (is_thread d n.key) (has_exited (status_of d n.key)) false ≡ true
      back true q z =
          let k = thread-is (created d p) n.key q in
          elim (ℕ_discrete n.key (suc (count d))) [
            | yes y ↦ absurd (not-both (sym z ∙ ap (λ (x : Thread). has_exited x.status)
                (ap (thread_at (created d p).threads) y ∙ ap (λ (l : List Thread). thread_at l (suc (count d))) created-threads ∙ append-new d.threads (new_thread p))))
            | no y ↦ let h : n.key ≤ count d = omega (arith, k.1, created-count, y) in
                ap (λ (b : Bool). cond b (has_exited (status_of d n.key)) false) (is-thread d n.key k.0 h)
                ∙ ap (λ (x : Thread). has_exited x.status) (sym (created-old n.key h)) ∙ z
          ]
      back false q z = absurd (not-both (sym z))

      go : (b : Bool) → cond b (cond (is_thread (created d p) n.key) (has_exited (status_of (created d p) n.key)) false) (given (named_in (created d p).objects n) false is_free) ≡ true
          → cond b (cond (is_thread d n.key) (has_exited (status_of d n.key)) false) (given (named_in d.objects n) false is_free) ≡ true
      go true q = back (is_thread (created d p) n.key) refl q
      go false q = ap (λ (l : List Object). given (named_in l n) false is_free) (sym created-objects) ∙ q

  pub quiet-created : Quiet d → Quiet (created d p)
  quiet-created q i = created-either (λ (x : Thread). can_wake (created d p) (wait_of x.status) ≡ false) i refl
      (wake-falls (created d p) d (wait_of (status_of d i)) (λ n m e. created-available n e) (q i))

  pub in-time-created : (now : ℕ) → InTime now d → InTime now (created d p)
  in-time-created now q i = created-either (λ (x : Thread). reached (wait_of x.status).deadline now ≡ false) i refl (q i)

  live-created : (i : ℕ) → is_live d i ≡ true → is_live (created d p) i ≡ true
  live-created i q =
      let v = live-is d i q in
      let k = thread-is d i v.0 in
      is_live_lem (created d p) i k.0 (omega (arith, k.1, created-count)) (ap (λ (x : Thread). has_exited x.status) (created-old i k.1) ∙ v.1)

  pub sound-created : (lim : Limits) → (1 ≤ p) × (p ≤ 31) → count d < lim.threads → Sound lim d → Sound lim (created d p)
  unfolding created becomes
  sound-created lim hp room s = record {
    some = omega (arith, created-count);
    few = omega (arith, created-count);
    priorities = λ i a b. elim (ℕ_discrete i (suc (count d))) [
      | yes e ↦ subst (λ (x : Thread). (1 ≤ x.priority) × (x.priority ≤ 31)) (sym (ap (thread_at (created d p).threads) e ∙ ap (λ (l : List Thread). thread_at l (suc (count d))) created-threads ∙ append-new d.threads (new_thread p))) hp
      | no n ↦ let h : i ≤ count d = omega (arith, b, created-count, n) in subst (λ (x : Thread). (1 ≤ x.priority) × (x.priority ≤ 31)) (sym (created-old i h)) (s.priorities i a h)
    ];
    standing = standing-new d.threads d.placed d.waiters d.current d.sequence (new_thread p) refl s.standing;
    waits = λ i. created-either (λ (x : Thread). WaitingValid (created d p) x.status) i tt
        (waits-on d (created d p) (status_of d i) (λ n m e. exists-on d (created d p) (omega (arith, created-count)) refl n e) (s.waits i));
    owners = λ k x e. owner-on d (created d p) x (λ m q. live-created m.owner) (s.owners k x e);
    rising = s.rising;
    room = s.room;
    places = s.places;
  }
