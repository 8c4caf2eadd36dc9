-- After an advance the newly queued work stands behind the old, by due, then address.
use Prim.Native.Nat.{ℕ, zero, suc, ◌+◌, ◌<◌}
use mathlib.Core.List.{List, [], ◌∷◌, ◌++◌}
use mathlib.Core.Bool.{Bool, true, false, cond, not}
use mathlib.Core.Path.{◌≡◌, refl, sym, ap, ◌∙◌, subst}
use mathlib.Core.Logic.{◌⊎◌, inl, inr, ⊎_elim}
use mathlib.Core.Option.{some}
use native.Mathlib.Omega.{arith}
use borrow.Author.Tests.{eq-eqb, ne_eqb, le-leb}
use lib.Dec.{leb}
use lib.ListN.{length}
use Rattle.images.specs.declared.Timer.{Timer}
use Rattle.images.specs.declared.DpcPhase.TheVariants.{Idle}
use Rattle.model.specs.Lists.{Mem, keep, nth}
use Rattle.model.specs.State.{State, timer, Policy, cpu0_dispatch}
use Rattle.model.specs.Waits.{key_of, object_at}
use Rattle.model.specs.Dpcs.{phase_at, is_queued, is_idle, work_of}
use Rattle.model.specs.Timers.{due_timers}
use Rattle.model.specs.Order.{Sooner, ByDue}
use Rattle.model.specs.Call.{AdvanceTo}
use Rattle.model.specs.Step.{refusal, step}
use Rattle.model.specs.Valid.{Valid}
use Rattle.model.proofs.ListLaws.{not-both, mem-keep, keep-mem, append-mem-right, nth-mem, mem-nth, mem-member, member-mem}
use Rattle.model.proofs.TableLaws.{some_same, none-some, found, mem-found}
use Rattle.model.proofs.ObjectLaws.{timer-found}
use Rattle.model.proofs.DpcLaws.{queued-work, phase-found, phase-known}
use Rattle.model.proofs.OrderLaws.{by-due, due-listed, listed-due}
use Rattle.model.proofs.StepLaws.{valid-step}
use Rattle.model.specs.Acceptance.{Reached, OfTimer}
use Rattle.model.specs.Behind.{StandsAt, QueuedBy, InDueOrder}
use Rattle.model.proofs.Firing.{dpcs_of, anew, Fired, Fires}
use Rattle.model.proofs.Told.{asked, timer-told, told-queue, queue-told, told-dpc}
use Rattle.model.proofs.AcceptanceLaws.{of_timer, reached, advance-fires}

-- ---- positions

module _ {A : Type 0} where
  nth-below : (l : List A) (n : ℕ) (x : A) → nth l n ≡ some x → n < length l
  nth-below [] n x e = absurd (none-some x e)
  nth-below (y ∷ l) zero x e = omega arith
  nth-below (y ∷ l) (suc n) x e = omega (arith, nth-below l n x e)

  nth_left : (l r : List A) (n : ℕ) (x : A) → nth l n ≡ some x → nth (l ++ r) n ≡ some x
  nth_left [] r n x e = absurd (none-some x e)
  nth_left (y ∷ l) r zero x e = e
  nth_left (y ∷ l) r (suc n) x e = nth_left l r n x e

  nth-either : (l r : List A) (n : ℕ) (x : A) → nth (l ++ r) n ≡ some x → (nth l n ≡ some x) ⊎ ((i : ℕ) × (n ≡ length l + i) × (nth r i ≡ some x))
  nth-either [] r n x e = inr (n, omega arith, e)
  nth-either (y ∷ l) r zero x e = inl e
  nth-either (y ∷ l) r (suc n) x e = ⊎_elim
      (λ (z : nth l n ≡ some x). inl z)
      (λ (z : (i : ℕ) × (n ≡ length l + i) × (nth r i ≡ some x)). inr (z.0, omega (arith, z.1), z.2))
      (nth-either l r n x e)

dpc-mem : (ts : List Timer) (t : Timer) → Mem t ts → Mem t.dpc (dpcs_of ts)
dpc-mem [] t m = absurd m
dpc-mem (u ∷ ts) t (inl e) = inl (ap (λ (x : Timer). x.dpc) e)
dpc-mem (u ∷ ts) t (inr m) = inr (dpc-mem ts t m)

nth-dpc : (ts : List Timer) (n a : ℕ) → nth (dpcs_of ts) n ≡ some a → (t : Timer) × (nth ts n ≡ some t) × (t.dpc ≡ a)
nth-dpc [] n a e = absurd (none-some a e)
nth-dpc (t ∷ ts) zero a e = (t, refl, some_same t.dpc a e)
nth-dpc (t ∷ ts) (suc n) a e = nth-dpc ts n a e

-- ---- timers by due

keep-by-due : (f : Timer → Bool) (ts : List Timer) → ByDue ts → ByDue (keep f ts)
keep-by-due f [] h = tt
keep-by-due f (t ∷ ts) h = go (f t) (keep-by-due f ts h.1)
  where
    go : (b : Bool) → ByDue (keep f ts) → ByDue (cond b (t ∷ keep f ts) (keep f ts))
    go true k = (λ u m. h.0 u (mem-keep f u ts m).0, k)
    go false k = k

nth-sooner : (ts : List Timer) → ByDue ts → (m n : ℕ) (t u : Timer) → nth ts m ≡ some t → nth ts n ≡ some u → m < n → Sooner t u
nth-sooner [] h m n t u p q l = absurd (none-some t p)
nth-sooner (x ∷ ts) h m zero t u p q l = absurd (omega arith)
nth-sooner (x ∷ ts) h zero (suc n) t u p q l = subst (λ (y : Timer). Sooner y u) (some_same x t p) (h.0 u (nth-mem ts n u q))
nth-sooner (x ∷ ts) h (suc m) (suc n) t u p q l = nth-sooner ts h.1 m n t u p q (omega arith)

-- ---- an advance

module _ (s : State) (v : Valid s) (time : ℕ) (e : refusal (AdvanceTo time) s ≡ 0) where
  abbrev s₁ : State
  s₁ = (step (AdvanceTo time) s).state

  abbrev due : List Timer
  due = due_timers s.policy time s.dispatcher.objects

  -- the timers whose work is new
  abbrev fresh : List Timer
  fresh = keep (anew s.dpcs) due

  fires : Fires s.policy time s.dpcs due s₁.dpcs
  fires = advance-fires s v time e

  -- old work keeps its place
  pub keeps-place : (n a : ℕ) → StandsAt (asked s) n a → StandsAt (asked s₁) n a
  keeps-place n a h = told-queue s₁ n a (ap (λ (l : List ℕ). nth l n) fires.queue ∙ nth_left s.dpcs.queue (dpcs_of fresh) n a (queue-told s n a h))

  -- a place after the advance: one of the old, or of the new
  place : (n a : ℕ) → StandsAt (asked s₁) n a → (nth s.dpcs.queue n ≡ some a) ⊎ ((i : ℕ) × (n ≡ length s.dpcs.queue + i) × (nth (dpcs_of fresh) i ≡ some a))
  place n a h = nth-either s.dpcs.queue (dpcs_of fresh) n a (ap (λ (l : List ℕ). nth l n) (sym fires.queue) ∙ queue-told s₁ n a h)

  -- the DPC of a new one was idle
  was-idle : (t : Timer) → Mem t fresh → phase_at s.dpcs.table t.dpc ≡ Idle
  was-idle t m = let k = mem-keep (anew s.dpcs) t due m in fires.idle t k.0 k.1

  new-idle : (i a : ℕ) → nth (dpcs_of fresh) i ≡ some a → phase_at s.dpcs.table a ≡ Idle
  new-idle i a h = let r = nth-dpc fresh i a h in subst (λ (b : ℕ). phase_at s.dpcs.table b ≡ Idle) r.2 (was-idle r.0 (nth-mem fresh i r.0 r.1))

  -- so it was not in the queue
  new-not-old : (i j a : ℕ) → nth (dpcs_of fresh) i ≡ some a → nth s.dpcs.queue j ≡ some a → ⊥
  new-not-old i j a h g =
      not-both (sym (mem-member a s.dpcs.queue (nth-mem s.dpcs.queue j a g)) ∙ v.queueing.queued a ∙ ap is_queued (new-idle i a h))

  -- and old work stands first: what stands before it stood there
  pub old-first : (m n a b i : ℕ) → m < n → StandsAt (asked s₁) m a → StandsAt (asked s₁) n b → StandsAt (asked s) i b → StandsAt (asked s) m a
  old-first m n a b i l p q h = ⊎_elim
      (λ (z : nth s.dpcs.queue m ≡ some a). told-queue s m a z)
      (λ (z : (j : ℕ) × (m ≡ length s.dpcs.queue + j) × (nth (dpcs_of fresh) j ≡ some a)). ⊎_elim
      (λ (y : nth s.dpcs.queue n ≡ some b). absurd (omega (arith, nth-below s.dpcs.queue n b y, z.1)))
      (λ (y : (j : ℕ) × (n ≡ length s.dpcs.queue + j) × (nth (dpcs_of fresh) j ≡ some b)). absurd (new-not-old y.0 i b y.2 (queue-told s i b h)))
      (place n b q))
      (place m a p)

  -- ---- the work of the new ones

  same_timer : (t u : Timer) → Mem t due → Mem u due → (t.dpc ≡ 0 → ⊥) → t.dpc ≡ u.dpc → u ≡ t
  same_timer t u m k n z =
      let f = mem-found key_of s.dispatcher.objects v.sound.rising (timer t) (listed-due s.policy time s.dispatcher.objects t m).0 in
      let g = mem-found key_of s.dispatcher.objects v.sound.rising (timer u) (listed-due s.policy time s.dispatcher.objects u k).0 in
      let a : t.address ≡ u.address = v.linked.alone t.address (timer t) f u.address (timer u) g (reached s v time t m).inserted (reached s v time u k).inserted n z in
      let o : timer u ≡ timer t = some_same (timer u) (timer t) (sym g ∙ ap (object_at s.dispatcher.objects) (sym a) ∙ f) in
      cc

  has-dpc : (t : Timer) → anew s.dpcs t ≡ true → t.dpc ≡ 0 → ⊥
  has-dpc t y z = not-both (sym y ∙ ap (λ (b : Bool). cond b false (not (is_queued (phase_at s.dpcs.table t.dpc)))) (eq-eqb t.dpc 0 z))

  -- the timer queued the DPC, under a policy
  queued-by : (i a : ℕ) (t : Timer) → nth fresh i ≡ some t → t.dpc ≡ a → Mem a s₁.dpcs.queue → ((first second : ℕ) × (s.policy ≡ cpu0_dispatch first second)) × QueuedBy (asked s) (asked s₁) time a t
  queued-by i a t f z m =
      let w = queued-work (phase_at s₁.dpcs.table a) (sym ((valid-step s v (AdvanceTo time)).queueing.queued a) ∙ mem-member a s₁.dpcs.queue m) in
      let x = phase-known s₁.dpcs.table a (ap is_idle w.1) in
      let k = mem-keep (anew s.dpcs) t due (nth-mem fresh i t f) in
      let y = ⊎_elim
      (λ (old : work_of (phase_at s.dpcs.table a) ≡ some w.0). absurd (none-some w.0 (sym (ap work_of (subst (λ (b : ℕ). phase_at s.dpcs.table b ≡ Idle) z (fires.idle t k.0 k.1))) ∙ old)))
      (λ (new : Fired s.policy time s.dpcs s₁.dpcs due a w.0). new)
      (fires.works a w.0 (ap work_of w.1)) in
      let same : y.timer ≡ t = same_timer t y.timer k.0 y.listed (has-dpc t k.1) (z ∙ sym y.dpc) in (
        (w.0.first, w.0.second, y.under),
        record {
          reached = subst (λ (b : ℕ). Reached (asked s) time b t) z (reached s v time t k.0);
          dpc = x.0;
          work = w.0;
          read = told-dpc s₁ a x.0 x.1;
          queued = sym (phase-found s₁.dpcs.table a x.0 x.1) ∙ w.1;
          of_timer = subst (λ (u : Timer). OfTimer time u w.0) same (of_timer time y.timer w.0 y.origin);
        },
      )

  fresh-by-due : (first second : ℕ) → s.policy ≡ cpu0_dispatch first second → ByDue fresh
  fresh-by-due first second p = keep-by-due (anew s.dpcs) due (subst (λ (x : Policy). ByDue (due_timers x time s.dispatcher.objects)) (sym p) (by-due first second time s.dispatcher.objects v.sound.rising))

  -- of two that were not in the queue the first is due earlier, or at the same time and its timer stands lower
  pub new-by-due : (m n a b : ℕ) → m < n → StandsAt (asked s₁) m a → StandsAt (asked s₁) n b → ((i : ℕ) → StandsAt (asked s) i a → ⊥) → InDueOrder (asked s) (asked s₁) time a b
  new-by-due m n a b l p q new = ⊎_elim
      (λ (z : nth s.dpcs.queue m ≡ some a). absurd (new m (told-queue s m a z)))
      (λ (z : (i : ℕ) × (m ≡ length s.dpcs.queue + i) × (nth (dpcs_of fresh) i ≡ some a)). ⊎_elim
      (λ (y : nth s.dpcs.queue n ≡ some b). absurd (omega (arith, nth-below s.dpcs.queue n b y, z.1)))
      (λ (y : (i : ℕ) × (n ≡ length s.dpcs.queue + i) × (nth (dpcs_of fresh) i ≡ some b)).
      let t = nth-dpc fresh z.0 a z.2 in
      let u = nth-dpc fresh y.0 b y.2 in
      let t₁ = queued-by z.0 a t.0 t.1 t.2 (nth-mem s₁.dpcs.queue m a (queue-told s₁ m a p)) in
      let u₁ = queued-by y.0 b u.0 u.1 u.2 (nth-mem s₁.dpcs.queue n b (queue-told s₁ n b q)) in
      record {
        first = t.0;
        second = u.0;
        by_first = t₁.1;
        by_second = u₁.1;
        order = nth-sooner fresh (fresh-by-due t₁.0.0 t₁.0.1 t₁.0.2) z.0 y.0 t.0 u.0 t.1 u.1 (omega (arith, z.1, y.1));
      })
      (place n b q))
      (place m a p)

  -- the DPC of every timer that the advance reached stands in the queue
  pub reached-stands : (a : ℕ) (t : Timer) → (a ≡ 0 → ⊥) → Reached (asked s) time a t → (n : ℕ) × StandsAt (asked s₁) n a
  reached-stands a t n h = go (is_queued (phase_at s.dpcs.table a)) refl
    where
      listed : Mem t due
      listed =
          let f = timer-found (object_at s.dispatcher.objects t.address) t (timer-told s t.address t h.read) in
          due-listed s.policy time s.dispatcher.objects t (found key_of s.dispatcher.objects t.address (timer t) f).0
          (ap (λ (b : Bool). cond b (leb t.due time) false) h.inserted ∙ le-leb t.due time h.due)

      go : (b : Bool) → is_queued (phase_at s.dpcs.table a) ≡ b → (n : ℕ) × StandsAt (asked s₁) n a
      go true q =
          let r = mem-nth s.dpcs.queue a (member-mem a s.dpcs.queue (v.queueing.queued a ∙ q)) in
          (r.0, keeps-place r.0 a (told-queue s r.0 a r.1))
      go false q =
          let new : anew s.dpcs t ≡ true =
          ap (λ (b : Bool). cond b false (not (is_queued (phase_at s.dpcs.table t.dpc)))) (ne_eqb t.dpc 0 (λ z. n (sym h.dpc ∙ z)))
          ∙ ap not (ap (λ (k : ℕ). is_queued (phase_at s.dpcs.table k)) h.dpc ∙ q) in
          let m : Mem t.dpc s₁.dpcs.queue = subst (Mem t.dpc) (sym fires.queue) (append-mem-right t.dpc s.dpcs.queue (dpcs_of fresh) (dpc-mem fresh t (keep-mem (anew s.dpcs) t due listed new))) in
          let r = mem-nth s₁.dpcs.queue a (subst (λ (k : ℕ). Mem k s₁.dpcs.queue) h.dpc m) in
          (r.0, told-queue s₁ r.0 a r.1)
