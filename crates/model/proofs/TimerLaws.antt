-- What the calls on timers mean for a timer: which timers are in the timer queue, what a cancel takes out, and the signed due.
use Prim.Native.Nat.{ℕ, suc, ◌+◌, ◌≤◌}
use mathlib.Core.List.{List, [], ◌∷◌}
use mathlib.Core.Bool.{Bool, true, false, cond, ◌&&◌}
use mathlib.Core.Path.{◌≡◌, refl, sym, ap, ◌∙◌}
use mathlib.Core.Logic.{inl, inr}
use mathlib.Core.Option.{Option, none, some}
use borrow.Author.Tests.{ne_eqb, le-leb}
use lib.Dec.{eqb, leb, ltb}
use lib.IntN.{ℤ, pos, negsuc}
use Rattle.images.specs.declared.Timer.{Timer}
use Rattle.images.specs.declared.DpcPhase.{DpcPhase}
use Rattle.images.specs.declared.DpcPhase.TheVariants.{Idle, Queued, Running, Returning}
use Rattle.model.specs.Lists.{Mem, member, present, given}
use Rattle.model.specs.State.{State, Object, mutex, event, timer, Policy}
use Rattle.model.specs.Threads.{with_objects}
use Rattle.model.specs.Waits.{key_of, object_at, as_timer, timer_at, put_object, wake}
use Rattle.model.specs.Dpcs.{phase_at, is_queued, withdrawn}
use Rattle.model.specs.Timers.{most, cancelled, retimed, is_periodic, next_due, expired, is_due, due_timers, Expired, expire_one, expire_each, refusal_of_each}
use Rattle.model.specs.Refusal.{is_negative, signed_due, set_refusal, set_signed_refusal, unknown_timer, is_unselected, unexpired, advance_refusal}
use Rattle.model.specs.Step.{refusal, effect, step, with_table, with_dpcs, period_of, timer_set, own_queued, cancels_work, timer_cancelled, expired_at, advanced}
use Rattle.model.specs.Answer.{Outcome, gives, Done, Flag, Refused}
use Rattle.model.specs.Call.{AdvanceTo, CancelTimer, SetTimer, SetTimerSigned}
use Rattle.model.specs.Valid.{Valid}
use Rattle.model.specs.Wdk.{in_timer_queue, in_dpc_queue}
use Rattle.model.proofs.ListLaws.{not-both, out-own}
use Rattle.model.proofs.TableLaws.{some_same, found, mem-found, find-put-own, find-put-other}
use Rattle.model.proofs.ObjectLaws.{timer-found, core_of}
use Rattle.model.proofs.SoundLaws.{sound-objects}
use Rattle.model.proofs.WakeLaws.{wake-quiet, timed-out}
use Rattle.model.proofs.ExpiryLaws.{expired-is, Pending, all-expired, pending-on, due-pending}
use Rattle.model.proofs.OrderLaws.{due-listed, listed-due}
use Rattle.model.proofs.RowLaws.{passes}
use Rattle.model.proofs.KeepTimers.{begun}
use Rattle.model.proofs.WdkLaws.{step_is}

-- ---- what the expiry leaves of each timer

-- those that are not listed stay as they are
unlisted : (policy : Policy) (now : ℕ) (ts : List Timer) (e : Expired) (k : ℕ) → ((u : Timer) → Mem u ts → u.address ≡ k → ⊥) → object_at (expire_each policy now e ts).objects k ≡ object_at e.objects k
unlisted policy now [] e k h = refl
unlisted policy now (t ∷ ts) e k h = unlisted policy now ts (expire_one policy now e t) k (λ u m. h u (inr m)) ∙ one
  where
    one : object_at (expire_one policy now e t).objects k ≡ object_at e.objects k
    one = unfold expire_one in (find-put-other key_of (timer (expired now t)) e.objects k (λ z. h t (inl refl) (sym (z ∙ (expired-is now t).0))))

-- the others are expired
listed-expired : (policy : Policy) (now : ℕ) (ts : List Timer) (e : Expired) → Pending e.objects ts → (t : Timer) → Mem t ts → object_at (expire_each policy now e ts).objects t.address ≡ some (timer (expired now t))
listed-expired policy now [] e p t m = absurd m
listed-expired policy now (x ∷ xs) e p t (inl q) =
    ap (λ (y : Timer). object_at (expire_each policy now (expire_one policy now e x) xs).objects y.address) q
    ∙ unlisted policy now xs (expire_one policy now e x) x.address p.2 ∙ one ∙ ap {B = Option Object} (λ (y : Timer). some (timer (expired now y))) (sym q)
  where
    one : object_at (expire_one policy now e x).objects x.address ≡ some (timer (expired now x))
    one = unfold expire_one in (ap (object_at (put_object (timer (expired now x)) e.objects)) (sym (expired-is now x).0) ∙ find-put-own key_of (timer (expired now x)) e.objects)
listed-expired policy now (x ∷ xs) e p t (inr m) = listed-expired policy now xs (expire_one policy now e x) (pending-on policy now e x xs p) t m

-- ---- after an advance

-- signals do not matter: whether a timer is there, and whether it is inserted
same_of : (f : Option Object → Bool) → ((o : Option Object) → f (core_of o) ≡ f o) → (a b : Option Object) → core_of a ≡ core_of b → f a ≡ f b
same_of f h a b e = sym (h a) ∙ ap f e ∙ h b

abbrev is_timer : Option Object → Bool
is_timer o = present (as_timer o)

abbrev is_inserted : Option Object → Bool
is_inserted o = given (as_timer o) false (λ (t : Timer). t.inserted)

core-timer : (o : Option Object) → is_timer (core_of o) ≡ is_timer o
core-timer none = refl
core-timer (some (mutex m)) = refl
core-timer (some (event x)) = refl
core-timer (some (timer t)) = refl

core-inserted : (o : Option Object) → is_inserted (core_of o) ≡ is_inserted o
core-inserted none = refl
core-inserted (some (mutex m)) = refl
core-inserted (some (event x)) = refl
core-inserted (some (timer t)) = refl

module _ (s : State) (v : Valid s) (time : ℕ) (e : refusal (AdvanceTo time) s ≡ 0) where
  abbrev s₁ : State
  s₁ = (step (AdvanceTo time) s).state

  abbrev due : List Timer
  due = due_timers s.policy time s.dispatcher.objects

  not-refused : refusal_of_each s.policy time (unexpired s) due ≡ 0
  unfolding refusal advance_refusal
  not-refused = (passes (ltb time s.now) 11 (refusal_of_each s.policy time (unexpired s) due) e).1

  pending : Pending s.dispatcher.objects due
  pending = due-pending s.policy time s.dispatcher.objects v.sound.rising

  -- but for signals, the objects after the advance are those after the expiry
  after_is : (f : Option Object → Bool) → ((o : Option Object) → f (core_of o) ≡ f o) → (a : ℕ) → f (object_at s₁.dispatcher.objects a) ≡ f (object_at (expired_at s time).objects a)
  unfolding effect advanced
  after_is f h a =
      let x = all-expired s.limits s.dispatcher s.policy time due (unexpired s) (begun s v) pending not-refused in
      let l = (expired_at s time).objects in
      let w = wake-quiet s.limits (with_objects s.dispatcher l) (sound-objects s.limits s.dispatcher v.sound l (λ i n m. x.keeps n) x.owners x.rising x.room x.places) in
      let t = timed-out s.limits time (wake (with_objects s.dispatcher l)) w.0.sound w.1 in
      ap (λ (o : Outcome). f (object_at o.state.dispatcher.objects a)) (step_is (AdvanceTo time) s e)
      ∙ ap (λ (y : List Object). f (object_at y a)) t.objects
      ∙ same_of f h (object_at (wake (with_objects s.dispatcher l)).objects a) (object_at l a) (w.0.same a)

  -- a timer that is due: as it is expired
  due-expired : (a : ℕ) (t : Timer) → timer_at s.dispatcher.objects a ≡ some t → is_due time t ≡ true → object_at (expired_at s time).objects a ≡ some (timer (expired time t))
  due-expired a t f d =
      let g = timer-found (object_at s.dispatcher.objects a) t f in
      let k = found key_of s.dispatcher.objects a (timer t) g in
      let m = due-listed s.policy time s.dispatcher.objects t k.0 d in
      ap (object_at (expired_at s time).objects) (sym k.1) ∙ listed-expired s.policy time due (unexpired s) pending t m

  -- a timer that is not due: as it was
  else-stays : (a : ℕ) (t : Timer) → timer_at s.dispatcher.objects a ≡ some t → is_due time t ≡ false → object_at (expired_at s time).objects a ≡ some (timer t)
  else-stays a t f d =
      let g = timer-found (object_at s.dispatcher.objects a) t f in
      unlisted s.policy time due (unexpired s) a (λ u m z. other u m z g) ∙ g
    where
      other : (u : Timer) → Mem u due → u.address ≡ a → object_at s.dispatcher.objects a ≡ some (timer t) → ⊥
      other u m z g =
          let k = listed-due s.policy time s.dispatcher.objects u m in
          let y : some (timer u) ≡ some (timer t) = sym (mem-found key_of s.dispatcher.objects v.sound.rising (timer u) k.0) ∙ ap (object_at s.dispatcher.objects) z ∙ g in
          let q : timer u ≡ timer t = some_same (timer u) (timer t) y in
          let r : u ≡ t = cc in
          not-both (sym k.1 ∙ ap (is_due time) r ∙ d)

  due-after : (a : ℕ) (t : Timer) → timer_at s.dispatcher.objects a ≡ some t → is_due time t ≡ true → in_timer_queue s₁ a ≡ (expired time t).inserted
  due-after a t f d = after_is is_inserted core-inserted a ∙ ap is_inserted (due-expired a t f d)

  else-after : (a : ℕ) (t : Timer) → timer_at s.dispatcher.objects a ≡ some t → is_due time t ≡ false → in_timer_queue s₁ a ≡ t.inserted
  else-after a t f d = after_is is_inserted core-inserted a ∙ ap is_inserted (else-stays a t f d)

  -- an advance takes no timer away
  pub timer-known : (a : ℕ) (t : Timer) → timer_at s.dispatcher.objects a ≡ some t → present (timer_at s₁.dispatcher.objects a) ≡ true
  timer-known a t f = go (is_due time t) refl
    where
      go : (b : Bool) → is_due time t ≡ b → is_timer (object_at s₁.dispatcher.objects a) ≡ true
      go true d = after_is is_timer core-timer a ∙ ap is_timer (due-expired a t f d)
      go false d = after_is is_timer core-timer a ∙ ap is_timer (else-stays a t f d)

  -- KeCancelTimer is always TRUE for a periodic timer that is set: time does not take it out of the timer queue
  pub periodic-stays : (a : ℕ) (t : Timer) → timer_at s.dispatcher.objects a ≡ some t → t.inserted ≡ true → is_periodic t ≡ true → in_timer_queue s₁ a ≡ true
  periodic-stays a t f i p = go (is_due time t) refl
    where
      inserted-on : (expired time t).inserted ≡ true
      inserted-on = unfold expired in (ap (λ (b : Bool). (cond b (retimed t true true (next_due t.due t.period_ms time)) (retimed t true false t.due)).inserted) p)

      go : (b : Bool) → is_due time t ≡ b → in_timer_queue s₁ a ≡ true
      go true d = due-after a t f d ∙ inserted-on
      go false d = else-after a t f d ∙ i

  -- and never for a one-shot that has expired, whether or not its DPC is still queued
  pub one-shot-leaves : (a : ℕ) (t : Timer) → timer_at s.dispatcher.objects a ≡ some t → t.inserted ≡ true → is_periodic t ≡ false → t.due ≤ time → in_timer_queue s₁ a ≡ false
  one-shot-leaves a t f i p h = due-after a t f (ap (λ (b : Bool). cond b (leb t.due time) false) i ∙ le-leb t.due time h) ∙ out
    where
      out : (expired time t).inserted ≡ false
      out = unfold expired in (ap (λ (b : Bool). (cond b (retimed t true true (next_due t.due t.period_ms time)) (retimed t true false t.due)).inserted) p)

-- ---- cancel

-- under a policy, the DPC of an inserted timer is in the queue no more once the timer is cancelled
pub cancel-takes-out : (s : State) → Valid s → (a : ℕ) (t : Timer) → timer_at s.dispatcher.objects a ≡ some t → is_unselected s.policy ≡ false → t.inserted ≡ true → (t.dpc ≡ 0 → ⊥)
    → in_dpc_queue (step (CancelTimer a) s).state t.dpc ≡ false
unfolding refusal unknown_timer effect timer_cancelled
cancel-takes-out s v a t f p i n =
    ap (λ (o : Outcome). in_dpc_queue o.state t.dpc) (step_is (CancelTimer a) s (ap (λ (b : Bool). cond b 0 2) (ap present f)))
    ∙ ap (λ (o : Option Timer). in_dpc_queue (given o (gives Done s) (λ (x : Timer). gives (Flag x.inserted)
    (with_table (with_dpcs s (cond (cancels_work s x) (withdrawn s.dpcs x.dpc) s.dpcs)) (put_object (timer (cancelled x)) s.dispatcher.objects)))).state t.dpc) f
    ∙ go (cancels_work s t) refl
  where
    cancels : cancels_work s t ≡ own_queued t (phase_at s.dpcs.table t.dpc)
    cancels = unfold cancels_work in (ap (λ (b : Bool). cond b (cond (is_unselected s.policy) false (cond (eqb t.dpc 0) false (own_queued t (phase_at s.dpcs.table t.dpc)))) false) i
        ∙ ap (λ (b : Bool). cond b false (cond (eqb t.dpc 0) false (own_queued t (phase_at s.dpcs.table t.dpc)))) p
        ∙ ap (λ (b : Bool). cond b false (own_queued t (phase_at s.dpcs.table t.dpc))) (ne_eqb t.dpc 0 n))

    -- what is queued on it is its own
    own : (q : DpcPhase) → phase_at s.dpcs.table t.dpc ≡ q → own_queued t q ≡ false → is_queued q ≡ false
    own Idle e z = refl
    own (Queued w) e z = absurd (not-both (sym ((v.linked.served a (timer t) (timer-found (object_at s.dispatcher.objects a) t f) i n).1 w e) ∙ z))
    own (Running w) e z = refl
    own (Returning w) e z = refl

    go : (b : Bool) → cancels_work s t ≡ b → member t.dpc (cond b (withdrawn s.dpcs t.dpc) s.dpcs).queue ≡ false
    go true e = unfold withdrawn in (out-own t.dpc s.dpcs.queue)
    go false e = v.queueing.queued t.dpc ∙ own (phase_at s.dpcs.table t.dpc) refl (sym cancels ∙ e)

-- ---- "Added: a signed due v"

-- "17 first, .."
pub signed-17 : (s : State) (a : ℕ) (v p : ℤ) (dpc : ℕ) → is_negative p ≡ true → step (SetTimerSigned a v p dpc) s ≡ gives (Refused 17) s
unfolding step refusal set_signed_refusal
signed-17 s a v p dpc n = ap (λ (b : Bool). answer (cond b 17 (cond (is_negative v && ltb most (signed_due s.now v)) 13 (set_refusal s a p dpc)))) n
  where
    answer : ℕ → Outcome
    answer r = cond (eqb r 0) (effect (SetTimerSigned a v p dpc) s) (gives (Refused r) s)

-- ".. then 13 past 2^64 − 1, .."
pub signed-13 : (s : State) (a n : ℕ) (p : ℤ) (dpc : ℕ) → is_negative p ≡ false → ltb most (s.now + suc n) ≡ true → step (SetTimerSigned a (negsuc n) p dpc) s ≡ gives (Refused 13) s
unfolding step refusal set_signed_refusal
signed-13 s a n p dpc h o = ap (λ (b : Bool). answer (cond b 17 (cond (ltb most (s.now + suc n)) 13 (set_refusal s a p dpc)))) h ∙ ap (λ (b : Bool). answer (cond b 13 (set_refusal s a p dpc))) o
  where
    answer : ℕ → Outcome
    answer r = cond (eqb r 0) (effect (SetTimerSigned a (negsuc n) p dpc) s) (gives (Refused r) s)

-- ".. then `set_timer`": negative means now plus its magnitude, relative; −2^63 is `negsuc (2^63 − 1)`
pub signed-negative : (s : State) (a n : ℕ) (p : ℤ) (dpc : ℕ) → is_negative p ≡ false → ltb most (s.now + suc n) ≡ false → step (SetTimerSigned a (negsuc n) p dpc) s ≡ step (SetTimer a (s.now + suc n) false p dpc) s
unfolding step refusal set_signed_refusal effect
signed-negative s a n p dpc h o = ap (λ (b : Bool). answer (cond b 17 (cond (ltb most (s.now + suc n)) 13 (set_refusal s a p dpc)))) h ∙ ap (λ (b : Bool). answer (cond b 13 (set_refusal s a p dpc))) o
  where
    answer : ℕ → Outcome
    answer r = cond (eqb r 0) (timer_set s a (s.now + suc n) false (period_of p) dpc) (gives (Refused r) s)

-- "otherwise due v, absolute"
pub signed-absolute : (s : State) (a n : ℕ) (p : ℤ) (dpc : ℕ) → is_negative p ≡ false → step (SetTimerSigned a (pos n) p dpc) s ≡ step (SetTimer a n true p dpc) s
unfolding step refusal set_signed_refusal effect
signed-absolute s a n p dpc h = ap (λ (b : Bool). answer (cond b 17 (set_refusal s a p dpc))) h
  where
    answer : ℕ → Outcome
    answer r = cond (eqb r 0) (timer_set s a n true (period_of p) dpc) (gives (Refused r) s)
