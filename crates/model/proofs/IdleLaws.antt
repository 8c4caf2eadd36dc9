-- With none current and none ready a dispatch answers the least of the waiting deadlines and the counted timers' dues, or deadlocked, or
-- finished, each exactly where it should.
use Prim.Native.Nat.{ℕ, zero, suc, ◌≤◌, min}
use mathlib.Core.List.{List, [], ◌∷◌, ◌++◌}
use mathlib.Core.Bool.{Bool, true, false, cond}
use mathlib.Core.Option.{Option, none, some}
use mathlib.Core.Path.{◌≡◌, refl, sym, ap, ◌∙◌, subst}
use mathlib.Core.Logic.{inl, inr, ⊎_elim, ◌↔◌}
use native.Mathlib.Omega.{arith}
use native.Mathlib.Decide.{ℕ_discrete}
use borrow.Author.Tests.{eq-eqb, ne_eqb, eqb-true, eqb-false}
use lib.Dec.{eqb}
use Rattle.images.specs.declared.Timer.{Timer}
use Rattle.model.specs.Lists.{Mem, any, keep, is_empty, given}
use Rattle.model.specs.State.{State, Dispatcher, Thread, Status, running, ready, waiting, exited, Wait, Named, timer}
use Rattle.model.specs.Threads.{thread_at, thread_of, status_of, is_thread, is_waiting, wait_of, next, ran, waiting_numbers}
use Rattle.model.specs.Waits.{key_of, object_at, timer_at, as_timer, timers_of, same_named, listed, waits_on}
use Rattle.model.specs.Answer.{Answer, Outcome, gives, Run, AdvanceTo, Deadlocked, Finished}
use Rattle.model.specs.Call.{Dispatch}
use Rattle.model.specs.Step.{step, refusal, effect, with_dispatcher, smallest, deadlines_of, counts, dues_of, idle_answer, dispatched}
use Rattle.model.specs.Valid.{Valid, RisingBy}
use Rattle.model.proofs.ListLaws.{not-both, mem-member, mem-keep, keep-mem, mem-append, append-mem-left, append-mem-right}
use Rattle.model.proofs.TableLaws.{none-some, found, mem-found}
use Rattle.model.proofs.ThreadLaws.{stands-somewhere}
use Rattle.model.proofs.SoundLaws.{is-thread}
use Rattle.model.proofs.ObjectLaws.{timer-found}
use Rattle.model.proofs.LinkLaws.{mem-timer, timer-found-mem}
use Rattle.model.proofs.RowLaws.{and-true, unwaited}
use Rattle.model.proofs.KeepLaws.{ready-only}
use Rattle.model.proofs.WdkLaws.{step_is}
use Rattle.model.specs.Idle as idle
use Rattle.model.specs.Wakes.{timer_named}
use Rattle.model.proofs.NumberLaws.{number-passes, passes-number, numbers-rise}

-- ---- the smallest of a list

-- what the smallest of a list is
abbrev Least : List ℕ → Option ℕ → Type 0
Least l none = (x : ℕ) → Mem x l → ⊥
Least l (some t) = (Mem t l) × ((x : ℕ) → Mem x l → t ≤ x)

smallest-is : (l : List ℕ) → Least l (smallest l)
smallest-is [] = λ x m. m
smallest-is (x ∷ xs) = go (smallest xs) (smallest-is xs)
  where
    go : (o : Option ℕ) → Least xs o → Least (x ∷ xs) (given o (some x) (λ y. some (min x y)))
    go none n = (inl refl, λ y m. ⊎_elim (λ (e : y ≡ x). omega (arith, e)) (λ (a : Mem y xs). absurd (n y a)) m)
    go (some t) h = (
      elim (ℕ_discrete (min x t) x) [ yes e ↦ inl e | no u ↦ inr (subst (λ (k : ℕ). Mem k xs) (let e : t ≡ min x t = omega (arith, u) in e) h.0) ],
      λ y a. ⊎_elim (λ (e : y ≡ x). omega (arith, e)) (λ (b : Mem y xs). omega (arith, h.1 y b)) a,
    )

-- ---- lists

any_found : {A : Type 0} (f : A → Bool) (l : List A) → any f l ≡ true → (x : A) × (Mem x l) × (f x ≡ true)
any_found f [] e = absurd (not-both (sym e))
any_found f (x ∷ xs) e = go (f x) refl e (any_found f xs)
  where
    go : (b : Bool) → f x ≡ b → cond b true (any f xs) ≡ true → (any f xs ≡ true → (y : _) × (Mem y xs) × (f y ≡ true)) → (y : _) × (Mem y (x ∷ xs)) × (f y ≡ true)
    go true q z ih = (x, inl refl, q)
    go false q z ih = let r = ih z in (r.0, inr r.1, r.2)

thread-number : (l : List Thread) (t : Thread) → Mem t l → (i : ℕ) × (thread_at l (suc i) ≡ t)
thread-number [] t m = absurd m
thread-number (x ∷ xs) t (inl e) = (0, sym e)
thread-number (x ∷ xs) t (inr m) = let r = thread-number xs t m in (suc r.0, r.1)

some-member : (l : List ℕ) → is_empty l ≡ false → (x : ℕ) × Mem x l
some-member [] e = absurd (not-both e)
some-member (x ∷ xs) e = (x, inl refl)

member-some : (l : List ℕ) (x : ℕ) → Mem x l → is_empty l ≡ false
member-some [] x m = absurd m
member-some (y ∷ l) x m = refl

-- ---- deadlines

-- who has a deadline waits
deadline-waits : (x : Status) (t : ℕ) → (wait_of x).deadline ≡ some t → (y : Wait) × (x ≡ waiting y) × (y.deadline ≡ some t)
deadline-waits running t e = absurd (none-some t e)
deadline-waits ready t e = absurd (none-some t e)
deadline-waits (waiting y) t e = (y, refl, e)
deadline-waits (exited n) t e = absurd (none-some t e)

is-waiting : (x : Status) → is_waiting x ≡ true → (y : Wait) × (x ≡ waiting y)
is-waiting running e = absurd (not-both (sym e))
is-waiting ready e = absurd (not-both (sym e))
is-waiting (waiting y) e = (y, refl)
is-waiting (exited n) e = absurd (not-both (sym e))

deadline-of : (l : List Thread) (t : ℕ) → Mem t (deadlines_of l) → (i : ℕ) × ((wait_of (thread_at l (suc i)).status).deadline ≡ some t)
deadline-of [] t m = absurd m
deadline-of (x ∷ xs) t m = go (wait_of x.status).deadline refl m (deadline-of xs t)
  where
    go : (o : Option ℕ) → (wait_of x.status).deadline ≡ o → Mem t (given o (deadlines_of xs) (λ y. y ∷ deadlines_of xs))
        → (Mem t (deadlines_of xs) → (i : ℕ) × ((wait_of (thread_at xs (suc i)).status).deadline ≡ some t))
        → (i : ℕ) × ((wait_of (thread_at (x ∷ xs) (suc i)).status).deadline ≡ some t)
    go none e a ih = let r = ih a in (suc r.0, r.1)
    go (some y) e (inl q) ih = (0, e ∙ ap (λ (k : ℕ). some k) (sym q))
    go (some y) e (inr a) ih = let r = ih a in (suc r.0, r.1)

of-deadline : (l : List Thread) (i t : ℕ) → (wait_of (thread_at l i).status).deadline ≡ some t → Mem t (deadlines_of l)
of-deadline l zero t e = absurd (none-some t e)
of-deadline [] (suc i) t e = absurd (none-some t e)
of-deadline (x ∷ xs) (suc zero) t e = subst (λ (o : Option ℕ). Mem t (given o (deadlines_of xs) (λ y. y ∷ deadlines_of xs))) (sym e) (inl refl)
of-deadline (x ∷ xs) (suc (suc i)) t e = go (wait_of x.status).deadline (of-deadline xs (suc i) t e)
  where
    go : (o : Option ℕ) → Mem t (deadlines_of xs) → Mem t (given o (deadlines_of xs) (λ y. y ∷ deadlines_of xs))
    go none m = m
    go (some y) m = inr m

-- ---- dues

due-of : (l : List Timer) (t : ℕ) → Mem t (dues_of l) → (u : Timer) × (Mem u l) × (u.due ≡ t)
due-of [] t m = absurd m
due-of (u ∷ l) t (inl e) = (u, inl refl, sym e)
due-of (u ∷ l) t (inr m) = let r = due-of l t m in (r.0, inr r.1, r.2)

of-due : (l : List Timer) (u : Timer) → Mem u l → Mem u.due (dues_of l)
of-due [] u m = absurd m
of-due (x ∷ l) u (inl e) = inl (ap (λ (y : Timer). y.due) e)
of-due (x ∷ l) u (inr m) = inr (of-due l u m)

-- ---- a state

module _ (s : State) (v : Valid s) where
  abbrev d : Dispatcher
  d = s.dispatcher

  -- what the log has of threads and timers
  abbrev pub HasThread : ℕ → Thread → Type 0
  HasThread i x = (is_thread s.dispatcher i ≡ true) × (thread_of s.dispatcher i ≡ x)

  abbrev pub HasTimer : ℕ → Timer → Type 0
  HasTimer a t = timer_at s.dispatcher.objects a ≡ some t

  abbrev Waits : ℕ → Wait → Type 0
  Waits i y = idle.Waits HasThread HasTimer i y

  abbrev SomeWaits : Type 0
  SomeWaits = idle.SomeWaits HasThread HasTimer

  abbrev Upcoming : ℕ → Type 0
  Upcoming t = idle.Upcoming HasThread HasTimer t

  waits : (i : ℕ) (y : Wait) → status_of d i ≡ waiting y → Waits i y
  waits i y e = let k = stands-somewhere d.threads i is_waiting refl (ap is_waiting e) in record { thread = thread_of d i; read = (is-thread d i k.0 k.1, refl); status = e }

  waited : (i : ℕ) (y : Wait) → Waits i y → status_of d i ≡ waiting y
  waited i y w = ap (λ (t : Thread). t.status) w.read.1 ∙ w.status

  numbered : (i : ℕ) (y : Wait) → Waits i y → Mem i (waiting_numbers d)
  numbered i y w =
      let e : is_waiting (status_of d i) ≡ true = ap is_waiting (waited i y w) in
      let k = stands-somewhere d.threads i is_waiting refl e in
      passes-number (λ (t : Thread). is_waiting t.status) d.threads i k.0 k.1 e

  of_number_lem : (i : ℕ) → Mem i (waiting_numbers d) → (y : Wait) × Waits i y
  of_number_lem i m = let r = is-waiting (status_of d i) (number-passes (λ (t : Thread). is_waiting t.status) d.threads i m).2 in (r.0, waits i r.0 r.1)

  someone : is_empty (waiting_numbers d) ≡ false → SomeWaits
  someone e = let r = some-member (waiting_numbers d) e in let q = of_number_lem r.0 r.1 in (r.0, q.0, q.1)

  no_one : SomeWaits → is_empty (waiting_numbers d) ≡ false
  no_one w = member-some (waiting_numbers d) w.0 (numbered w.0 w.1 w.2)

  -- some thread waits for the timer
  named : (a : ℕ) → waits_on d (timer_named a) ≡ true → idle.WaitedFor HasThread HasTimer a
  named a e =
      let r = any_found (λ (t : Thread). listed (timer_named a) (wait_of t.status).objects) d.threads e in
      let k = thread-number d.threads r.0 r.1 in
      by (suc k.0) (status_of d (suc k.0)) refl (ap (λ (t : Thread). listed (timer_named a) (wait_of t.status).objects) k.1 ∙ r.2)
    where
      by : (i : ℕ) (x : Status) → status_of d i ≡ x → listed (timer_named a) (wait_of (status_of d i)).objects ≡ true → idle.WaitedFor HasThread HasTimer a
      by i x e z = go x e (ap (λ (u : Status). listed (timer_named a) (wait_of u).objects) (sym e) ∙ z)
        where
          go : (x : Status) → status_of d i ≡ x → listed (timer_named a) (wait_of x).objects ≡ true → idle.WaitedFor HasThread HasTimer a
          go running e z = absurd (not-both (sym z))
          go ready e z = absurd (not-both (sym z))
          go (exited n) e z = absurd (not-both (sym z))
          go (waiting y) e z =
              let r = any_found (λ (x : Named). same_named x (timer_named a)) y.objects z in
              let b = and-true (eqb r.0.kind 2) (eqb r.0.key a) r.2 in
              let q : r.0 ≡ timer_named a = same r.0 (eqb-true r.0.kind 2 b.0) (eqb-true r.0.key a b.1) in
              record { number = i; for = y; waits = waits i y e; named = subst (λ (x : Named). Mem x y.objects) q r.1 }
            where
              same : (n : Named) → n.kind ≡ 2 → n.key ≡ a → n ≡ timer_named a
              same n p q = ap (λ (k : ℕ). named-as k n.key) p ∙ ap (named-as 2) q
                where
                  named-as : ℕ → ℕ → Named
                  named-as k m = record { kind = k; key = m }

  of-named : (a : ℕ) → idle.WaitedFor HasThread HasTimer a → waits_on d (timer_named a) ≡ true
  of-named a w = go (waits_on d (timer_named a)) refl
    where
      go : (b : Bool) → waits_on d (timer_named a) ≡ b → waits_on d (timer_named a) ≡ true
      go true e = e
      go false e = absurd (unwaited d (timer_named a) e w.number (timer_named a)
          (subst (λ (x : Status). Mem (timer_named a) (wait_of x).objects) (sym (waited w.number w.for w.waits)) w.named) refl refl)

  -- a timer counts
  counted : (t : Timer) → HasTimer t.address t → counts d t ≡ true → idle.Counts HasThread HasTimer t.address t
  unfolding counts
  counted t f e = go (is_empty (waiting_numbers d)) t.inserted (eqb t.dpc 0) t.signaled (waits_on d (timer_named t.address)) refl refl refl refl refl e
    where
      go : (a b c g h : Bool) → is_empty (waiting_numbers d) ≡ a → t.inserted ≡ b → eqb t.dpc 0 ≡ c → t.signaled ≡ g → waits_on d (timer_named t.address) ≡ h
          → cond a false (cond b (cond c (cond g false h) true) false) ≡ true → idle.Counts HasThread HasTimer t.address t
      go true b c g h p q r x y z = absurd (not-both (sym z))
      go false false c g h p q r x y z = absurd (not-both (sym z))
      go false true true true h p q r x y z = absurd (not-both (sym z))
      go false true true false h p q r x y z = record { read = f; someone = someone p; inserted = q; serves = inr (x, named t.address (y ∙ z)) }
      go false true false g h p q r x y z = record { read = f; someone = someone p; inserted = q; serves = inl (eqb-false t.dpc 0 r) }

  counting : (t : Timer) → idle.Counts HasThread HasTimer t.address t → counts d t ≡ true
  unfolding counts
  counting t c =
      ap (λ (b : Bool). cond b false (cond t.inserted (cond (eqb t.dpc 0) (cond t.signaled false (waits_on d (timer_named t.address))) true) false)) (no_one c.someone)
      ∙ ap (λ (b : Bool). cond b (cond (eqb t.dpc 0) (cond t.signaled false (waits_on d (timer_named t.address))) true) false) c.inserted
      ∙ ⊎_elim
      (λ (n : t.dpc ≡ 0 → ⊥). ap (λ (b : Bool). cond b (cond t.signaled false (waits_on d (timer_named t.address))) true) (ne_eqb t.dpc 0 n))
      (λ (w : (t.signaled ≡ false) × idle.WaitedFor HasThread HasTimer t.address). go (eqb t.dpc 0) w.0 (of-named t.address w.1)) c.serves
    where
      go : (b : Bool) → t.signaled ≡ false → waits_on d (timer_named t.address) ≡ true → cond b (cond t.signaled false (waits_on d (timer_named t.address))) true ≡ true
      go true p q = ap (λ (z : Bool). cond z false (waits_on d (timer_named t.address))) p ∙ q
      go false p q = refl

  -- ---- the times

  abbrev times : List ℕ
  times = deadlines_of d.threads ++ dues_of (keep (counts d) (timers_of d.objects))

  upcoming : (t : ℕ) → Mem t times → Upcoming t
  upcoming t m = ⊎_elim deadlines dues (mem-append t (deadlines_of d.threads) (dues_of (keep (counts d) (timers_of d.objects))) m)
    where
      deadlines : Mem t (deadlines_of d.threads) → Upcoming t
      deadlines a =
          let r = deadline-of d.threads t a in
          let q = deadline-waits (status_of d (suc r.0)) t r.1 in
          idle.deadline (suc r.0) q.0 (waits (suc r.0) q.0 q.1) q.2

      dues : Mem t (dues_of (keep (counts d) (timers_of d.objects))) → Upcoming t
      dues a =
          let r = due-of (keep (counts d) (timers_of d.objects)) t a in
          let k = mem-keep (counts d) r.0 (timers_of d.objects) r.1 in
          let f : HasTimer r.0.address r.0 = ap as_timer (mem-found key_of d.objects v.sound.rising (timer r.0) (mem-timer d.objects r.0 k.0)) in
          idle.due r.0.address r.0 (counted r.0 f k.1) r.2

  among : (t : ℕ) → Upcoming t → Mem t times
  among t (idle.deadline i y w e) =
      append-mem-left t (deadlines_of d.threads) (dues_of (keep (counts d) (timers_of d.objects)))
      (of-deadline d.threads i t (ap (λ (x : Status). (wait_of x).deadline) (waited i y w) ∙ e))
  among t (idle.due a u c e) =
      let f = timer-found (object_at d.objects a) u c.read in
      let k : u.address ≡ a = (found key_of d.objects a (timer u) f).1 in
      let h = counting u (subst (λ (b : ℕ). idle.Counts HasThread HasTimer b u) (sym k) c) in
      append-mem-right t (deadlines_of d.threads) (dues_of (keep (counts d) (timers_of d.objects)))
      (subst (λ (b : ℕ). Mem b (dues_of (keep (counts d) (timers_of d.objects)))) e
      (of-due (keep (counts d) (timers_of d.objects)) u (keep-mem (counts d) u (timers_of d.objects) (timer-found-mem d.objects a u f) h)))

  -- ---- the answer

  idles : idle.Idles HasThread HasTimer (idle_answer d)
  unfolding idle_answer
  idles = go (smallest times) (smallest-is times)
    where
      rest : (b : Bool) → is_empty (waiting_numbers d) ≡ b → ((u : ℕ) → Upcoming u → ⊥) → idle.Idles HasThread HasTimer (cond b Finished (Deadlocked (waiting_numbers d)))
      rest true e n = idle.finishes refl (λ w. not-both (sym e ∙ no_one w))
      rest false e n = idle.deadlocks (waiting_numbers d) refl (someone e) n (numbers-rise (λ (t : Thread). is_waiting t.status) d.threads) of_number_lem numbered

      go : (o : Option ℕ) → Least times o → idle.Idles HasThread HasTimer (given o (cond (is_empty (waiting_numbers d)) Finished (Deadlocked (waiting_numbers d))) AdvanceTo)
      go none n = rest (is_empty (waiting_numbers d)) refl (λ u x. n u (among u x))
      go (some t) h = idle.advances t refl (upcoming t h.0) (λ u x. h.1 u (among u x))

  none-placed : ((i : ℕ) → status_of d i ≡ ready → ⊥) → is_empty d.placed ≡ true
  none-placed n = go d.placed refl
    where
      go : (l : List ℕ) → d.placed ≡ l → is_empty l ≡ true
      go [] e = refl
      go (x ∷ l) e = absurd (n x (ready-only (status_of d x) (sym (v.sound.standing.placed_ready x) ∙ mem-member x d.placed (subst (Mem x) (sym e) (inl refl)))))

  -- with none current and none ready
  idle-step : (n : ℕ) → refusal (Dispatch n) s ≡ 0 → d.current ≡ 0 → ((i : ℕ) → status_of d i ≡ ready → ⊥) → step (Dispatch n) s ≡ gives (idle_answer d) s
  unfolding effect dispatched
  idle-step n e z u =
      step_is (Dispatch n) s e
      ∙ ap (λ (b : Bool). cond b (cond (is_empty d.placed) (gives (idle_answer d) s) runs) (gives (Run d.current) s)) (eq-eqb d.current 0 z)
      ∙ ap (λ (b : Bool). cond b (gives (idle_answer d) s) runs) (none-placed u)
    where
      runs : Outcome
      runs = gives (Run (next d)) (with_dispatcher s (ran d (next d)))

  -- a dispatch that finds none current and none ready answers so, and changes nothing
  pub idle-dispatch : (n : ℕ) → refusal (Dispatch n) s ≡ 0 → d.current ≡ 0 → ((i : ℕ) → status_of d i ≡ ready → ⊥)
      → ((step (Dispatch n) s).state ≡ s) × idle.Idles HasThread HasTimer (step (Dispatch n) s).answer
  idle-dispatch n e z u =
      let q = idle-step n e z u in
      (ap (λ (o : Outcome). o.state) q, subst (λ (o : Outcome). idle.Idles HasThread HasTimer o.answer) (sym q) idles)

  -- with a current thread it answers that thread, and changes nothing
  pub running-dispatch : (n : ℕ) → refusal (Dispatch n) s ≡ 0 → (d.current ≡ 0 → ⊥) → step (Dispatch n) s ≡ gives (Run d.current) s
  unfolding effect dispatched
  running-dispatch n e z =
      step_is (Dispatch n) s e
      ∙ ap (λ (b : Bool). cond b (cond (is_empty d.placed) (gives (idle_answer d) s) (gives (Run (next d)) (with_dispatcher s (ran d (next d))))) (gives (Run d.current) s)) (ne_eqb d.current 0 z)

-- ---- the same by other reads

module _ (R R' : ℕ → Thread → Type 0) (T T' : ℕ → Timer → Type 0) (thread : (i : ℕ) (x : Thread) → R i x → R' i x) (timers : (a : ℕ) (t : Timer) → T a t → T' a t) where
  waits-so : (i : ℕ) (y : Wait) → idle.Waits R T i y → idle.Waits R' T' i y
  waits-so i y w = record { thread = w.thread; read = thread i w.thread w.read; status = w.status }

  some-so : idle.SomeWaits R T → idle.SomeWaits R' T'
  some-so w = (w.0, w.1, waits-so w.0 w.1 w.2)

  named-so : (a : ℕ) → idle.WaitedFor R T a → idle.WaitedFor R' T' a
  named-so a w = record { number = w.number; for = w.for; waits = waits-so w.number w.for w.waits; named = w.named }

  upcoming-so : (t : ℕ) → idle.Upcoming R T t → idle.Upcoming R' T' t
  upcoming-so t (idle.deadline i y w e) = idle.deadline i y (waits-so i y w) e
  upcoming-so t (idle.due a u c e) = idle.due a u (record {
    read = timers a u c.read;
    someone = some-so c.someone;
    inserted = c.inserted;
    serves = ⊎_elim (λ (n : u.dpc ≡ 0 → ⊥). inl n) (λ (w : (u.signaled ≡ false) × idle.WaitedFor R T a). inr (w.0, named-so a w.1)) c.serves;
  }) e

pub idles-so : (R R' : ℕ → Thread → Type 0) (T T' : ℕ → Timer → Type 0)
    → ((i : ℕ) (x : Thread) → R i x → R' i x) → ((i : ℕ) (x : Thread) → R' i x → R i x) → ((a : ℕ) (t : Timer) → T a t → T' a t) → ((a : ℕ) (t : Timer) → T' a t → T a t)
    → (a : Answer) → idle.Idles R T a → idle.Idles R' T' a
idles-so R R' T T' f g h k a (idle.advances t e u l) = idle.advances t e (upcoming-so R R' T T' f h t u) (λ x y. l x (upcoming-so R' R T' T g k x y))
idles-so R R' T T' f g h k a (idle.deadlocks l e w n r m o) =
    idle.deadlocks l e (some-so R R' T T' f h w) (λ x y. n x (upcoming-so R' R T' T g k x y)) r (λ i x. let q = m i x in (q.0, waits-so R R' T T' f h i q.0 q.1)) (λ i y x. o i y (waits-so R' R T' T g k i y x))
idles-so R R' T T' f g h k a (idle.finishes e n) = idle.finishes e (λ w. n (some-so R' R T' T g k w))

-- ---- exactly

module _ (R : ℕ → Thread → Type 0) (T : ℕ → Timer → Type 0) where
  -- something is to happen only for a thread that waits
  upcoming-someone : (t : ℕ) → idle.Upcoming R T t → idle.SomeWaits R T
  upcoming-someone t (idle.deadline i y w e) = (i, y, w)
  upcoming-someone t (idle.due a u c e) = c.someone

  -- finished exactly if none waits
  pub finished-exactly : (a : Answer) → idle.Idles R T a → (a ≡ Finished) ↔ (idle.SomeWaits R T → ⊥)
  finished-exactly a (idle.advances t e u l) = (λ q. absurd (let y : AdvanceTo t ≡ Finished = sym e ∙ q in let z : ◌≡◌ {A = ℕ} 0 1 = cc in omega arith), λ n. absurd (n (upcoming-someone t u)))
  finished-exactly a (idle.deadlocks l e w n r m o) = (λ q. absurd (let y : Deadlocked l ≡ Finished = sym e ∙ q in let z : ◌≡◌ {A = ℕ} 0 1 = cc in omega arith), λ u. absurd (u w))
  finished-exactly a (idle.finishes e n) = (λ q. n, λ u. e)

  -- deadlocked exactly if some thread waits and nothing is to happen
  pub deadlocked-exactly : (a : Answer) → idle.Idles R T a → ((l : List ℕ) × (a ≡ Deadlocked l)) ↔ ((idle.SomeWaits R T) × ((t : ℕ) → idle.Upcoming R T t → ⊥))
  deadlocked-exactly a (idle.advances t e u l) = (λ q. absurd (let y : AdvanceTo t ≡ Deadlocked q.0 = sym e ∙ q.1 in let z : ◌≡◌ {A = ℕ} 0 1 = cc in omega arith), λ n. absurd (n.1 t u))
  deadlocked-exactly a (idle.deadlocks l e w n r m o) = (λ q. (w, n), λ q. (l, e))
  deadlocked-exactly a (idle.finishes e n) = (λ q. absurd (let y : Finished ≡ Deadlocked q.0 = sym e ∙ q.1 in let z : ◌≡◌ {A = ℕ} 0 1 = cc in omega arith), λ q. absurd (n q.0))

  -- its numbers are those of the threads that wait, and rise
  pub deadlocked-numbers : (a : Answer) → idle.Idles R T a → (l : List ℕ) → a ≡ Deadlocked l → (RisingBy (λ i. i) l) × ((i : ℕ) → Mem i l ↔ ((y : Wait) × idle.Waits R T i y))
  deadlocked-numbers a (idle.advances t e u l) k q = absurd (let y : AdvanceTo t ≡ Deadlocked k = sym e ∙ q in let z : ◌≡◌ {A = ℕ} 0 1 = cc in omega arith)
  deadlocked-numbers a (idle.deadlocks l e w n r m o) k q =
      subst (λ (x : List ℕ). (RisingBy (λ i. i) x) × ((i : ℕ) → Mem i x ↔ ((y : Wait) × idle.Waits R T i y))) (let y : Deadlocked l ≡ Deadlocked k = sym e ∙ q in let z : l ≡ k = cc in z) (r, λ i. (m i, λ y. o i y.0 y.1))
  deadlocked-numbers a (idle.finishes e n) k q = absurd (let y : Finished ≡ Deadlocked k = sym e ∙ q in let z : ◌≡◌ {A = ℕ} 0 1 = cc in omega arith)

  -- a time exactly if something is to happen, and then the least
  pub advances-exactly : (a : Answer) → idle.Idles R T a → (t : ℕ) → (a ≡ AdvanceTo t) ↔ ((idle.Upcoming R T t) × ((u : ℕ) → idle.Upcoming R T u → t ≤ u))
  advances-exactly a (idle.advances t e u l) k = (
    λ q. subst (λ (x : ℕ). (idle.Upcoming R T x) × ((y : ℕ) → idle.Upcoming R T y → x ≤ y)) (let y : AdvanceTo t ≡ AdvanceTo k = sym e ∙ q in let z : t ≡ k = cc in z) (u, l),
    λ q. e ∙ ap AdvanceTo (let z : t ≡ k = omega (arith, l k q.0, q.1 t u) in z),
  )
  advances-exactly a (idle.deadlocks l e w n r m o) k = (λ q. absurd (let y : Deadlocked l ≡ AdvanceTo k = sym e ∙ q in let z : ◌≡◌ {A = ℕ} 0 1 = cc in omega arith), λ q. absurd (n k q.0))
  advances-exactly a (idle.finishes e n) k = (λ q. absurd (let y : Finished ≡ AdvanceTo k = sym e ∙ q in let z : ◌≡◌ {A = ℕ} 0 1 = cc in omega arith), λ q. absurd (n (upcoming-someone k q.0)))
