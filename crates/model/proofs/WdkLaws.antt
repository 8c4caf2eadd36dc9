-- A step that is not refused reports what Microsoft's pages say.
use Prim.Native.Nat.{ℕ, zero, suc, ◌<◌}
use mathlib.Core.List.{List, [], ◌∷◌}
use mathlib.Core.Bool.{Bool, true, false, cond, not}
use mathlib.Core.Option.{Option, none, some}
use mathlib.Core.Path.{◌≡◌, refl, sym, ap, ap₂, ◌∙◌, subst}
use mathlib.Core.Logic.{◌⊎◌, inl, inr}
use native.Mathlib.Omega.{arith}
use native.Mathlib.Decide.{ℕ_discrete}
use borrow.Author.Tests.{eqb-true, eq-eqb, ne_eqb}
use lib.Dec.{eqb, leb, ltb}
use lib.IntN.{ℤ}
use lib.ListN.{get_or, length}
use Rattle.images.specs.declared.Timer.{Timer}
use Rattle.images.specs.declared.DpcOrigin.TheVariants as origin
use Rattle.model.specs.Lists.{Mem, any, every, nth, present, given, is_empty}
use Rattle.model.specs.State.{State, Dispatcher, Named, Event, Object, mutex, event, timer}
use Rattle.model.specs.Threads.{is_thread, has_exited, status_of, becomes, blocked, with_objects}
use Rattle.model.specs.Waits.{key_of, kind_of, object_at, event_at, timer_at, of_kind, named_in, is_free, is_available, same_named, listed, put_object, taken_by, take, take_every, every_available, first_available, no_object, is_met, reached, signaled_as, wake}
use Rattle.model.specs.Dpcs.{dpc_at, phase_at, is_queued, is_busy, accepted, duplicated, withdrawn}
use Rattle.model.specs.Timers.{most, is_named_by_other, armed, cancelled}
use Rattle.model.specs.Refusal.{pairs, has_duplicate, bad_list, wait_refusal, signal_refusal, is_negative, arm_refusal, set_refusal, former_busy, unknown_timer}
use Rattle.model.specs.Step.{refusal, effect, step, event_set, timer_set, timer_cancelled, dpc_inserted, dpc_removed, waited, granted, timed_out, blocks, period_of, cancels_work, with_dispatcher, with_dpcs, with_table}
use Rattle.model.specs.Answer.{gives, Flag, Refused, Done, Outcome}
use Rattle.model.specs.Call.{Call, SetEvent, SetTimer, CancelTimer, InsertQueueDpc, RemoveQueueDpc, Wait}
use Rattle.model.specs.Valid.{Valid}
use Rattle.model.specs.Wdk.{was_signaled, in_timer_queue, in_dpc_queue, InsertReports, RemoveReports, is_signaled, signaled_now, after_wait, TakenBy, NamesObject, is_satisfied, timeout_over, WaitReports}
use Rattle.model.proofs.ListLaws.{not-both, last-own, out-own, neither, any_false, every-at}
use Rattle.model.proofs.TableLaws.{some_same, none-some, found, find-put-own, find-put-other}
use Rattle.model.proofs.RowLaws.{passes, holds, there, same-named}
use Rattle.model.proofs.ObjectLaws.{same_kind, taken-key, taken-core}

-- an accepted call has its effect
pub step_is : (c : Call) (s : State) → refusal c s ≡ 0 → step c s ≡ effect c s
unfolding step
step_is c s e = ap (λ (b : Bool). cond b (effect c s) (gives (Refused (refusal c s)) s)) (eq-eqb (refusal c s) 0 e)

-- ---- KeSetEvent

pub set-event-reports : (s : State) (key : ℕ) → refusal (SetEvent key) s ≡ 0 → (step (SetEvent key) s).answer ≡ Flag (was_signaled s key)
unfolding refusal signal_refusal effect event_set
set-event-reports s key e =
    ap (λ (o : Outcome). o.answer) (step_is (SetEvent key) s e)
    ∙ go (event_at s.dispatcher.objects key) (holds (present (event_at s.dispatcher.objects key)) 1 0 e).0
  where
    go : (o : Option Event) → present o ≡ true
        → (given o (gives Done s) (λ (x : Event). gives (Flag x.signaled) (with_dispatcher s (wake (with_objects s.dispatcher (put_object (signaled_as true x) s.dispatcher.objects)))))).answer
        ≡ Flag (given o false (λ (x : Event). x.signaled))
    go none z = absurd (not-both (sym z))
    go (some x) z = refl

-- ---- KeSetTimerEx, KeCancelTimer

-- an accepted set finds the timer
set_known : (s : State) (address : ℕ) (period : ℤ) (dpc : ℕ) → set_refusal s address period dpc ≡ 0 → present (timer_at s.dispatcher.objects address) ≡ true
unfolding set_refusal arm_refusal
set_known s address period dpc e = go (eqb dpc 0) (passes (is_negative period) 16 _ e).1
  where
    timer-there : arm_refusal s address ≡ 0 → present (timer_at s.dispatcher.objects address) ≡ true
    timer-there z =
        let t = there (timer_at s.dispatcher.objects address) 1 (λ (x : Timer). cond (former_busy s x) 19 (cond (leb most x.arm_generation) 24 0)) z in ap present t.1

    go : (b : Bool)
        → cond b (arm_refusal s address) (cond (present (dpc_at s.dpcs.table dpc)) (cond (is_named_by_other s.dispatcher.objects address dpc) 18 (cond (is_busy (phase_at s.dpcs.table dpc)) 19 (arm_refusal s address))) 2) ≡ 0
        → present (timer_at s.dispatcher.objects address) ≡ true
    go true z = timer-there z
    go false z =
        let a = holds (present (dpc_at s.dpcs.table dpc)) 1 _ z in
        let b = passes (is_named_by_other s.dispatcher.objects address dpc) 17 _ a.1 in
        let c = passes (is_busy (phase_at s.dpcs.table dpc)) 18 _ b.1 in
        timer-there c.1

pub set-timer-reports : (s : State) (address due : ℕ) (absolute : Bool) (period : ℤ) (dpc : ℕ) → refusal (SetTimer address due absolute period dpc) s ≡ 0
    → (step (SetTimer address due absolute period dpc) s).answer ≡ Flag (in_timer_queue s address)
unfolding refusal effect timer_set
set-timer-reports s address due absolute period dpc e =
    ap (λ (o : Outcome). o.answer) (step_is (SetTimer address due absolute period dpc) s e)
    ∙ go (timer_at s.dispatcher.objects address) (set_known s address period dpc e)
  where
    go : (o : Option Timer) → present o ≡ true
        → (given o (gives Done s) (λ (t : Timer). gives (Flag t.inserted) (with_table s (put_object (timer (armed t due absolute (period_of period) dpc)) s.dispatcher.objects)))).answer
        ≡ Flag (given o false (λ (t : Timer). t.inserted))
    go none z = absurd (not-both (sym z))
    go (some t) z = refl

-- whether or not the timer's DPC is queued
pub cancel-timer-reports : (s : State) (address : ℕ) → refusal (CancelTimer address) s ≡ 0 → (step (CancelTimer address) s).answer ≡ Flag (in_timer_queue s address)
unfolding refusal unknown_timer effect timer_cancelled
cancel-timer-reports s address e =
    ap (λ (o : Outcome). o.answer) (step_is (CancelTimer address) s e)
    ∙ go (timer_at s.dispatcher.objects address) (holds (present (timer_at s.dispatcher.objects address)) 1 0 e).0
  where
    go : (o : Option Timer) → present o ≡ true
        → (given o (gives Done s) (λ (t : Timer). gives (Flag t.inserted)
        (with_table (with_dpcs s (cond (cancels_work s t) (withdrawn s.dpcs t.dpc) s.dpcs)) (put_object (timer (cancelled t)) s.dispatcher.objects)))).answer
        ≡ Flag (given o false (λ (t : Timer). t.inserted))
    go none z = absurd (not-both (sym z))
    go (some t) z = refl

-- ---- KeInsertQueueDpc

pub insert-dpc-reports : (s : State) → Valid s → (address first second : ℕ) → refusal (InsertQueueDpc address first second) s ≡ 0
    → InsertReports s (step (InsertQueueDpc address first second) s).state address (step (InsertQueueDpc address first second) s).answer
unfolding refusal effect dpc_inserted
insert-dpc-reports s v address first second e =
    subst (λ (o : Outcome). InsertReports s o.state address o.answer) (sym (step_is (InsertQueueDpc address first second) s e))
    (go (is_queued (phase_at s.dpcs.table address)) (v.queueing.queued address))
  where
    go : (b : Bool) → in_dpc_queue s address ≡ b → let o = cond b (gives (Flag false) (with_dpcs s (duplicated s.dpcs))) (gives (Flag true) (with_dpcs s (accepted s.dpcs address first second origin.Caller))) in
        InsertReports s o.state address o.answer
    go true q = unfold duplicated in (record { says = ap (λ (b : Bool). Flag (not b)) (sym q); queued = q; unchanged = λ z. (refl, refl) })
    go false q = unfold accepted in (record { says = ap (λ (b : Bool). Flag (not b)) (sym q); queued = last-own address s.dpcs.queue; unchanged = λ z. absurd (not-both (sym z ∙ q)) })

-- ---- KeRemoveQueueDpc

pub remove-dpc-reports : (s : State) → Valid s → (address : ℕ) → refusal (RemoveQueueDpc address) s ≡ 0
    → RemoveReports s (step (RemoveQueueDpc address) s).state address (step (RemoveQueueDpc address) s).answer
unfolding refusal effect dpc_removed
remove-dpc-reports s v address e =
    subst (λ (o : Outcome). RemoveReports s o.state address o.answer) (sym (step_is (RemoveQueueDpc address) s e))
    (go (is_queued (phase_at s.dpcs.table address)) (v.queueing.queued address))
  where
    go : (b : Bool) → in_dpc_queue s address ≡ b → let o = cond b (gives (Flag true) (with_dpcs s (withdrawn s.dpcs address))) (gives (Flag false) s) in
        RemoveReports s o.state address o.answer
    go true q = unfold withdrawn in (record { says = ap Flag (sym q); out = out-own address s.dpcs.queue })
    go false q = record { says = ap Flag (sym q); out = q }

-- ---- KeWaitForMultipleObjects

signaled-free : (o : Object) → is_signaled o ≡ is_free o
signaled-free (mutex m) = refl
signaled-free (event e) = refl
signaled-free (timer t) = refl

signaled-is : (s : State) (n : Named) → signaled_now s n ≡ is_available s.dispatcher n
signaled-is s n = ap (λ (b : Bool). cond (eqb n.kind 3) (cond (is_thread s.dispatcher n.key) (has_exited (status_of s.dispatcher n.key)) false) b) (go (named_in s.dispatcher.objects n))
  where
    go : (o : Option Object) → given o false is_signaled ≡ given o false is_free
    go none = refl
    go (some x) = signaled-free x

-- the first that is available
first-available : (d : Dispatcher) (ns : List Named) → any (is_available d) ns ≡ true
    → (nth ns (first_available d ns) ≡ some (get_or ns (first_available d ns) no_object)) × (is_available d (get_or ns (first_available d ns) no_object) ≡ true)
    × ((j : ℕ) (m : Named) → j < first_available d ns → nth ns j ≡ some m → is_available d m ≡ false)
first-available d [] e = absurd (not-both (sym e))
first-available d (n ∷ ns) e = go (is_available d n) refl e (first-available d ns)
  where
    go : (b : Bool) → is_available d n ≡ b → cond b true (any (is_available d) ns) ≡ true
        → (any (is_available d) ns ≡ true → (nth ns (first_available d ns) ≡ some (get_or ns (first_available d ns) no_object)) × (is_available d (get_or ns (first_available d ns) no_object) ≡ true)
        × ((j : ℕ) (m : Named) → j < first_available d ns → nth ns j ≡ some m → is_available d m ≡ false))
        → let i = cond b 0 (suc (first_available d ns)) in
        (nth (n ∷ ns) i ≡ some (get_or (n ∷ ns) i no_object)) × (is_available d (get_or (n ∷ ns) i no_object) ≡ true) × ((j : ℕ) (m : Named) → j < i → nth (n ∷ ns) j ≡ some m → is_available d m ≡ false)
    go true q z ih = (refl, q, λ j m h f. absurd (omega arith))
    go false q z ih = let r = ih z in (r.0, r.1, lower r.2)
      where
        lower : ((j : ℕ) (m : Named) → j < first_available d ns → nth ns j ≡ some m → is_available d m ≡ false) → (j : ℕ) (m : Named) → j < suc (first_available d ns) → nth (n ∷ ns) j ≡ some m → is_available d m ≡ false
        lower h zero m k f = ap (is_available d) (sym (some_same n m f)) ∙ q
        lower h (suc j) m k f = h j m (omega arith) f

-- the page's test is the log's
satisfied-is : (s : State) (ns : List Named) (all : Bool) → is_satisfied s ns all ≡ is_met s.dispatcher ns all
satisfied-is s ns true = each ns
  where
    each : (ns : List Named) → every (signaled_now s) ns ≡ every_available s.dispatcher ns
    each [] = refl
    each (n ∷ ns) = ap₂ (λ (a b : Bool). cond a b false) (signaled-is s n) (each ns)
satisfied-is s ns false = one ns
  where
    one : (ns : List Named) → any (signaled_now s) ns ≡ any (is_available s.dispatcher) ns
    one [] = refl
    one (n ∷ ns) = ap₂ (λ (a b : Bool). cond a true b) (signaled-is s n) (one ns)

-- ---- taking

kind-found : (k : ℕ) (a : Option Object) (o : Object) → of_kind k a ≡ some o → (a ≡ some o) × (kind_of o ≡ k)
kind-found k none o e = absurd (none-some o e)
kind-found k (some x) o e = go (eqb (kind_of x) k) refl e
  where
    go : (b : Bool) → eqb (kind_of x) k ≡ b → cond b (some x) none ≡ some o → (some x ≡ some o) × (kind_of o ≡ k)
    go true q z = (z, ap kind_of (sym (some_same x o z)) ∙ eqb-true (kind_of x) k q)
    go false q z = absurd (none-some o z)

-- no object of the table is a thread
no-thread-kind : (o : Object) → kind_of o ≡ 3 → ⊥
no-thread-kind (mutex m) e = omega arith
no-thread-kind (event x) e = omega arith
no-thread-kind (timer t) e = omega arith

taken-kind : (id : ℕ) (o : Object) → kind_of (taken_by id o) ≡ kind_of o
taken-kind id o = same_kind (taken_by id o) o (taken-core id o)

-- taking is what the pages say of waiting
taken-same : (id : ℕ) (o : Object) → taken_by id o ≡ after_wait id o
taken-same id (mutex m) = refl
taken-same id (event e) = refl
taken-same id (timer t) = refl

-- the object has been taken, as the log says it
abbrev Takes : ℕ → List Object → List Object → Named → Type 0
Takes id before after n = (o : Object) → named_in before n ≡ some o → object_at after n.key ≡ some (taken_by id o)

takes-taken : (id : ℕ) (before after : List Object) (n : Named) → Takes id before after n → TakenBy id before after n
takes-taken id before after n h o e = h o e ∙ ap (λ (x : Object). some x) (taken-same id o)

module _ (id : ℕ) where
  take-is : (l : List Object) (n : Named) (o : Object) → named_in l n ≡ some o → take id l n ≡ put_object (taken_by id o) l
  take-is l n o e = ap (λ (a : Option Object). given a l (λ x. put_object (taken_by id x) l)) e

  take_own : (l : List Object) (n : Named) → Takes id l (take id l n) n
  take_own l n o e =
      let f = kind-found n.kind (object_at l n.key) o e in
      let k : n.key ≡ key_of (taken_by id o) = sym (taken-key id o ∙ (found key_of l n.key o f.0).1) in
      ap (λ (x : List Object). object_at x n.key) (take-is l n o e) ∙ ap (object_at (put_object (taken_by id o) l)) k ∙ find-put-own key_of (taken_by id o) l

  take-other : (l : List Object) (n : Named) (k : ℕ) → (NamesObject n k → ⊥) → object_at (take id l n) k ≡ object_at l k
  take-other l n k h = go (named_in l n) refl
    where
      go : (a : Option Object) → named_in l n ≡ a → object_at (given a l (λ x. put_object (taken_by id x) l)) k ≡ object_at l k
      go none e = refl
      go (some o) e =
          let f = kind-found n.kind (object_at l n.key) o e in
          find-put-other key_of (taken_by id o) l k (λ z. h (z ∙ taken-key id o ∙ (found key_of l n.key o f.0).1, λ q. no-thread-kind o (f.1 ∙ q)))

  -- one with another key
  take-elsewhere : (l : List Object) (n : Named) (k : ℕ) → (k ≡ n.key → ⊥) → object_at (take id l n) k ≡ object_at l k
  take-elsewhere l n k h = take-other l n k (λ z. h z.0)

  -- one of another kind at the key: nothing is taken
  take-nothing : (l : List Object) (n : Named) (o : Object) → object_at l n.key ≡ some o → (kind_of o ≡ n.kind → ⊥) → take id l n ≡ l
  take-nothing l n o f h = ap (λ (a : Option Object). given a l (λ x. put_object (taken_by id x) l)) (ap (of_kind n.kind) f ∙ ap (λ (b : Bool). cond b (some o) none) (ne_eqb (kind_of o) n.kind h))

  every-other : (l : List Object) (ns : List Named) (k : ℕ) → ((n : Named) → Mem n ns → NamesObject n k → ⊥) → object_at (take_every id l ns) k ≡ object_at l k
  every-other l [] k h = refl
  every-other l (n ∷ ns) k h = every-other (take id l n) ns k (λ m a. h m (inr a)) ∙ take-other l n k (h n (inl refl))

  stays : (l : List Object) (ns : List Named) (k : ℕ) (p : Object) → object_at l k ≡ some p → ((m : Named) → Mem m ns → m.key ≡ k → m.kind ≡ kind_of p → ⊥) → object_at (take_every id l ns) k ≡ some p
  stays l [] k p f h = f
  stays l (n ∷ ns) k p f h = stays (take id l n) ns k p (elim (ℕ_discrete k n.key) [
    | yes e ↦ ap (λ (x : List Object). object_at x k) (take-nothing l n p (ap (object_at l) (sym e) ∙ f) (λ z. h n (inl refl) (sym e) (sym z))) ∙ f
    | no q ↦ take-elsewhere l n k q ∙ f
  ]) (λ m a. h m (inr a))

  every-taken : (l : List Object) (ns : List Named) → has_duplicate ns ≡ false → (n : Named) → Mem n ns → Takes id l (take_every id l ns) n
  every-taken l [] e n m o f = absurd m
  every-taken l (x ∷ xs) e n m o f = go m (every-taken (take id l x) xs d.1 n)
    where
      d : (listed x xs ≡ false) × (has_duplicate xs ≡ false)
      d = neither (listed x xs) (has_duplicate xs) e

      -- another of the same kind and key would be listed twice
      differs : (y : Named) → Mem y xs → y.key ≡ x.key → y.kind ≡ x.kind → ⊥
      differs y a p q = not-both (sym (same-named y x q p) ∙ any_false (λ z. same_named z x) xs d.0 y a)

      go : (n ≡ x) ⊎ Mem n xs → (Mem n xs → Takes id (take id l x) (take_every id (take id l x) xs) n) → object_at (take_every id (take id l x) xs) n.key ≡ some (taken_by id o)
      go (inl p) ih =
          let g : named_in l x ≡ some o = ap (named_in l) (sym p) ∙ f in
          let k = kind-found x.kind (object_at l x.key) o g in
          ap (λ (y : Named). object_at (take_every id (take id l x) xs) y.key) p
          ∙ stays (take id l x) xs x.key (taken_by id o) (take_own l x o g) (λ y a q z. differs y a q (z ∙ taken-kind id o ∙ k.1))
      go (inr p) ih =
          let k = kind-found n.kind (object_at l n.key) o f in
          ih p o (elim (ℕ_discrete n.key x.key) [
            | yes q ↦ ap (λ (y : List Object). named_in y n) (take-nothing l x o (ap (object_at l) (sym q) ∙ k.0) (λ z. differs n p q (sym k.1 ∙ z))) ∙ f
            | no q ↦ ap (of_kind n.kind) (take-elsewhere l x n.key q) ∙ f
          ])

-- ---- the call

module _ (s : State) (l : List ℕ) (all : Bool) (deadline : Option ℕ) (irql : ℕ) (e : refusal (Wait l all deadline irql) s ≡ 0) where
  abbrev d₀ : Dispatcher
  d₀ = s.dispatcher

  -- an accepted wait is granted, timed out or blocked
  wait-is : step (Wait l all deadline irql) s ≡ waited s (pairs l) all deadline
  unfolding effect
  wait-is = step_is (Wait l all deadline irql) s e

  no-duplicate : has_duplicate (pairs l) ≡ false
  unfolding refusal wait_refusal bad_list
  no-duplicate =
      let a = passes (eqb d₀.current 0) 2 _ e in
      let b = passes (bad_list l) 6 _ a.1 in
      let c = neither (is_empty (pairs l)) _ b.0 in
      let g = neither (ltb 64 (length (pairs l))) _ c.1 in
      (neither (has_duplicate (pairs l)) _ g.1).0

  -- the page's test decides whether it is granted
  decided : step (Wait l all deadline irql) s ≡ cond (is_satisfied s (pairs l) all) (granted s (pairs l) all) (cond (reached deadline s.now) (timed_out s) (blocks s (pairs l) all deadline))
  unfolding waited
  decided = wait-is ∙ ap (λ (b : Bool). cond b (granted s (pairs l) all) (cond (reached deadline s.now) (timed_out s) (blocks s (pairs l) all deadline))) (sym (satisfied-is s (pairs l) all))

over-is : (s : State) (deadline : Option ℕ) → timeout_over s deadline ≡ reached deadline s.now
over-is s none = refl
over-is s (some t) = refl

module _ (s : State) (ns : List Named) (deadline : Option ℕ) where
  abbrev d₁ : Dispatcher
  d₁ = s.dispatcher

  abbrev Reports : Bool → Outcome → Type 0
  Reports all o = WaitReports s o.state d₁.current ns all deadline o.answer

  -- WaitAny, granted: the lowest that is signaled is taken
  any-granted : is_satisfied s ns false ≡ true → Reports false (granted s ns false)
  unfolding granted
  any-granted t =
      let f = first-available d₁ ns (sym (satisfied-is s ns false) ∙ t) in
      let n = get_or ns (first_available d₁ ns) no_object in
      record {
        one = λ p q. (
          first_available d₁ ns,
          refl,
          record {
            which = n;
            lowest = record { at = f.0; signaled = signaled-is s n ∙ f.1; lowest = λ j y h r. signaled-is s y ∙ f.2 j y h r };
            taken = takes-taken d₁.current d₁.objects (take d₁.current d₁.objects n) n (take_own d₁.current d₁.objects n);
            alone = λ k h. take-other d₁.current d₁.objects n k h;
          },
        );
        each = λ p q. absurd (not-both (sym p));
        over = λ p q. absurd (not-both (sym t ∙ p));
        waits = λ p q. absurd (not-both (sym t ∙ p));
        untaken = λ p. absurd (not-both (sym t ∙ p));
      }

  -- WaitAll, granted: all are taken
  all-granted : has_duplicate ns ≡ false → is_satisfied s ns true ≡ true → Reports true (granted s ns true)
  unfolding granted
  all-granted u t = record {
    one = λ p q. absurd (not-both p);
    each = λ p q. (
      refl,
      record {
        every = every-at (signaled_now s) ns t;
        taken = λ n m. takes-taken d₁.current d₁.objects (take_every d₁.current d₁.objects ns) n (every-taken d₁.current d₁.objects ns u n m);
        others = λ k h. every-other d₁.current d₁.objects ns k h;
      },
    );
    over = λ p q. absurd (not-both (sym t ∙ p));
    waits = λ p q. absurd (not-both (sym t ∙ p));
    untaken = λ p. absurd (not-both (sym t ∙ p));
  }

  met : (all : Bool) → has_duplicate ns ≡ false → is_satisfied s ns all ≡ true → Reports all (granted s ns all)
  met false u t = any-granted t
  met true u t = all-granted u t

  -- not granted: nothing is taken
  unmet : (all r : Bool) → timeout_over s deadline ≡ r → is_satisfied s ns all ≡ false → Reports all (cond r (timed_out s) (blocks s ns all deadline))
  unfolding timed_out blocks blocked becomes
  unmet all true r t = record {
    one = λ p q. absurd (not-both (sym q ∙ t));
    each = λ p q. absurd (not-both (sym q ∙ t));
    over = λ p q. refl;
    waits = λ p q. absurd (not-both (sym r ∙ q));
    untaken = λ p. refl;
  }
  unmet all false r t = record {
    one = λ p q. absurd (not-both (sym q ∙ t));
    each = λ p q. absurd (not-both (sym q ∙ t));
    over = λ p q. absurd (not-both (sym q ∙ r));
    waits = λ p q. refl;
    untaken = λ p. refl;
  }

-- every wait that is not refused
pub wait-reports : (s : State) (l : List ℕ) (all : Bool) (deadline : Option ℕ) (irql : ℕ) → refusal (Wait l all deadline irql) s ≡ 0
    → WaitReports s (step (Wait l all deadline irql) s).state s.dispatcher.current (pairs l) all deadline (step (Wait l all deadline irql) s).answer
wait-reports s l all deadline irql e = subst (Reports s (pairs l) deadline all) (sym (decided s l all deadline irql e)) (go (is_satisfied s (pairs l) all) refl)
  where
    go : (b : Bool) → is_satisfied s (pairs l) all ≡ b → Reports s (pairs l) deadline all (cond b (granted s (pairs l) all) (cond (reached deadline s.now) (timed_out s) (blocks s (pairs l) all deadline)))
    go true t = met s (pairs l) deadline all (no-duplicate s l all deadline irql e) t
    go false t = unmet s (pairs l) deadline all (reached deadline s.now) (over-is s deadline) t
