-- Objects: what stays the same when one is taken, signaled or reset, and why taking never makes another available.
use Prim.Native.Nat.{ℕ, ◌≤◌}
use mathlib.Core.List.{List, [], ◌∷◌}
use mathlib.Core.Bool.{Bool, true, false, cond}
use mathlib.Core.Path.{◌≡◌, refl, sym, ap, ◌∙◌, subst}
use mathlib.Core.Logic.{inl, inr}
use mathlib.Core.Option.{Option, none, some}
use native.Mathlib.Omega.{arith}
use native.Mathlib.Decide.{ℕ_discrete}
use borrow.Author.Tests.{eqb-true}
use lib.Dec.{eqb}
use lib.ListN.{length, get_or}
use Rattle.model.specs.Lists.{Mem, is_empty, present, given}
use Rattle.model.specs.Table.{Rising}
use Rattle.model.specs.State.{Dispatcher, Wait, Named, Mutex, Event, Object, mutex, event, timer}
use Rattle.model.specs.Threads.{is_thread, is_live, status_of, has_exited, with_objects}
use Rattle.model.specs.Waits.{key_of, kind_of, on_mutex, on_event, on_timer, object_at, as_mutex, as_event, as_timer, named_in, of_kind, exists, is_free, is_available, put_object, with_signal, taken_by, take, take_every, takes, first_available, no_object, every_available, is_met, can_wake}
use Rattle.model.specs.Valid.{Each, OwnerLive, Placed}
use Rattle.model.proofs.ListLaws.{not-both, any-falls}
use Rattle.model.proofs.TableLaws.{some_same, none-some, found, find-put-own, find-put-other, rising-put, length-put-known, each-put}
use Rattle.images.specs.declared.Timer.{Timer}

-- ---- what is said of one kind and of every other alike: it is to be shown of the kind, and of the others once; one or two at a time

pub on-mutex₂ {ℓ κ} : {A : Type ℓ} {B : Type κ} (P : A → B → Type 0) {b : A} {f : Mutex → A} {c : B} {g : Mutex → B} (x : Object) → (eqb (kind_of x) 0 ≡ false → P b c)
    → ((m : Mutex) → x ≡ mutex m → P (f m) (g m)) → P (on_mutex b f x) (on_mutex c g x)
on-mutex₂ P (mutex m) d h = h m refl
on-mutex₂ P (event e) d h = d refl
on-mutex₂ P (timer t) d h = d refl

pub on-mutex {ℓ} : {A : Type ℓ} (P : A → Type 0) {b : A} {f : Mutex → A} (x : Object) → (eqb (kind_of x) 0 ≡ false → P b) → ((m : Mutex) → x ≡ mutex m → P (f m)) → P (on_mutex b f x)
on-mutex P {b} {f} x = on-mutex₂ (λ a c. P a) {c = b} {g = f} x

pub on-event₂ {ℓ κ} : {A : Type ℓ} {B : Type κ} (P : A → B → Type 0) {b : A} {f : Event → A} {c : B} {g : Event → B} (x : Object) → (eqb (kind_of x) 1 ≡ false → P b c)
    → ((e : Event) → x ≡ event e → P (f e) (g e)) → P (on_event b f x) (on_event c g x)
on-event₂ P (mutex m) d h = d refl
on-event₂ P (event e) d h = h e refl
on-event₂ P (timer t) d h = d refl

pub on-event {ℓ} : {A : Type ℓ} (P : A → Type 0) {b : A} {f : Event → A} (x : Object) → (eqb (kind_of x) 1 ≡ false → P b) → ((e : Event) → x ≡ event e → P (f e)) → P (on_event b f x)
on-event P {b} {f} x = on-event₂ (λ a c. P a) {c = b} {g = f} x

pub on-timer₂ {ℓ κ} : {A : Type ℓ} {B : Type κ} (P : A → B → Type 0) {b : A} {f : Timer → A} {c : B} {g : Timer → B} (x : Object) → (eqb (kind_of x) 2 ≡ false → P b c)
    → ((t : Timer) → x ≡ timer t → P (f t) (g t)) → P (on_timer b f x) (on_timer c g x)
on-timer₂ P (mutex m) d h = d refl
on-timer₂ P (event e) d h = d refl
on-timer₂ P (timer t) d h = h t refl

pub on-timer {ℓ} : {A : Type ℓ} (P : A → Type 0) {b : A} {f : Timer → A} (x : Object) → (eqb (kind_of x) 2 ≡ false → P b) → ((t : Timer) → x ≡ timer t → P (f t)) → P (on_timer b f x)
on-timer P {b} {f} x = on-timer₂ (λ a c. P a) {c = b} {g = f} x

-- nothing is said of the others
pub at-mutex : {Q : Mutex → Type 0} (x : Object) → ((m : Mutex) → x ≡ mutex m → Q m) → on_mutex Unit Q x
at-mutex x h = on-mutex (λ Q. Q) x (λ n. tt) h

pub at-timer : {Q : Timer → Type 0} (x : Object) → ((t : Timer) → x ≡ timer t → Q t) → on_timer Unit Q x
at-timer x h = on-timer (λ Q. Q) x (λ n. tt) h

pub map-timer : {Q R : Timer → Type 0} → ((t : Timer) → Q t → R t) → (x : Object) → on_timer Unit Q x → on_timer Unit R x
map-timer {Q} h x q = at-timer x (λ t e. h t (subst (on_timer Unit Q) e q))

pub each-timer : (l : List Object) {Q : Timer → Type 0} → ((k : ℕ) (t : Timer) → object_at l k ≡ some (timer t) → Q t) → Each key_of l (on_timer Unit Q)
each-timer l h k x e = at-timer x (λ t q. h k t (e ∙ ap some q))

-- a test that only timers pass
pub timer-passes : (f : Timer → Bool) (x : Object) → on_timer false f x ≡ true → (t : Timer) × (x ≡ timer t) × (f t ≡ true)
timer-passes f x = on-timer (λ b. b ≡ true → (t : Timer) × (x ≡ timer t) × (f t ≡ true)) x (λ n e. absurd (not-both (sym e))) (λ t q e. (t, q, e))

-- ---- a kind's record found is that object found; none found is no object of the kind

pub mutex-found : (o : Option Object) (m : Mutex) → as_mutex o ≡ some m → o ≡ some (mutex m)
mutex-found none m = λ e. absurd (none-some m e)
mutex-found (some x) m = on-mutex (λ a. a ≡ some m → some x ≡ some (mutex m)) x (λ n e. absurd (none-some m e)) (λ y q e. ap some (q ∙ ap mutex (some_same y m e)))

pub event-found : (o : Option Object) (e : Event) → as_event o ≡ some e → o ≡ some (event e)
event-found none m = λ e. absurd (none-some m e)
event-found (some x) m = on-event (λ a. a ≡ some m → some x ≡ some (event m)) x (λ n e. absurd (none-some m e)) (λ y q e. ap some (q ∙ ap event (some_same y m e)))

pub timer-found : (o : Option Object) (t : Timer) → as_timer o ≡ some t → o ≡ some (timer t)
timer-found none m = λ e. absurd (none-some m e)
timer-found (some x) m = on-timer (λ a. a ≡ some m → some x ≡ some (timer m)) x (λ n e. absurd (none-some m e)) (λ y q e. ap some (q ∙ ap timer (some_same y m e)))

pub mutex-absent : (o : Option Object) → as_mutex o ≡ none → of_kind 0 o ≡ none
mutex-absent none = λ e. refl
mutex-absent (some x) = on-mutex (λ a. a ≡ none → of_kind 0 (some x) ≡ none) x (λ n e. ap (λ (b : Bool). cond b (some x) none) n) (λ m q e. absurd (none-some m (sym e)))

pub event-absent : (o : Option Object) → as_event o ≡ none → of_kind 1 o ≡ none
event-absent none = λ e. refl
event-absent (some x) = on-event (λ a. a ≡ none → of_kind 1 (some x) ≡ none) x (λ n e. ap (λ (b : Bool). cond b (some x) none) n) (λ m q e. absurd (none-some m (sym e)))

-- a timer by its kind
pub timer-kind : (x : Object) → kind_of x ≡ 2 → (t : Timer) × (x ≡ timer t)
timer-kind (mutex m) e = absurd (omega arith)
timer-kind (event m) e = absurd (omega arith)
timer-kind (timer t) e = (t, refl)

-- ---- an object without its owner or signal

abbrev pub core : Object → Object
core (mutex m) = mutex (record { key = m.key; owner = 0 })
core (event e) = event (record { key = e.key; manual = e.manual; signaled = false })
core (timer t) = timer (with_signal t false)

abbrev pub core_of : Option Object → Option Object
core_of none = none
core_of (some x) = some (core x)

-- the tables have the same objects but for owners and signals
abbrev pub Same : List Object → List Object → Type 0
Same l l' = (k : ℕ) → core_of (object_at l' k) ≡ core_of (object_at l k)

-- what is free in the second was so in the first
abbrev pub free_in : Option Object → Bool
free_in o = given o false is_free

abbrev pub Falls : List Object → List Object → Type 0
Falls l l' = (k : ℕ) → free_in (object_at l' k) ≡ true → free_in (object_at l k) ≡ true

core-kind : (x : Object) → kind_of (core x) ≡ kind_of x
core-kind (mutex m) = refl
core-kind (event e) = refl
core-kind (timer t) = refl

pub same_kind : (x y : Object) → core x ≡ core y → kind_of x ≡ kind_of y
same_kind x y e = sym (core-kind x) ∙ ap kind_of e ∙ core-kind y

pub core-of : (a : Option Object) (y : Object) → core_of a ≡ some (core y) → (x : Object) × (a ≡ some x) × (core x ≡ core y)
core-of none y e = absurd (none-some (core y) e)
core-of (some x) y e = (x, refl, some_same (core x) (core y) e)

-- a record that is there, with another owner or signal
pub put_same : (x o : Object) (l : List Object) → object_at l (key_of x) ≡ some o → core x ≡ core o → Same l (put_object x l)
put_same x o l f e k = elim (ℕ_discrete k (key_of x)) [
  | yes q ↦ ap (λ (j : ℕ). core_of (object_at (put_object x l) j)) q ∙ ap core_of (find-put-own key_of x l) ∙ ap {B = Option Object} some e
      ∙ sym (ap core_of f) ∙ ap (λ (j : ℕ). core_of (object_at l j)) (sym q)
  | no n ↦ ap core_of (find-put-other key_of x l k n)
]

pub put-falls : (x o : Object) (l : List Object) → object_at l (key_of x) ≡ some o → (is_free x ≡ true → is_free o ≡ true) → Falls l (put_object x l)
put-falls x o l f h k t = elim (ℕ_discrete k (key_of x)) [
  | yes q ↦ ap (λ (j : ℕ). free_in (object_at l j)) q ∙ ap free_in f
      ∙ h (sym (ap free_in (find-put-own key_of x l)) ∙ ap (λ (j : ℕ). free_in (object_at (put_object x l) j)) (sym q) ∙ t)
  | no n ↦ sym (ap free_in (find-put-other key_of x l k n)) ∙ t
]

-- ---- taking

pub taken-key : (id : ℕ) (o : Object) → key_of (taken_by id o) ≡ key_of o
taken-key id (mutex m) = refl
taken-key id (event e) = refl
taken-key id (timer t) = refl

pub taken-core : (id : ℕ) (o : Object) → core (taken_by id o) ≡ core o
taken-core id (mutex m) = refl
taken-core id (event e) = refl
taken-core id (timer t) = refl

kept-only : (a b : Bool) → cond a b false ≡ true → b ≡ true
kept-only true b e = e
kept-only false b e = absurd (not-both (sym e))

taken_free : (id : ℕ) → 1 ≤ id → (o : Object) → is_free (taken_by id o) ≡ true → is_free o ≡ true
taken_free id h (mutex m) e = absurd (omega (arith, eqb-true id 0 e))
taken_free id h (event x) e = kept-only x.manual x.signaled e
taken_free id h (timer t) e = kept-only t.manual_reset t.signaled e

pub of-kind : (k : ℕ) (a : Option Object) (o : Object) → of_kind k a ≡ some o → a ≡ some o
of-kind k none o e = e
of-kind k (some x) o e = go (eqb (kind_of x) k) e
  where
    go : (b : Bool) → cond b (some x) none ≡ some o → some x ≡ some o
    go true q = q
    go false q = absurd (none-some o q)

-- ---- what a change of owners and signals keeps, for the threads of `d`

pub record Restated (d : Dispatcher) (l l' : List Object) : Type 0 where
  pub same : Same l l'
  pub rising : Rising key_of l'
  pub size : length l' ≡ length l
  pub owners : Each key_of l' (OwnerLive d)

pub restated-put : (d : Dispatcher) (l : List Object) (x o : Object) → Rising key_of l → Each key_of l (OwnerLive d) → object_at l (key_of x) ≡ some o → core x ≡ core o → OwnerLive d x → Restated d l (put_object x l)
restated-put d l x o r h f e p = record {
  same = put_same x o l f e;
  rising = rising-put key_of x l r;
  size = length-put-known key_of x l r o f;
  owners = each-put key_of (OwnerLive d) x l p h;
}

owner-taken : (d : Dispatcher) (id : ℕ) → is_live d id ≡ true → (o : Object) → OwnerLive d o → OwnerLive d (taken_by id o)
owner-taken d id v (mutex m) h = go (eqb id 0)
  where
    go : (b : Bool) → cond b true (is_live d id) ≡ true
    go true = refl
    go false = v
owner-taken d id v (event e) h = tt
owner-taken d id v (timer t) h = tt

module _ (d : Dispatcher) (id : ℕ) (one : 1 ≤ id) (v : is_live d id ≡ true) where
  take-restated : (l : List Object) (n : Named) → Rising key_of l → Each key_of l (OwnerLive d) → (Restated d l (take id l n)) × Falls l (take id l n)
  take-restated l n r h = go (named_in l n) refl
    where
      go : (a : Option Object) → named_in l n ≡ a → (Restated d l (given a l (λ o. put_object (taken_by id o) l))) × Falls l (given a l (λ o. put_object (taken_by id o) l))
      go none e = (record { same = λ k. refl; rising = r; size = refl; owners = h }, λ k t. t)
      go (some o) e =
          let f : object_at l n.key ≡ some o = of-kind n.kind (object_at l n.key) o e in
          let g : object_at l (key_of (taken_by id o)) ≡ some o = ap (object_at l) (taken-key id o ∙ (found key_of l n.key o f).1) ∙ f in
          (restated-put d l (taken_by id o) o r h g (taken-core id o) (owner-taken d id v o (h n.key o f)), put-falls (taken_by id o) o l g (taken_free id one o))

  every-restated : (l : List Object) (ns : List Named) → Rising key_of l → Each key_of l (OwnerLive d) → (Restated d l (take_every id l ns)) × Falls l (take_every id l ns)
  every-restated l [] r h = (record { same = λ k. refl; rising = r; size = refl; owners = h }, λ k t. t)
  every-restated l (n ∷ ns) r h =
      let a = take-restated l n r h in
      let b = every-restated (take id l n) ns a.0.rising a.0.owners in
      (record { same = λ k. b.0.same k ∙ a.0.same k; rising = b.0.rising; size = b.0.size ∙ a.0.size; owners = b.0.owners }, λ k t. a.1 k (b.1 k t))

  pub takes-restated : (ns : List Named) (all : Bool) → Rising key_of d.objects → Each key_of d.objects (OwnerLive d)
      → (Restated d d.objects (takes d id ns all)) × Falls d.objects (takes d id ns all)
  takes-restated ns true r h = every-restated d.objects ns r h
  takes-restated ns false r h = take-restated d.objects (get_or ns (first_available d ns) no_object) r h

-- ---- what is there stays there; what is available after was so before

pub exists-same : (d : Dispatcher) (l' : List Object) → Same d.objects l' → (n : Named) → exists d n ≡ true → exists (with_objects d l') n ≡ true
exists-same d l' s n t = go (eqb n.kind 3) t
  where
    still : (k : ℕ) (a b : Option Object) → core_of b ≡ core_of a → present (of_kind k a) ≡ true → present (of_kind k b) ≡ true
    still k none b e q = absurd (not-both (sym q))
    still k (some x) none e q = absurd (none-some (core x) e)
    still k (some x) (some y) e q = ap (λ (j : ℕ). present (cond (eqb j k) (some y) none)) (same_kind y x (some_same (core y) (core x) e)) ∙ other (eqb (kind_of x) k) q
      where
        other : (b : Bool) → present (cond b (some x) none) ≡ true → present (cond b (some y) none) ≡ true
        other true z = refl
        other false z = z

    go : (b : Bool) → cond b (is_thread d n.key) (present (named_in d.objects n)) ≡ true → cond b (is_thread d n.key) (present (named_in l' n)) ≡ true
    go true q = q
    go false q = still n.kind (object_at d.objects n.key) (object_at l' n.key) (s n.key) q

pub available-falls : (d : Dispatcher) (l' : List Object) → Same d.objects l' → Falls d.objects l' → (n : Named) → is_available (with_objects d l') n ≡ true → is_available d n ≡ true
available-falls d l' s f n t = go (eqb n.kind 3) t
  where
    still : (k : ℕ) (a b : Option Object) → core_of b ≡ core_of a → (free_in b ≡ true → free_in a ≡ true) → given (of_kind k b) false is_free ≡ true → given (of_kind k a) false is_free ≡ true
    still k a none e h q = absurd (not-both (sym q))
    still k none (some y) e h q = absurd (none-some (core y) (sym e))
    still k (some x) (some y) e h q =
        ap (λ (j : ℕ). given (cond (eqb j k) (some x) none) false is_free) (same_kind x y (sym (some_same (core y) (core x) e))) ∙ other (eqb (kind_of y) k) q
      where
        other : (b : Bool) → given (cond b (some y) none) false is_free ≡ true → given (cond b (some x) none) false is_free ≡ true
        other true z = h z
        other false z = z

    go : (b : Bool) → cond b (cond (is_thread d n.key) (has_exited (status_of d n.key)) false) (given (named_in l' n) false is_free) ≡ true
        → cond b (cond (is_thread d n.key) (has_exited (status_of d n.key)) false) (given (named_in d.objects n) false is_free) ≡ true
    go true q = q
    go false q = still n.kind (object_at d.objects n.key) (object_at l' n.key) (s n.key) (f n.key) q

-- ---- a wait that can be met now could be met before

every-falls : (d' d : Dispatcher) (ns : List Named) → ((n : Named) → Mem n ns → is_available d' n ≡ true → is_available d n ≡ true) → every_available d' ns ≡ true → every_available d ns ≡ true
every-falls d' d [] h t = t
every-falls d' d (n ∷ ns) h t = go (is_available d' n) refl t (every-falls d' d ns (λ x m. h x (inr m)))
  where
    go : (b : Bool) → is_available d' n ≡ b → cond b (every_available d' ns) false ≡ true → (every_available d' ns ≡ true → every_available d ns ≡ true) → every_available d (n ∷ ns) ≡ true
    go true q z ih = ap (λ (b : Bool). cond b (every_available d ns) false) (h n (inl refl) q) ∙ ih z
    go false q z ih = absurd (not-both (sym z))

pub wake-falls : (d' d : Dispatcher) (w : Wait) → ((n : Named) → Mem n w.objects → is_available d' n ≡ true → is_available d n ≡ true) → can_wake d w ≡ false → can_wake d' w ≡ false
wake-falls d' d w h e = go (can_wake d' w) refl
  where
    met : (all : Bool) → is_met d' w.objects all ≡ true → is_met d w.objects all ≡ true
    met true t = every-falls d' d w.objects h t
    met false t = any-falls (is_available d') (is_available d) w.objects h t

    up : (b : Bool) → cond b false (is_met d' w.objects w.all) ≡ true → cond b false (is_met d w.objects w.all) ≡ true
    up true t = t
    up false t = met w.all t

    go : (b : Bool) → can_wake d' w ≡ b → can_wake d' w ≡ false
    go true t = absurd (not-both (sym (up (is_empty w.objects) t) ∙ e))
    go false t = t

-- ---- properties that owners and signals do not touch

pub each_same : (P : Object → Type 0) → ((x : Object) → P (core x) ≡ P x) → (l l' : List Object) → Same l l' → Each key_of l P → Each key_of l' P
each_same P same l l' s h k y e =
    let q = core-of (object_at l k) y (sym (s k) ∙ ap core_of e) in
    subst (λ (X : Type 0). X) (sym (same q.0) ∙ ap P q.2 ∙ same y) (h k q.0 q.1)

pub placed-core : (x : Object) → Placed (core x) ≡ Placed x
placed-core (mutex m) = refl
placed-core (event e) = refl
placed-core (timer t) = refl
