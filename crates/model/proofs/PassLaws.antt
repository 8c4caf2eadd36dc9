-- The wake pass, visit by visit: who is woken has what it waited for at the end, and what a thread finds taken at its visit an earlier one has taken.
use Prim.Native.Nat.{ℕ, ◌≤◌}
use mathlib.Core.List.{List, [], ◌∷◌, ◌++◌}
use mathlib.Core.Bool.{Bool, true, false, cond}
use mathlib.Core.Option.{Option, none, some}
use mathlib.Core.Logic.{◌⊎◌, inl, inr, ⊎_elim}
use mathlib.Core.Path.{◌≡◌, refl, sym, ap, ◌∙◌, subst}
use native.Mathlib.Decide.{ℕ_discrete}
use borrow.Author.Tests.{eqb-true, eq-eqb}
use lib.Dec.{eqb, leb}
use lib.ListN.{get_or}
use Rattle.model.specs.Lists.{Mem, Distinct, Before, nth, member, is_empty, given}
use Rattle.model.specs.State.{Dispatcher, Thread, Status, ready, waiting, Wait, satisfied, Named, Object}
use Rattle.model.specs.Threads.{count, thread_of, status_of, is_thread, has_exited, is_waiting, wait_of, with_objects, ready_again, becomes, woken}
use Rattle.model.specs.Waits.{key_of, object_at, named_in, is_free, is_available, taken_by, takes, first_available, is_met, index, no_object, can_wake, wake_one, pass, take}
use Rattle.model.proofs.ListLaws.{not-both, append-mem-left, append-mem-right, nth-mem, member-mem, member-not}
use Rattle.model.proofs.TableLaws.{some_same, none-some, found}
use Rattle.model.proofs.ThreadLaws.{length-change, change-own, change-other, stands-somewhere}
use Rattle.model.proofs.ObjectLaws.{taken-key}
use Rattle.model.proofs.TakeLaws.{name_of, taken-name, free-fixed, named-is, available-is, take_own, every-own, first-is, first-least, every-at, at_every, takes_none, takes-either}

-- ---- what is available, and what a thread has

-- an exited thread, or an object of the table that is free
pub data Offered (d : Dispatcher) (n : Named) : Type 0 where
  ended : n.kind ≡ 3 → is_thread d n.key ≡ true → has_exited (status_of d n.key) ≡ true → Offered d n
  stands : (o : Object) → n ≡ name_of o → object_at d.objects (key_of o) ≡ some o → is_free o ≡ true → Offered d n

-- an exited thread, or an object of the table that was free and that the thread has taken
pub data Had (d : Dispatcher) (i : ℕ) (n : Named) : Type 0 where
  ended : n.kind ≡ 3 → is_thread d n.key ≡ true → has_exited (status_of d n.key) ≡ true → Had d i n
  stands : (o : Object) → n ≡ name_of o → is_free o ≡ true → object_at d.objects (key_of o) ≡ some (taken_by i o) → Had d i n

-- a thread has its number as long as there are as many
pub number_same : (d d' : Dispatcher) (j : ℕ) → count d' ≡ count d → is_thread d j ≡ true → is_thread d' j ≡ true
number_same d d' j e t = ap (λ (c : ℕ). cond (eqb j 0) false (leb j c)) e ∙ t

pub available-offered : (d : Dispatcher) (n : Named) → is_available d n ≡ true → Offered d n
available-offered d n e = go (eqb n.kind 3) refl e
  where
    thread : (b : Bool) → is_thread d n.key ≡ b → n.kind ≡ 3 → cond b (has_exited (status_of d n.key)) false ≡ true → Offered d n
    thread true t k q = ended k t q
    thread false t k q = absurd (not-both (sym q))

    object : (a : Option Object) → named_in d.objects n ≡ a → given a false is_free ≡ true → Offered d n
    object none f q = absurd (not-both (sym q))
    object (some o) f q =
        let r = named-is d.objects n o f in
        stands o r.1 (ap (object_at d.objects) (found key_of d.objects n.key o r.0).1 ∙ r.0) q

    go : (b : Bool) → eqb n.kind 3 ≡ b → cond b (cond (is_thread d n.key) (has_exited (status_of d n.key)) false) (given (named_in d.objects n) false is_free) ≡ true → Offered d n
    go true k q = thread (is_thread d n.key) refl (eqb-true n.kind 3 k) q
    go false k q = object (named_in d.objects n) refl q

pub offered-available : (d : Dispatcher) (n : Named) → Offered d n → is_available d n ≡ true
offered-available d n (ended k t x) =
    ap (λ (b : Bool). cond b (cond (is_thread d n.key) (has_exited (status_of d n.key)) false) (given (named_in d.objects n) false is_free)) (eq-eqb n.kind 3 k)
    ∙ ap (λ (b : Bool). cond b (has_exited (status_of d n.key)) false) t ∙ x
offered-available d n (stands o e f q) = ap (is_available d) e ∙ available-is d o f ∙ q

-- ---- one visit

abbrev pub granted : Dispatcher → ℕ → Wait → Dispatcher
granted d x y = woken (with_objects d (takes d x y.objects y.all)) x (satisfied (index d y.objects y.all))

-- thread `j` waited, and its wait has been granted: "any" answers the place of the object, "all" answers 0
pub record Got (d d' : Dispatcher) (n : Named) (j : ℕ) : Type 0 where
  pub for : Wait
  pub waited : status_of d j ≡ waiting for
  pub place : ℕ
  pub named : nth for.objects place ≡ some n
  pub is-ready : status_of d' j ≡ ready
  pub result : (thread_of d' j).result ≡ some (satisfied (cond for.all 0 place))

-- it is ready, and its wait has answered this index
abbrev pub Awake : Dispatcher → ℕ → ℕ → Type 0
Awake d i k = (status_of d i ≡ ready) × ((thread_of d i).result ≡ some (satisfied k))

got-still : (d d' d'' : Dispatcher) (n : Named) (j : ℕ) → thread_of d'' j ≡ thread_of d' j → Got d d' n j → Got d d'' n j
got-still d d' d'' n j e g = record {
  for = g.for;
  waited = g.waited;
  place = g.place;
  named = g.named;
  is-ready = ap (λ (t : Thread). t.status) e ∙ g.is-ready;
  result = ap (λ (t : Thread). t.result) e ∙ g.result;
}

pub met : (d : Dispatcher) (y : Wait) → can_wake d y ≡ true → is_met d y.objects y.all ≡ true
met d y e = go (is_empty y.objects) e
  where
    go : (b : Bool) → cond b false (is_met d y.objects y.all) ≡ true → is_met d y.objects y.all ≡ true
    go true q = absurd (not-both (sym q))
    go false q = q

pub can-wake : (d : Dispatcher) (y : Wait) (k : ℕ) (n : Named) → nth y.objects k ≡ some n → is_met d y.objects y.all ≡ true → can_wake d y ≡ true
can-wake d y k n at e = go y.objects refl at
  where
    go : (l : List Named) → y.objects ≡ l → nth l k ≡ some n → can_wake d y ≡ true
    go [] q z = absurd (none-some n z)
    go (x ∷ l) q z = ap (λ (l : List Named). cond (is_empty l) false (is_met d y.objects y.all)) q ∙ e

pub visit-other : (d : Dispatcher) (x i : ℕ) → (i ≡ x → ⊥) → thread_of (wake_one d x) i ≡ thread_of d i
unfolding wake_one woken becomes
visit-other d x i n = go (can_wake d (wait_of (status_of d x)))
  where
    go : (b : Bool) → thread_of (cond b (granted d x (wait_of (status_of d x))) d) i ≡ thread_of d i
    go true = change-other d.threads x (ready_again (thread_of d x) (some (satisfied (index d (wait_of (status_of d x)).objects (wait_of (status_of d x)).all)))) i n
    go false = refl

visit-count : (d : Dispatcher) (x : ℕ) → count (wake_one d x) ≡ count d
unfolding wake_one woken becomes
visit-count d x = go (can_wake d (wait_of (status_of d x)))
  where
    go : (b : Bool) → count (cond b (granted d x (wait_of (status_of d x))) d) ≡ count d
    go true = length-change d.threads x (ready_again (thread_of d x) (some (satisfied (index d (wait_of (status_of d x)).objects (wait_of (status_of d x)).all))))
    go false = refl

module _ (d : Dispatcher) (x : ℕ) (y : Wait) (e : status_of d x ≡ waiting y) where
  visit-is : (b : Bool) → can_wake d y ≡ b → wake_one d x ≡ cond b (granted d x y) d
  unfolding wake_one
  visit-is b c = ap (λ (z : Status). cond (can_wake d (wait_of z)) (granted d x (wait_of z)) d) e ∙ ap (λ (t : Bool). cond t (granted d x y) d) c

  range : (1 ≤ x) × (x ≤ count d)
  range = stands-somewhere d.threads x is_waiting refl (ap is_waiting e)

  pub visit-none : can_wake d y ≡ false → wake_one d x ≡ d
  visit-none c = visit-is false c

  pub visit-own : can_wake d y ≡ true → thread_of (wake_one d x) x ≡ ready_again (thread_of d x) (some (satisfied (index d y.objects y.all)))
  unfolding woken becomes
  visit-own c = ap (λ (z : Dispatcher). thread_of z x) (visit-is true c) ∙ change-own d.threads x (ready_again (thread_of d x) (some (satisfied (index d y.objects y.all)))) range.0 range.1

  pub visit-objects : can_wake d y ≡ true → (wake_one d x).objects ≡ takes d x y.objects y.all
  unfolding woken becomes
  visit-objects c = ap (λ (z : Dispatcher). z.objects) (visit-is true c)

  -- an object is as it was, or the visit has taken it
  visit-either : (k : ℕ) (o : Object) → object_at d.objects k ≡ some o
      → (object_at (wake_one d x).objects k ≡ some o) ⊎ ((object_at (wake_one d x).objects k ≡ some (taken_by x o)) × (is_free o ≡ true) × Got d (wake_one d x) (name_of o) x)
  visit-either k o f = go (can_wake d y) refl
    where
      go : (b : Bool) → can_wake d y ≡ b
          → (object_at (wake_one d x).objects k ≡ some o) ⊎ ((object_at (wake_one d x).objects k ≡ some (taken_by x o)) × (is_free o ≡ true) × Got d (wake_one d x) (name_of o) x)
      go false c = inl (ap (λ (z : Dispatcher). object_at z.objects k) (visit-none c) ∙ f)
      go true c = ⊎_elim
          (λ (z : object_at (takes d x y.objects y.all) k ≡ some o). inl (ap (λ (l : List Object). object_at l k) (visit-objects c) ∙ z))
          (λ (z : (object_at (takes d x y.objects y.all) k ≡ some (taken_by x o)) × (is_free o ≡ true) × (p : ℕ) × (nth y.objects p ≡ some (name_of o)) × (index d y.objects y.all ≡ cond y.all 0 p)).
          inr (
            ap (λ (l : List Object). object_at l k) (visit-objects c) ∙ z.0,
            z.1,
            record {
              for = y;
              waited = e;
              place = z.2;
              named = z.3;
              is-ready = ap (λ (t : Thread). t.status) (visit-own c);
              result = ap (λ (t : Thread). t.result) (visit-own c) ∙ ap (λ (i : ℕ). some (satisfied i)) z.4;
            },
          ))
          (takes-either d x y.objects y.all (met d y c) k o f)

-- ---- the pass

-- each of them waits
abbrev pub AllWait : Dispatcher → List ℕ → Type 0
AllWait d xs = (x : ℕ) → Mem x xs → (y : Wait) × (status_of d x ≡ waiting y)

pub pass-thread : (xs : List ℕ) (d : Dispatcher) (i : ℕ) → (Mem i xs → ⊥) → thread_of (pass d xs) i ≡ thread_of d i
pass-thread [] d i n = refl
pass-thread (x ∷ xs) d i n = pass-thread xs (wake_one d x) i (λ m. n (inr m)) ∙ visit-other d x i (λ e. n (inl e))

pub pass-count : (xs : List ℕ) (d : Dispatcher) → count (pass d xs) ≡ count d
pass-count [] d = refl
pass-count (x ∷ xs) d = pass-count xs (wake_one d x) ∙ visit-count d x

-- who is visited later waits as before
others-wait : (d : Dispatcher) (x : ℕ) (xs : List ℕ) → (Mem x xs → ⊥) → AllWait d xs → AllWait (wake_one d x) xs
others-wait d x xs n h i m = let r = h i m in (r.0, ap (λ (t : Thread). t.status) (visit-other d x i (λ e. n (subst (λ (j : ℕ). Mem j xs) e m))) ∙ r.1)

-- an exited thread stays as it is
pub pass-exited : (xs : List ℕ) (d : Dispatcher) → AllWait d xs → (i : ℕ) → has_exited (status_of d i) ≡ true → thread_of (pass d xs) i ≡ thread_of d i
pass-exited xs d h i e = pass-thread xs d i (λ m. not-both (sym e ∙ ap has_exited (h i m).1))

visit-absent : (d : Dispatcher) (x : ℕ) (k : ℕ) → object_at d.objects k ≡ none → object_at (wake_one d x).objects k ≡ none
unfolding wake_one woken becomes
visit-absent d x k f = go (can_wake d (wait_of (status_of d x)))
  where
    go : (b : Bool) → object_at (cond b (granted d x (wait_of (status_of d x))) d).objects k ≡ none
    go true = takes_none x d (wait_of (status_of d x)).objects (wait_of (status_of d x)).all k f
    go false = f

-- where there is no object there is none after
pub pass-absent : (xs : List ℕ) (d : Dispatcher) (k : ℕ) → object_at d.objects k ≡ none → object_at (pass d xs).objects k ≡ none
pass-absent [] d k f = f
pass-absent (x ∷ xs) d k f = pass-absent xs (wake_one d x) k (visit-absent d x k f)

-- one of the pass was granted its wait and has taken the object, which was free
pub record Taker (d d' : Dispatcher) (xs : List ℕ) (k : ℕ) (o : Object) : Type 0 where
  pub by : ℕ
  pub listed : Mem by xs
  pub got : Got d d' (name_of o) by
  pub free : is_free o ≡ true
  pub taken : object_at d'.objects k ≡ some (taken_by by o)

pub pass-either : (xs : List ℕ) (d : Dispatcher) → Distinct xs → AllWait d xs → (k : ℕ) (o : Object) → object_at d.objects k ≡ some o
    → (object_at (pass d xs).objects k ≡ some o) ⊎ Taker d (pass d xs) xs k o
pass-either [] d n h k o f = inl f
pass-either (x ∷ xs) d n h k o f = go (visit-either d x (h x (inl refl)).0 (h x (inl refl)).1 k o f) (pass-either xs (wake_one d x) n.1 later k)
  where
    later : AllWait (wake_one d x) xs
    later = others-wait d x xs n.0 (λ i m. h i (inr m))

    one : 1 ≤ x
    one = (range d x (h x (inl refl)).0 (h x (inl refl)).1).0

    own : thread_of (pass d (x ∷ xs)) x ≡ thread_of (wake_one d x) x
    own = pass-thread xs (wake_one d x) x n.0

    go : (object_at (wake_one d x).objects k ≡ some o) ⊎ ((object_at (wake_one d x).objects k ≡ some (taken_by x o)) × (is_free o ≡ true) × Got d (wake_one d x) (name_of o) x)
        → ((o : Object) → object_at (wake_one d x).objects k ≡ some o → (object_at (pass d (x ∷ xs)).objects k ≡ some o) ⊎ Taker (wake_one d x) (pass d (x ∷ xs)) xs k o)
        → (object_at (pass d (x ∷ xs)).objects k ≡ some o) ⊎ Taker d (pass d (x ∷ xs)) (x ∷ xs) k o
    go (inl g) rest = ⊎_elim
        (λ (z : object_at (pass d (x ∷ xs)).objects k ≡ some o). inl z)
        (λ (t : Taker (wake_one d x) (pass d (x ∷ xs)) xs k o). inr (record {
          by = t.by;
          listed = inr t.listed;
          got = record {
            for = t.got.for;
            waited = sym (ap (λ (z : Thread). z.status) (visit-other d x t.by (λ q. n.0 (subst (λ (j : ℕ). Mem j xs) q t.listed)))) ∙ t.got.waited;
            place = t.got.place;
            named = t.got.named;
            is-ready = t.got.is-ready;
            result = t.got.result;
          };
          free = t.free;
          taken = t.taken;
        }))
        (rest o g)
    go (inr g) rest = inr (record {
      by = x;
      listed = inl refl;
      got = got-still d (wake_one d x) (pass d (x ∷ xs)) (name_of o) x own g.2;
      free = g.1;
      taken = ⊎_elim
          (λ (z : object_at (pass d (x ∷ xs)).objects k ≡ some (taken_by x o)). z)
          (λ (t : Taker (wake_one d x) (pass d (x ∷ xs)) xs k (taken_by x o)). t.taken ∙ ap {B = Option Object} some (free-fixed x one t.by o t.free))
          (rest (taken_by x o) g.0);
    })

-- ---- the moment of one visit: those before it, and those behind it

pub pass-append : (a b : List ℕ) (d : Dispatcher) → pass d (a ++ b) ≡ pass (pass d a) b
pass-append [] b d = refl
pass-append (x ∷ a) b d = pass-append a b (wake_one d x)

pub split : (i : ℕ) (xs : List ℕ) → Mem i xs → (a b : List ℕ) × (xs ≡ a ++ (i ∷ b))
split i [] m = absurd m
split i (x ∷ xs) (inl e) = ([], xs, ap (λ (y : ℕ). y ∷ xs) (sym e))
split i (x ∷ xs) (inr m) = let r = split i xs m in (x ∷ r.0, r.1, ap (λ (l : List ℕ). x ∷ l) r.2)

pub record Apart (a : List ℕ) (i : ℕ) (b : List ℕ) : Type 0 where
  pub front : Distinct a
  pub back : Distinct b
  pub not-front : Mem i a → ⊥
  pub not_back : Mem i b → ⊥
  pub not-both : (j : ℕ) → Mem j a → Mem j (i ∷ b) → ⊥

pub apart : (a : List ℕ) (i : ℕ) (b : List ℕ) → Distinct (a ++ (i ∷ b)) → Apart a i b
apart [] i b n = record { front = tt; back = n.1; not-front = λ m. m; not_back = n.0; not-both = λ j m q. m }
apart (x ∷ a) i b n =
    let r = apart a i b n.1 in
    let out : (j : ℕ) → Mem j (i ∷ b) → x ≡ j → ⊥ = λ j m e. n.0 (subst (λ (k : ℕ). Mem k (a ++ (i ∷ b))) (sym e) (append-mem-right j a (i ∷ b) m)) in
    record {
      front = (λ m. n.0 (append-mem-left x a (i ∷ b) m), r.front);
      back = r.back;
      not-front = λ m. ⊎_elim (λ (e : i ≡ x). out i (inl refl) (sym e)) (λ (z : Mem i a). r.not-front z) m;
      not_back = r.not_back;
      not-both = λ j m q. ⊎_elim (λ (e : j ≡ x). out j q (sym e)) (λ (z : Mem j a). r.not-both j z q) m;
    }

pub before_split : (a : List ℕ) (i : ℕ) (b : List ℕ) (j : ℕ) → Mem j a → Before j i (a ++ (i ∷ b))
before_split [] i b j m = absurd m
before_split (x ∷ a) i b j (inl e) = inl (e, append-mem-right i a (i ∷ b) (inl refl))
before_split (x ∷ a) i b j (inr m) = inr (before_split a i b j m)

-- one before thread `i` was granted its wait and has taken the object, which is then no longer available
pub record Lost (d d' : Dispatcher) (xs : List ℕ) (i : ℕ) (n : Named) : Type 0 where
  pub by : ℕ
  pub before : Before by i xs
  pub got : Got d d' n by
  pub object : Object
  pub is : n ≡ name_of object
  pub free : is_free object ≡ true
  pub gone : is_free (taken_by by object) ≡ false
  pub taken : object_at d'.objects (key_of object) ≡ some (taken_by by object)

module _ (d : Dispatcher) (a : List ℕ) (i : ℕ) (b : List ℕ) (once : Distinct (a ++ (i ∷ b))) (h : AllWait d (a ++ (i ∷ b))) (y : Wait) (e : status_of d i ≡ waiting y) where
  -- the dispatcher when thread `i` is visited, and at the end
  abbrev pub moment : Dispatcher
  moment = pass d a

  abbrev pub end : Dispatcher
  end = pass d (a ++ (i ∷ b))

  end_is : end ≡ pass (wake_one moment i) b
  end_is = pass-append a (i ∷ b) d

  front-wait : AllWait d a
  front-wait j m = h j (append-mem-left j a (i ∷ b) m)

  own_same : thread_of moment i ≡ thread_of d i
  own_same = pass-thread a d i (apart a i b once).not-front

  pub own-waits : status_of moment i ≡ waiting y
  own-waits = ap (λ (t : Thread). t.status) own_same ∙ e

  own-end : thread_of end i ≡ thread_of (wake_one moment i) i
  own-end = ap (λ (z : Dispatcher). thread_of z i) end_is ∙ pass-thread b (wake_one moment i) i (apart a i b once).not_back

  one : 1 ≤ i
  one = (range d i y e).0

  -- it is woken, or it is as it was
  pub wakes : can_wake moment y ≡ true → thread_of end i ≡ ready_again (thread_of d i) (some (satisfied (index moment y.objects y.all)))
  wakes c = own-end ∙ visit-own moment i y own-waits c ∙ ap (λ (t : Thread). ready_again t (some (satisfied (index moment y.objects y.all)))) own_same

  pub stays : can_wake moment y ≡ false → thread_of end i ≡ thread_of d i
  stays c = own-end ∙ ap (λ (z : Dispatcher). thread_of z i) (visit-none moment i y own-waits c) ∙ own_same

  back-wait : AllWait (wake_one moment i) b
  back-wait j m =
      let r = h j (append-mem-right j a (i ∷ b) (inr m)) in
      let q = apart a i b once in (
        r.0,
        ap (λ (t : Thread). t.status) (visit-other moment i j (λ z. q.not_back (subst (λ (k : ℕ). Mem k b) z m)) ∙ pass-thread a d j (λ z. q.not-both j z (inr m))) ∙ r.1,
      )

  front-end : (j : ℕ) → Mem j a → thread_of end j ≡ thread_of moment j
  front-end j m =
      let q = apart a i b once in
      ap (λ (z : Dispatcher). thread_of z j) end_is ∙ pass-thread b (wake_one moment i) j (λ z. q.not-both j m (inr z)) ∙ visit-other moment i j (λ z. q.not-both j m (inl z))

  rest-wait : AllWait moment (i ∷ b)
  rest-wait j m =
      let r = h j (append-mem-right j a (i ∷ b) m) in
      (r.0, ap (λ (t : Thread). t.status) (pass-thread a d j (λ z. (apart a i b once).not-both j z m)) ∙ r.1)

  -- what it has taken nobody behind it takes away
  kept : (o : Object) → object_at (wake_one moment i).objects (key_of o) ≡ some (taken_by i o) → object_at end.objects (key_of o) ≡ some (taken_by i o)
  kept o g = ap (λ (z : Dispatcher). object_at z.objects (key_of o)) end_is ∙ ⊎_elim
      (λ (z : object_at (pass (wake_one moment i) b).objects (key_of o) ≡ some (taken_by i o)). z)
      (λ (t : Taker (wake_one moment i) (pass (wake_one moment i) b) b (key_of o) (taken_by i o)). t.taken ∙ ap {B = Option Object} some (free-fixed i one t.by o t.free))
      (pass-either b (wake_one moment i) (apart a i b once).back back-wait (key_of o) (taken_by i o) g)

  exited-end : (j : ℕ) → is_thread moment j ≡ true → has_exited (status_of moment j) ≡ true
      → (is_thread end j ≡ true) × (has_exited (status_of end j) ≡ true)
  exited-end j t x = (
    number_same moment end j (pass-count (a ++ (i ∷ b)) d ∙ sym (pass-count a d)) t,
    ap (λ (z : Dispatcher). has_exited (status_of z j)) (pass-append a (i ∷ b) d) ∙ ap (λ (z : Thread). has_exited z.status) (pass-exited (i ∷ b) moment rest-wait j x) ∙ x,
  )

  -- ---- what is available before the pass is so at the visit, or one before it has taken it

  abbrev LostHere : Named → Type 0
  LostHere n = Lost d end (a ++ (i ∷ b)) i n

  pub still : (n : Named) → is_available d n ≡ true → (is_available moment n ≡ true) ⊎ LostHere n
  still n q = go (available-offered d n q)
    where
      go : Offered d n → (is_available moment n ≡ true) ⊎ LostHere n
      go (ended k t x) = inl (offered-available moment n (ended k
          (number_same d moment n.key (pass-count a d) t)
          (ap (λ (z : Thread). has_exited z.status) (pass-exited a d front-wait n.key x) ∙ x)))
      go (stands o z f g) = ⊎_elim
          (λ (s : object_at moment.objects (key_of o) ≡ some o). inl (offered-available moment n (stands o z s g)))
          (λ (t : Taker d moment a (key_of o) o). by t (is_free (taken_by t.by o)) refl)
          (pass-either a d (apart a i b once).front front-wait (key_of o) o f)
        where
          by : (t : Taker d moment a (key_of o) o) (c : Bool) → is_free (taken_by t.by o) ≡ c → (is_available moment n ≡ true) ⊎ LostHere n
          by t true c = inl (offered-available moment n (stands (taken_by t.by o) (z ∙ sym (taken-name t.by o)) (ap (object_at moment.objects) (taken-key t.by o) ∙ t.taken) c))
          by t false c = inr (record {
            by = t.by;
            before = before_split a i b t.by t.listed;
            got = got-still d moment end n t.by (front-end t.by t.listed) (subst (λ (m : Named). Got d moment m t.by) (sym z) t.got);
            object = o;
            is = z;
            free = g;
            gone = c;
            taken = ap (λ (z : Dispatcher). object_at z.objects (key_of o)) (pass-append a (i ∷ b) d) ∙ ⊎_elim
                (λ (s : object_at (pass moment (i ∷ b)).objects (key_of o) ≡ some (taken_by t.by o)). s)
                (λ (u : Taker moment (pass moment (i ∷ b)) (i ∷ b) (key_of o) (taken_by t.by o)). absurd (not-both (sym u.free ∙ c)))
                (pass-either (i ∷ b) moment ((apart a i b once).not_back, (apart a i b once).back) rest-wait (key_of o) (taken_by t.by o) t.taken);
          })

  -- ---- so the thread is woken, or one before it has taken what it waits for

  awake : can_wake moment y ≡ true → Awake end i (index moment y.objects y.all)
  awake c = (ap (λ (t : Thread). t.status) (wakes c), ap (λ (t : Thread). t.result) (wakes c))

  pub goes_any : y.all ≡ false → (k : ℕ) (n : Named) → nth y.objects k ≡ some n → is_available d n ≡ true → ((m : ℕ) × (m ≤ k) × Awake end i m) ⊎ LostHere n
  goes_any q k n at av = ⊎_elim
      (λ (z : is_available moment n ≡ true).
      let r = first-least moment y.objects k n at z in
      inl (
        index moment y.objects y.all,
        subst (λ (t : Bool). index moment y.objects t ≤ k) (sym q) r.1,
        awake (can-wake moment y k n at (ap (is_met moment y.objects) q ∙ r.0)),
      ))
      (λ (z : LostHere n). inr z)
      (still n av)

  pub goes_all : y.all ≡ true → (k : ℕ) (n : Named) → nth y.objects k ≡ some n → ((m : Named) → Mem m y.objects → is_available d m ≡ true)
      → (Awake end i 0) ⊎ ((m : Named) × (Mem m y.objects) × LostHere m)
  goes_all q k n at av = ⊎_elim
      (λ (z : (m : Named) → Mem m y.objects → is_available moment m ≡ true).
      inl (subst (λ (t : Bool). Awake end i (index moment y.objects t)) q (awake (can-wake moment y k n at (ap (is_met moment y.objects) q ∙ at_every moment y.objects z)))))
      (λ (z : (m : Named) × (Mem m y.objects) × LostHere m). inr z)
      (each y.objects (λ m h. still m (av m h)))
    where
      each : (ns : List Named) → ((m : Named) → Mem m ns → (is_available moment m ≡ true) ⊎ LostHere m)
          → ((m : Named) → Mem m ns → is_available moment m ≡ true) ⊎ ((m : Named) × (Mem m ns) × LostHere m)
      each [] f = inl (λ m h. absurd h)
      each (x ∷ ns) f = two (f x (inl refl)) (each ns (λ m h. f m (inr h)))
        where
          two : (is_available moment x ≡ true) ⊎ LostHere x → ((m : Named) → Mem m ns → is_available moment m ≡ true) ⊎ ((m : Named) × (Mem m ns) × LostHere m)
              → ((m : Named) → Mem m (x ∷ ns) → is_available moment m ≡ true) ⊎ ((m : Named) × (Mem m (x ∷ ns)) × LostHere m)
          two (inr z) c = inr (x, inl refl, z)
          two (inl z) (inr c) = inr (c.0, inr c.1, c.2)
          two (inl z) (inl c) = inl (λ m h. ⊎_elim (λ (e : m ≡ x). ap (is_available moment) e ∙ z) (λ (g : Mem m ns). c m g) h)

  -- ---- who is ready at the end was woken at its visit

  pub woke : status_of end i ≡ ready → can_wake moment y ≡ true
  woke r = go (can_wake moment y) refl
    where
      go : (c : Bool) → can_wake moment y ≡ c → can_wake moment y ≡ true
      go true q = q
      go false q = absurd (not-both (ap is_waiting (sym (ap (λ (t : Thread). t.status) (stays q) ∙ e)) ∙ ap is_waiting r))

  pub woke-with : status_of end i ≡ ready → (k : ℕ) → (thread_of end i).result ≡ some (satisfied k) → index moment y.objects y.all ≡ k
  woke-with r k q = same (sym (awake (woke r)).1 ∙ q)
    where
      same : {m n : ℕ} → some (satisfied m) ≡ some (satisfied n) → m ≡ n
      same z = cc

  -- what it was woken by was available at its visit, and it has it at the end
  module _ (r : status_of end i ≡ ready) (n : Named) (p : ℕ) (at : nth y.objects p ≡ some n)
      (q : (thread_of end i).result ≡ some (satisfied (cond y.all 0 p))) where
    first-of : y.all ≡ false → get_or y.objects (first_available moment y.objects) no_object ≡ n
    first-of z =
        some_same (get_or y.objects (first_available moment y.objects) no_object) n
        (sym (first-is moment y.objects (ap (is_met moment y.objects) (sym z) ∙ met moment y (woke r))).0
        ∙ ap (nth y.objects) (ap (index moment y.objects) (sym z) ∙ woke-with r (cond y.all 0 p) q ∙ ap (λ (t : Bool). cond t 0 p) z) ∙ at)

    pub by-available : is_available moment n ≡ true
    by-available = go y.all refl
      where
        go : (t : Bool) → y.all ≡ t → is_available moment n ≡ true
        go true z = every-at moment y.objects (ap (is_met moment y.objects) (sym z) ∙ met moment y (woke r)) n (nth-mem y.objects p n at)
        go false z = ap (is_available moment) (sym (first-of z)) ∙ (first-is moment y.objects (ap (is_met moment y.objects) (sym z) ∙ met moment y (woke r))).1

    pub by-had : Had end i n
    by-had = go (available-offered moment n by-available)
      where
        taken : (t : Bool) → y.all ≡ t → (o : Object) → n ≡ name_of o → object_at moment.objects (key_of o) ≡ some o → object_at (takes moment i y.objects y.all) (key_of o) ≡ some (taken_by i o)
        taken true z o e f =
            ap (λ (t : Bool). object_at (takes moment i y.objects t) (key_of o)) z
            ∙ every-own i moment.objects y.objects o f (subst (λ (k : Named). Mem k y.objects) e (nth-mem y.objects p n at))
        taken false z o e f =
            ap (λ (t : Bool). object_at (takes moment i y.objects t) (key_of o)) z
            ∙ ap (λ (m : Named). object_at (take i moment.objects m) (key_of o)) (first-of z ∙ e) ∙ take_own i moment.objects o f

        go : Offered moment n → Had end i n
        go (ended k t x) = let r = exited-end n.key t x in ended k r.0 r.1
        go (stands o e f g) = stands o e g (kept o (ap (λ (l : List Object). object_at l (key_of o)) (visit-objects moment i y own-waits (woke r)) ∙ taken y.all refl o e f))

-- ---- the whole pass

-- two of a list: one stands before the other
order : (i j : ℕ) (xs : List ℕ) → Mem i xs → Mem j xs → (i ≡ j → ⊥) → ((a b : List ℕ) × (xs ≡ a ++ (i ∷ b)) × Mem j a) ⊎ ((a b : List ℕ) × (xs ≡ a ++ (j ∷ b)) × Mem i a)
order i j [] m q n = absurd m
order i j (x ∷ xs) (inl e) (inl f) n = absurd (n (e ∙ sym f))
order i j (x ∷ xs) (inl e) (inr q) n = let r = split j xs q in inr (x ∷ r.0, r.1, ap (λ (l : List ℕ). x ∷ l) r.2, inl e)
order i j (x ∷ xs) (inr m) (inl f) n = let r = split i xs m in inl (x ∷ r.0, r.1, ap (λ (l : List ℕ). x ∷ l) r.2, inl f)
order i j (x ∷ xs) (inr m) (inr q) n = ⊎_elim
    (λ (r : (a b : List ℕ) × (xs ≡ a ++ (i ∷ b)) × Mem j a). inl (x ∷ r.0, r.1, ap (λ (l : List ℕ). x ∷ l) r.2, inr r.3))
    (λ (r : (a b : List ℕ) × (xs ≡ a ++ (j ∷ b)) × Mem i a). inr (x ∷ r.0, r.1, ap (λ (l : List ℕ). x ∷ l) r.2, inr r.3))
    (order i j xs m q n)

module _ (d : Dispatcher) (xs : List ℕ) (once : Distinct xs) (h : AllWait d xs) where
  -- what holds at the visit of a thread of the list holds
  at-visit : (P : List ℕ → Type 0) (i : ℕ) → Mem i xs → ((a b : List ℕ) → Distinct (a ++ (i ∷ b)) → AllWait d (a ++ (i ∷ b)) → P (a ++ (i ∷ b))) → P xs
  at-visit P i m f =
      let r = split i xs m in
      subst P (sym r.2) (f r.0 r.1 (subst Distinct r.2 once) (subst (AllWait d) r.2 h))

  -- a thread is woken, or it is as it was
  pub pass-status : (i : ℕ) → (thread_of (pass d xs) i ≡ thread_of d i) ⊎ (status_of (pass d xs) i ≡ ready)
  pass-status i = go (member i xs) refl
    where
      one : (a b : List ℕ) → Distinct (a ++ (i ∷ b)) → AllWait d (a ++ (i ∷ b)) → (thread_of (pass d (a ++ (i ∷ b))) i ≡ thread_of d i) ⊎ (status_of (pass d (a ++ (i ∷ b))) i ≡ ready)
      one a b o w = by (can_wake (pass d a) y.0) refl
        where
          y : (z : Wait) × (status_of d i ≡ waiting z)
          y = w i (append-mem-right i a (i ∷ b) (inl refl))

          by : (c : Bool) → can_wake (pass d a) y.0 ≡ c → (thread_of (pass d (a ++ (i ∷ b))) i ≡ thread_of d i) ⊎ (status_of (pass d (a ++ (i ∷ b))) i ≡ ready)
          by true c = inr (ap (λ (t : Thread). t.status) (wakes d a i b o w y.0 y.1 c))
          by false c = inl (stays d a i b o w y.0 y.1 c)

      go : (c : Bool) → member i xs ≡ c → (thread_of (pass d xs) i ≡ thread_of d i) ⊎ (status_of (pass d xs) i ≡ ready)
      go true m = at-visit (λ l. (thread_of (pass d l) i ≡ thread_of d i) ⊎ (status_of (pass d l) i ≡ ready)) i (member-mem i xs m) one
      go false m = inl (pass-thread xs d i (member-not i xs m))

  -- what is available after was so before
  pub pass-falls : (n : Named) → is_available (pass d xs) n ≡ true → is_available d n ≡ true
  pass-falls n q = go (available-offered (pass d xs) n q)
    where
      object : (o x : Object) → n ≡ name_of o → is_free o ≡ true → object_at (pass d xs).objects (key_of o) ≡ some o → object_at d.objects (key_of o) ≡ some x → is_available d n ≡ true
      object o x z g f f' = ⊎_elim
          (λ (s : object_at (pass d xs).objects (key_of o) ≡ some x). offered-available d n (stands o z (f' ∙ sym s ∙ f) g))
          (λ (t : Taker d (pass d xs) xs (key_of o) x).
          let same = some_same o (taken_by t.by x) (sym f ∙ t.taken) in
          offered-available d n (stands x (z ∙ ap name_of same ∙ taken-name t.by x) (ap (object_at d.objects) (sym (ap key_of same ∙ taken-key t.by x)) ∙ f') t.free))
          (pass-either xs d once h (key_of o) x f')

      there : (o : Object) → n ≡ name_of o → is_free o ≡ true → object_at (pass d xs).objects (key_of o) ≡ some o → (c : Option Object) → object_at d.objects (key_of o) ≡ c → is_available d n ≡ true
      there o z g f none c = absurd (none-some o (sym (pass-absent xs d (key_of o) c) ∙ f))
      there o z g f (some x) c = object o x z g f c

      go : Offered (pass d xs) n → is_available d n ≡ true
      go (ended k t x) = offered-available d n (ended k
          (number_same (pass d xs) d n.key (sym (pass-count xs d)) t)
          (⊎_elim
          (λ (s : thread_of (pass d xs) n.key ≡ thread_of d n.key). sym (ap (λ (y : Thread). has_exited y.status) s) ∙ x)
          (λ (s : status_of (pass d xs) n.key ≡ ready). absurd (not-both (sym x ∙ ap has_exited s)))
          (pass-status n.key)))
      go (stands o z f g) = there o z g f (object_at d.objects (key_of o)) refl

-- who is granted its wait has at the end what it waited for, and that was available before the pass
module _ (d : Dispatcher) (xs : List ℕ) (once : Distinct xs) (h : AllWait d xs) (i : ℕ) (m : Mem i xs) where
  pub got-had : (n : Named) → Got d (pass d xs) n i → (is_available d n ≡ true) × Had (pass d xs) i n
  got-had n = at-visit d xs once h (λ l. Got d (pass d l) n i → (is_available d n ≡ true) × Had (pass d l) i n) i m
      (λ a b o w g. (
        pass-falls d a (apart a i b o).front (λ j q. w j (append-mem-left j a (i ∷ b) q)) n
            (by-available d a i b o w g.for g.waited g.is-ready n g.place g.named g.result),
        by-had d a i b o w g.for g.waited g.is-ready n g.place g.named g.result,
      ))

  module _ (y : Wait) (e : status_of d i ≡ waiting y) where
    -- "any" answers the place of an object of the list, "all" answers 0
    pub any_place : (k : ℕ) → y.all ≡ false → status_of (pass d xs) i ≡ ready → (thread_of (pass d xs) i).result ≡ some (satisfied k) → (n : Named) × (nth y.objects k ≡ some n)
    any_place k z = at-visit d xs once h (λ l. status_of (pass d l) i ≡ ready → (thread_of (pass d l) i).result ≡ some (satisfied k) → (n : Named) × (nth y.objects k ≡ some n)) i m
        (λ a b o w r q. (
          get_or y.objects (first_available (pass d a) y.objects) no_object,
          ap (nth y.objects) (sym (woke-with d a i b o w y e r k q) ∙ ap (index (pass d a) y.objects) z)
              ∙ (first-is (pass d a) y.objects (ap (is_met (pass d a) y.objects) (sym z) ∙ met (pass d a) y (woke d a i b o w y e r))).0,
        ))

    pub all-zero : (k : ℕ) → y.all ≡ true → status_of (pass d xs) i ≡ ready → (thread_of (pass d xs) i).result ≡ some (satisfied k) → k ≡ 0
    all-zero k z = at-visit d xs once h (λ l. status_of (pass d l) i ≡ ready → (thread_of (pass d l) i).result ≡ some (satisfied k) → k ≡ 0) i m
        (λ a b o w r q. sym (woke-with d a i b o w y e r k q) ∙ ap (index (pass d a) y.objects) z)

    pub pass-any : y.all ≡ false → (k : ℕ) (n : Named) → nth y.objects k ≡ some n → is_available d n ≡ true
        → ((p : ℕ) × (p ≤ k) × Awake (pass d xs) i p) ⊎ Lost d (pass d xs) xs i n
    pass-any z k n at av = at-visit d xs once h
        (λ l. ((p : ℕ) × (p ≤ k) × Awake (pass d l) i p) ⊎ Lost d (pass d l) l i n) i m
        (λ a b o w. goes_any d a i b o w y e z k n at av)

    pub pass_all : y.all ≡ true → (k : ℕ) (n : Named) → nth y.objects k ≡ some n → ((n : Named) → Mem n y.objects → is_available d n ≡ true)
        → (Awake (pass d xs) i 0) ⊎ ((n : Named) × (Mem n y.objects) × Lost d (pass d xs) xs i n)
    pass_all z k n at av = at-visit d xs once h
        (λ l. (Awake (pass d l) i 0) ⊎ ((n : Named) × (Mem n y.objects) × Lost d (pass d l) l i n)) i m
        (λ a b o w. goes_all d a i b o w y e z k n at av)

-- what has woken two threads is available still
pub pass_alone : (d : Dispatcher) (xs : List ℕ) → Distinct xs → AllWait d xs → (i j : ℕ) → Mem i xs → Mem j xs → (n : Named) → Got d (pass d xs) n i → Got d (pass d xs) n j
    → (i ≡ j) ⊎ (is_available (pass d xs) n ≡ true)
pass_alone d xs once h i j m q n g g' = elim (ℕ_discrete i j) [
  | yes e ↦ inl e
  | no ne ↦ inr (⊎_elim
      (λ (r : (a b : List ℕ) × (xs ≡ a ++ (i ∷ b)) × Mem j a).
      subst (λ (l : List ℕ). Distinct l → AllWait d l → Got d (pass d l) n i → Got d (pass d l) n j → is_available (pass d l) n ≡ true) (sym r.2) (λ o w x y. shared r.0 r.1 i j o w r.3 x y) once h g g')
      (λ (r : (a b : List ℕ) × (xs ≡ a ++ (j ∷ b)) × Mem i a).
      subst (λ (l : List ℕ). Distinct l → AllWait d l → Got d (pass d l) n i → Got d (pass d l) n j → is_available (pass d l) n ≡ true) (sym r.2) (λ o w x y. shared r.0 r.1 j i o w r.3 y x) once h g g')
      (order i j xs m q ne))
]
  where
    -- thread `j` before thread `i`
    shared : (a b : List ℕ) (i j : ℕ) → Distinct (a ++ (i ∷ b)) → AllWait d (a ++ (i ∷ b)) → Mem j a → Got d (pass d (a ++ (i ∷ b))) n i → Got d (pass d (a ++ (i ∷ b))) n j
        → is_available (pass d (a ++ (i ∷ b))) n ≡ true
    shared a b i j o w m g g' = go
        (got-had d a (apart a i b o).front (λ k q. w k (append-mem-left k a (i ∷ b) q)) j m n
        (got-still d (pass d (a ++ (i ∷ b))) (pass d a) n j (sym (front-end d a i b o w g.for g.waited j m)) g')).1
      where
        go : Had (pass d a) j n → is_available (pass d (a ++ (i ∷ b))) n ≡ true
        go (ended k t x) = let r = exited-end d a i b o w g.for g.waited n.key t x in offered-available (pass d (a ++ (i ∷ b))) n (ended k r.0 r.1)
        go (stands x z f t) =
            let name = z ∙ sym (taken-name j x) in
            let here = ap (object_at (pass d a).objects) (taken-key j x) ∙ t in
            let free = sym (ap (is_available (pass d a)) name ∙ available-is (pass d a) (taken_by j x) here) ∙ by-available d a i b o w g.for g.waited g.is-ready n g.place g.named g.result in
            let later = ⊎_elim
            (λ (s : object_at (pass (pass d a) (i ∷ b)).objects (key_of x) ≡ some (taken_by j x)). s)
            (λ (u : Taker (pass d a) (pass (pass d a) (i ∷ b)) (i ∷ b) (key_of x) (taken_by j x)). u.taken ∙ ap {B = Option Object} some (free-fixed j (range d j g'.for g'.waited).0 u.by x u.free))
            (pass-either (i ∷ b) (pass d a) ((apart a i b o).not_back, (apart a i b o).back) (rest-wait d a i b o w g.for g.waited) (key_of x) (taken_by j x) t) in
            offered-available (pass d (a ++ (i ∷ b))) n
            (stands (taken_by j x) name (ap (λ (y : Dispatcher). object_at y.objects (key_of (taken_by j x))) (pass-append a (i ∷ b) d) ∙ ap (object_at (pass (pass d a) (i ∷ b)).objects) (taken-key j x) ∙ later) free)
