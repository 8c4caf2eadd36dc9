-- Taking: one object, those of a list that the caller has, those of a list that stands in the words.
use Prim.Native.Nat.{ℕ, ◌+◌, ◌≤◌}
use mathlib.Core.List.{List, [], ◌∷◌}
use mathlib.Core.Bool.{Bool, true, false, cond}
use mathlib.Core.Option.{Option, none, some}
use mathlib.Core.Path.{◌≡◌, refl, sym, ap, ◌∙◌, subst}
use native.Mathlib.Omega.{arith}
use borrow.Author.Tests.{ltb-true}
use lib.ListN.{get_or, set, length, drop}
use lib.Dec.{eqb}
use Rattle.words.specs.Layout as at
use Rattle.objects.specs.Objects.{place_of}
use Rattle.threads.specs.Thread.{places_at}
use Rattle.waits.specs.Object.{taken}
use Rattle.waits.specs.Lists.{kind_in, key_in, first_in, taken_list, taken_own, takes_list, takes_own}
use Rattle.model.specs.Lists.{given}
use Rattle.model.specs.State.{State, waiting, Wait, Named, Object, mutex, event, timer}
use Rattle.model.specs.Threads.{status_of}
use Rattle.model.specs.Waits.{key_of, kind_of, object_at, named_in, put_object, signaled_as, with_signal, taken_by, take, take_every, takes, first_available, is_met, no_object}
use Rattle.model.specs.Step.{with_table}
use Rattle.model.proofs.TableLaws.{found}
use Rattle.agreement.specs.Row.{Row}
use Rattle.agreement.specs.Records.{flag, places_row, object_row}
use Rattle.agreement.specs.Agree.{Agreeing}
use Rattle.agreement.proofs.Places.{thread-place}
use Rattle.agreement.proofs.Headers.{threads-few}
use Rattle.agreement.proofs.Lookups.{object-place, object-row, waits-for}
use Rattle.agreement.proofs.Objects.{sim-owner, sim-signal, sim-timer-signal}
use Rattle.agreement_wakes.proofs.Tests.{place_none, place-some, place-there}
use Rattle.agreement_wakes.proofs.Lists.{From, from_start, from_next, kind-at, key-at, from_at, drop-next, pair_read, first-is, first_any}
use Rattle.agreement_wakes.proofs.Puts.{put_self}

-- ---- one object

module _ (w : List ℕ) (s : State) (holder : ℕ → ℕ) (active : ℕ) (a : Agreeing w s holder active) (id : ℕ) where
  abbrev l : List Object
  l = s.dispatcher.objects

  -- of a kind, with its record at a place
  abbrev taken_at : ℕ → ℕ → List ℕ
  taken_at place kind = cond (eqb place 0) w (cond (eqb kind 0) (set w (place + at.owner) id) (cond (eqb (get_or w (place + at.manual) 0) 0) (set w (place + at.signaled) 0) w))

  -- a record that stays as it is
  stays : (x : Object) → object_at s.dispatcher.objects (key_of x) ≡ some x → Agreeing w (with_table s (put_object x s.dispatcher.objects)) holder active
  stays x e = subst (λ (m : List Object). Agreeing w (with_table s m) holder active) (sym (put_self key_of x l a.shape.rising e)) a

  place-not : (o : Object) → object_at s.dispatcher.objects (key_of o) ≡ some o → eqb (place_of w (kind_of o) (key_of o)) 0 ≡ false
  place-not o e = ap (λ (p : ℕ). eqb p 0) (object-place w s holder active a (key_of o) o e) ∙ place-there w s holder active a (key_of o)

  -- word 2: whether it is of the kind that stays signaled
  manual-is : (o : Object) (b : Bool) → object_at s.dispatcher.objects (key_of o) ≡ some o → get_or (object_row o) 2 none ≡ some (flag b)
      → get_or w (place_of w (kind_of o) (key_of o) + at.manual) 0 ≡ flag b
  manual-is o b e q = ap (λ (p : ℕ). get_or w (p + at.manual) 0) (object-place w s holder active a (key_of o) o e) ∙ object-row w s holder active a (key_of o) o e 2 (flag b) q

  sim-taken-object : (o : Object) → object_at s.dispatcher.objects (key_of o) ≡ some o
      → Agreeing (taken_at (place_of w (kind_of o) (key_of o)) (kind_of o)) (with_table s (put_object (taken_by id o) s.dispatcher.objects)) holder active
  sim-taken-object (mutex m) e =
      subst (λ (b : Bool). Agreeing (cond b w (set w (place_of w 0 m.key + at.owner) id)) (with_table s (put_object (taken_by id (mutex m)) l)) holder active)
      (sym (place-not (mutex m) e)) (sim-owner w s holder active a m id e)
  sim-taken-object (event v) e =
      subst (λ (b : Bool). Agreeing (cond b w (cond (eqb (get_or w (p + at.manual) 0) 0) (set w (p + at.signaled) 0) w)) (with_table s (put_object (taken_by id (event v)) l)) holder active)
      (sym (place-not (event v) e))
      (subst (λ (k : ℕ). Agreeing (cond (eqb k 0) (set w (p + at.signaled) 0) w) (with_table s (put_object (taken_by id (event v)) l)) holder active) (sym (manual-is (event v) v.manual e refl)) (go v.manual))
    where
      p : ℕ
      p = place_of w 1 v.key

      go : (b : Bool) → Agreeing (cond (eqb (flag b) 0) (set w (p + at.signaled) 0) w) (with_table s (put_object (signaled_as (cond b v.signaled false) v) l)) holder active
      go true = stays (event v) e
      go false = sim-signal w s holder active a v false e
  sim-taken-object (timer t) e =
      subst (λ (b : Bool). Agreeing (cond b w (cond (eqb (get_or w (p + at.manual) 0) 0) (set w (p + at.signaled) 0) w)) (with_table s (put_object (taken_by id (timer t)) l)) holder active)
      (sym (place-not (timer t) e))
      (subst (λ (k : ℕ). Agreeing (cond (eqb k 0) (set w (p + at.signaled) 0) w) (with_table s (put_object (taken_by id (timer t)) l)) holder active) (sym (manual-is (timer t) t.manual_reset e refl)) (go t.manual_reset))
    where
      p : ℕ
      p = place_of w 2 t.address

      go : (b : Bool) → Agreeing (cond (eqb (flag b) 0) (set w (p + at.signaled) 0) w) (with_table s (put_object (timer (with_signal t (cond b t.signaled false))) l)) holder active
      go true = stays (timer t) e
      go false = sim-timer-signal w s holder active a t false e

  pub sim-taken : (n : Named) → Agreeing (taken w id n.kind n.key) (with_table s (take id s.dispatcher.objects n)) holder active
  unfolding taken
  sim-taken n = go (named_in l n) refl
    where
      after : Option Object → State
      after o = with_table s (given o l (λ o. put_object (taken_by id o) l))

      go : (o : Option Object) → named_in l n ≡ o → Agreeing (taken_at (place_of w n.kind n.key) n.kind) (after (named_in l n)) holder active
      go none e =
          subst (λ (o : Option Object). Agreeing (taken_at (place_of w n.kind n.key) n.kind) (after o) holder active) (sym e)
          (subst (λ (p : ℕ). Agreeing (taken_at p n.kind) s holder active) (sym (place_none w s holder active a n e)) a)
      go (some o) e =
          let h = place-some w s holder active a n o e in
          let q : key_of o ≡ n.key = (found key_of l n.key o h.2).1 in
          subst (λ (o : Option Object). Agreeing (taken_at (place_of w n.kind n.key) n.kind) (after o) holder active) (sym e)
          (subst (λ (k : ℕ). Agreeing (taken_at (place_of w k n.key) k) (after (some o)) holder active) (sym h.1)
          (subst (λ (k : ℕ). Agreeing (taken_at (place_of w (kind_of o) k) (kind_of o)) (after (some o)) holder active) q
          (sim-taken-object o (ap (object_at l) q ∙ h.2))))

-- ---- all of a list

pub sim-taken-list : (holder : ℕ → ℕ) (active id : ℕ) (src : List ℕ) (ns : List Named) (i : ℕ) (w : List ℕ) (s : State) → Agreeing w s holder active → From src 0 i ns
    → Agreeing (taken_list (length ns) w id src i) (with_table s (take_every id s.dispatcher.objects ns)) holder active
unfolding taken_list
sim-taken-list holder active id src [] i w s a r = a
sim-taken-list holder active id src (n ∷ ns) i w s a r =
    subst (λ (k : ℕ). Agreeing (taken_list (length ns) (taken w id k (key_in src 0 i)) id src (i + 1)) after holder active) (sym (kind-at src 0 i n ns r))
    (subst (λ (k : ℕ). Agreeing (taken_list (length ns) (taken w id n.kind k) id src (i + 1)) after holder active) (sym (key-at src 0 i n ns r))
    (sim-taken-list holder active id src ns (i + 1) (taken w id n.kind n.key) (with_table s (take id s.dispatcher.objects n)) (sim-taken w s holder active a id n) (from_next src 0 i n ns r)))
  where
    after : State
    after = with_table s (take_every id s.dispatcher.objects (n ∷ ns))

-- where a waiting thread's list stands
pub places_row_lem : (w : List ℕ) (s : State) (holder : ℕ → ℕ) (active : ℕ) → Agreeing w s holder active → (id : ℕ) → 1 ≤ id → id ≤ length s.dispatcher.threads → (x : Wait)
    → status_of s.dispatcher id ≡ waiting x → Row w (places_at id) (places_row x.objects)
unfolding places_at
places_row_lem w s holder active a id one le x e =
    subst (λ (p : ℕ). Row w p (places_row x.objects)) (let q : at.thread_word at.wait_places id ≡ at.thread_at id + at.wait_places = omega (arith, thread-place id (omega (arith, threads-few w s holder active a))) in q)
    (waits-for w s holder active a id one le x e).places

-- the places stand in the thread's record, which taking leaves as it is
pub sim-taken-own : (holder : ℕ → ℕ) (active id : ℕ) (x : Wait) (ns : List Named) (i : ℕ) → drop i x.objects ≡ ns
    → (w : List ℕ) (s : State) → Agreeing w s holder active → 1 ≤ id → id ≤ length s.dispatcher.threads → status_of s.dispatcher id ≡ waiting x
    → Agreeing (taken_own (length ns) w id (places_at id) i) (with_table s (take_every id s.dispatcher.objects ns)) holder active
unfolding taken_own
sim-taken-own holder active id x [] i q w s a one le e = a
sim-taken-own holder active id x (n ∷ ns) i q w s a one le e =
    let r = subst (λ (l : List Named). From w (places_at id) i l) q (from_at w (places_at id) x.objects i (places_row_lem w s holder active a id one le x e)) in
    subst (λ (k : ℕ). Agreeing (taken_own (length ns) (taken w id k (key_in w (places_at id) i)) id (places_at id) (i + 1)) after holder active) (sym (kind-at w (places_at id) i n ns r))
    (subst (λ (k : ℕ). Agreeing (taken_own (length ns) (taken w id n.kind k) id (places_at id) (i + 1)) after holder active) (sym (key-at w (places_at id) i n ns r))
    (sim-taken-own holder active id x ns (i + 1) (drop-next x.objects i n ns q) (taken w id n.kind n.key) (with_table s (take id s.dispatcher.objects n)) (sim-taken w s holder active a id n) one le e))
  where
    after : State
    after = with_table s (take_every id s.dispatcher.objects (n ∷ ns))

-- ---- what a wait takes that can be granted

module _ (w : List ℕ) (s : State) (holder : ℕ → ℕ) (active : ℕ) (a : Agreeing w s holder active) where
  -- of any, the first available
  sim-takes-first : (id : ℕ) (src : List ℕ) (from : ℕ) (ns : List Named) → Row src from (places_row ns) → is_met s.dispatcher ns false ≡ true
      → Agreeing (taken w id (kind_in src from (first_in (length ns) w src from 0)) (key_in src from (first_in (length ns) w src from 0)))
      (with_table s (take id s.dispatcher.objects (get_or ns (first_available s.dispatcher ns) no_object))) holder active
  sim-takes-first id src from ns r met =
      let f = first_available s.dispatcher ns in
      let p = pair_read src from ns f r (ltb-true f (length ns) (first_any w s holder active a src from ns ∙ met)) in
      let n : Named = get_or ns f no_object in
      subst (λ (k : ℕ). Agreeing (taken w id (kind_in src from k) (key_in src from k)) (with_table s (take id s.dispatcher.objects n)) holder active)
      (sym (first-is w s holder active a src from ns r))
      (subst (λ (k : ℕ). Agreeing (taken w id k (key_in src from f)) (with_table s (take id s.dispatcher.objects n)) holder active) (sym p.0)
      (subst (λ (k : ℕ). Agreeing (taken w id n.kind k) (with_table s (take id s.dispatcher.objects n)) holder active) (sym p.1) (sim-taken w s holder active a id n)))

  pub sim-takes-list : (id : ℕ) (src : List ℕ) (ns : List Named) (all : Bool) → Row src 0 (places_row ns) → is_met s.dispatcher ns all ≡ true
      → Agreeing (takes_list w id src (length ns) (flag all)) (with_table s (takes s.dispatcher id ns all)) holder active
  unfolding takes_list
  sim-takes-list id src ns true r met = sim-taken-list holder active id src ns 0 w s a (from_start src 0 ns r)
  sim-takes-list id src ns false r met = sim-takes-first id src 0 ns r met

  pub sim-takes-own : (id : ℕ) (x : Wait) → 1 ≤ id → id ≤ length s.dispatcher.threads → status_of s.dispatcher id ≡ waiting x
      → is_met s.dispatcher x.objects x.all ≡ true
      → Agreeing (takes_own w id (places_at id) (length x.objects) (flag x.all)) (with_table s (takes s.dispatcher id x.objects x.all)) holder active
  unfolding takes_own
  sim-takes-own id x one le e met = go x.all met
    where
      go : (all : Bool) → is_met s.dispatcher x.objects all ≡ true
          → Agreeing (takes_own w id (places_at id) (length x.objects) (flag all)) (with_table s (takes s.dispatcher id x.objects all)) holder active
      go true m = sim-taken-own holder active id x x.objects 0 refl w s a one le e
      go false m = sim-takes-first id w (places_at id) x.objects (places_row_lem w s holder active a id one le x e) m
