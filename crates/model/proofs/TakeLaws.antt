-- What taking does to one object of the table: it is as it was, or it was available, the wait's list names it, and it is taken.
use Prim.Native.Nat.{ℕ, zero, suc, ◌≤◌}
use mathlib.Core.List.{List, [], ◌∷◌}
use mathlib.Core.Bool.{Bool, true, false, cond}
use mathlib.Core.Option.{Option, none, some}
use mathlib.Core.Logic.{◌⊎◌, inl, inr, ⊎_elim}
use mathlib.Core.Path.{◌≡◌, refl, sym, ap, ◌∙◌, subst}
use native.Mathlib.Omega.{arith}
use native.Mathlib.Decide.{ℕ_discrete}
use borrow.Author.Tests.{eqb-true}
use lib.Dec.{eqb}
use lib.ListN.{get_or}
use Rattle.model.specs.Lists.{Mem, nth, any, given}
use Rattle.model.specs.State.{Dispatcher, Named, Object, mutex, event, timer}
use Rattle.model.specs.Waits.{key_of, kind_of, object_at, of_kind, named_in, is_free, is_available, put_object, signaled_as, with_signal, taken_by, take, take_every, takes, every_available, first_available, is_met, index, no_object}
use Rattle.model.proofs.ListLaws.{not-both, mem-nth}
use Rattle.model.proofs.TableLaws.{some_same, none-some, found, find-put-own, find-put-other}
use Rattle.model.proofs.ObjectLaws.{taken-key, of-kind}

-- an object of the table as a wait's list names it
abbrev pub name_of : Object → Named
name_of o = record { kind = kind_of o; key = key_of o }

-- ---- an object taken

pub taken-kind : (id : ℕ) (o : Object) → kind_of (taken_by id o) ≡ kind_of o
taken-kind id (mutex m) = refl
taken-kind id (event e) = refl
taken-kind id (timer t) = refl

pub taken-name : (id : ℕ) (o : Object) → name_of (taken_by id o) ≡ name_of o
taken-name id (mutex m) = refl
taken-name id (event e) = refl
taken-name id (timer t) = refl

cleared-twice : (a b : Bool) → cond a (cond a b false) false ≡ cond a b false
cleared-twice true b = refl
cleared-twice false b = refl

-- taking twice is taking once
taken_twice : (id : ℕ) (o : Object) → taken_by id (taken_by id o) ≡ taken_by id o
taken_twice id (mutex m) = refl
taken_twice id (event e) = ap (λ (b : Bool). signaled_as b e) (cleared-twice e.manual e.signaled)
taken_twice id (timer t) = ap (λ (b : Bool). timer (with_signal t b)) (cleared-twice t.manual_reset t.signaled)

-- what is available after it was taken is so for all: taking it changes it no more
pub free-fixed : (id : ℕ) → 1 ≤ id → (j : ℕ) (o : Object) → is_free (taken_by id o) ≡ true → taken_by j (taken_by id o) ≡ taken_by id o
free-fixed id h j (mutex m) e = absurd (omega (arith, eqb-true id 0 e))
free-fixed id h j (event e) q = taken_twice id (event e)
free-fixed id h j (timer t) q = taken_twice id (timer t)

-- ---- an object by its name

kind-of : (k : ℕ) (a : Option Object) (o : Object) → of_kind k a ≡ some o → k ≡ kind_of o
kind-of k none o e = absurd (none-some o e)
kind-of k (some x) o e = go (eqb (kind_of x) k) refl e
  where
    go : (b : Bool) → eqb (kind_of x) k ≡ b → cond b (some x) none ≡ some o → k ≡ kind_of o
    go true q z = sym (eqb-true (kind_of x) k q) ∙ ap kind_of (some_same x o z)
    go false q z = absurd (none-some o z)

-- what the list means is the object with that name
pub named-is : (l : List Object) (n : Named) (o : Object) → named_in l n ≡ some o → (object_at l n.key ≡ some o) × (n ≡ name_of o)
named-is l n o e =
    let f = of-kind n.kind (object_at l n.key) o e in
    (f, ap (λ (i : ℕ). record { kind = i; key = n.key }) (kind-of n.kind (object_at l n.key) o e) ∙ ap (λ (i : ℕ). record { kind = kind_of o; key = i }) (sym (found key_of l n.key o f).1))

pub name-is : (l : List Object) (o : Object) → object_at l (key_of o) ≡ some o → named_in l (name_of o) ≡ some o
name-is l (mutex m) f = ap (of_kind 0) f
name-is l (event e) f = ap (of_kind 1) f
name-is l (timer t) f = ap (of_kind 2) f

pub available-is : (d : Dispatcher) (o : Object) → object_at d.objects (key_of o) ≡ some o → is_available d (name_of o) ≡ is_free o
available-is d (mutex m) f = ap (λ (x : Option Object). given (of_kind 0 x) false is_free) f
available-is d (event e) f = ap (λ (x : Option Object). given (of_kind 1 x) false is_free) f
available-is d (timer t) f = ap (λ (x : Option Object). given (of_kind 2 x) false is_free) f

-- ---- one taken, and every one of a list

module _ (id : ℕ) where
  pub take-either : (l : List Object) (n : Named) (k : ℕ) (o : Object) → object_at l k ≡ some o
      → (object_at (take id l n) k ≡ some o) ⊎ ((object_at (take id l n) k ≡ some (taken_by id o)) × (n ≡ name_of o))
  take-either l n k o f = go (named_in l n) refl
    where
      go : (a : Option Object) → named_in l n ≡ a
          → (object_at (given a l (λ x. put_object (taken_by id x) l)) k ≡ some o) ⊎ ((object_at (given a l (λ x. put_object (taken_by id x) l)) k ≡ some (taken_by id o)) × (n ≡ name_of o))
      go none e = inl f
      go (some x) e = by (ℕ_discrete k (key_of (taken_by id x)))
        where
          g : (object_at l n.key ≡ some x) × (n ≡ name_of x)
          g = named-is l n x e

          own : k ≡ key_of (taken_by id x) → x ≡ o
          own q = some_same x o (sym g.0 ∙ ap (object_at l) (sym (q ∙ taken-key id x ∙ (found key_of l n.key x g.0).1)) ∙ f)

          by : Dec (k ≡ key_of (taken_by id x)) → (object_at (put_object (taken_by id x) l) k ≡ some o) ⊎ ((object_at (put_object (taken_by id x) l) k ≡ some (taken_by id o)) × (n ≡ name_of o))
          by (yes q) = inr (
            ap (object_at (put_object (taken_by id x) l)) q ∙ find-put-own key_of (taken_by id x) l ∙ ap (λ (y : Object). some (taken_by id y)) (own q),
            g.1 ∙ ap name_of (own q),
          )
          by (no q) = inl (find-put-other key_of (taken_by id x) l k q ∙ f)

  -- the object that is named is taken
  pub take_own : (l : List Object) (o : Object) → object_at l (key_of o) ≡ some o → object_at (take id l (name_of o)) (key_of o) ≡ some (taken_by id o)
  take_own l o f =
      ap (λ (a : Option Object). object_at (given a l (λ x. put_object (taken_by id x) l)) (key_of o)) (name-is l o f)
      ∙ ap (object_at (put_object (taken_by id o) l)) (sym (taken-key id o)) ∙ find-put-own key_of (taken_by id o) l

  -- where there is none there is none after
  take_none : (l : List Object) (n : Named) (k : ℕ) → object_at l k ≡ none → object_at (take id l n) k ≡ none
  take_none l n k f = go (named_in l n) refl
    where
      go : (a : Option Object) → named_in l n ≡ a → object_at (given a l (λ x. put_object (taken_by id x) l)) k ≡ none
      go none e = f
      go (some x) e =
          let g = (named-is l n x e).0 in
          find-put-other key_of (taken_by id x) l k (λ q. none-some x (sym f ∙ ap (object_at l) (q ∙ taken-key id x ∙ (found key_of l n.key x g).1) ∙ g)) ∙ f

  every-none : (l : List Object) (ns : List Named) (k : ℕ) → object_at l k ≡ none → object_at (take_every id l ns) k ≡ none
  every-none l [] k f = f
  every-none l (n ∷ ns) k f = every-none (take id l n) ns k (take_none l n k f)

  pub takes_none : (d : Dispatcher) (ns : List Named) (all : Bool) (k : ℕ) → object_at d.objects k ≡ none → object_at (takes d id ns all) k ≡ none
  takes_none d ns true k f = every-none d.objects ns k f
  takes_none d ns false k f = take_none d.objects (get_or ns (first_available d ns) no_object) k f

  pub every-either : (l : List Object) (ns : List Named) (k : ℕ) (o : Object) → object_at l k ≡ some o
      → (object_at (take_every id l ns) k ≡ some o) ⊎ ((object_at (take_every id l ns) k ≡ some (taken_by id o)) × Mem (name_of o) ns)
  every-either l [] k o f = inl f
  every-either l (n ∷ ns) k o f = go (take-either l n k o f) (λ x g. every-either (take id l n) ns k x g)
    where
      go : (object_at (take id l n) k ≡ some o) ⊎ ((object_at (take id l n) k ≡ some (taken_by id o)) × (n ≡ name_of o))
          → ((x : Object) → object_at (take id l n) k ≡ some x
          → (object_at (take_every id (take id l n) ns) k ≡ some x) ⊎ ((object_at (take_every id (take id l n) ns) k ≡ some (taken_by id x)) × Mem (name_of x) ns))
          → (object_at (take_every id (take id l n) ns) k ≡ some o) ⊎ ((object_at (take_every id (take id l n) ns) k ≡ some (taken_by id o)) × Mem (name_of o) (n ∷ ns))
      go (inl g) rest = ⊎_elim
          (λ (z : object_at (take_every id (take id l n) ns) k ≡ some o). inl z)
          (λ (z : (object_at (take_every id (take id l n) ns) k ≡ some (taken_by id o)) × Mem (name_of o) ns). inr (z.0, inr z.1))
          (rest o g)
      go (inr g) rest = ⊎_elim
          (λ (z : object_at (take_every id (take id l n) ns) k ≡ some (taken_by id o)). inr (z, inl (sym g.1)))
          (λ (z : (object_at (take_every id (take id l n) ns) k ≡ some (taken_by id (taken_by id o))) × Mem (name_of (taken_by id o)) ns). inr (z.0 ∙ ap {B = Option Object} some (taken_twice id o), inl (sym g.1)))
          (rest (taken_by id o) g.0)

  pub every-own : (l : List Object) (ns : List Named) (o : Object) → object_at l (key_of o) ≡ some o → Mem (name_of o) ns → object_at (take_every id l ns) (key_of o) ≡ some (taken_by id o)
  every-own l [] o f m = absurd m
  every-own l (n ∷ ns) o f m = go m (take-either l n (key_of o) o f) (every-own (take id l n) ns o)
    where
      -- once taken it stays so
      stays : object_at (take id l n) (key_of o) ≡ some (taken_by id o) → object_at (take_every id (take id l n) ns) (key_of o) ≡ some (taken_by id o)
      stays g = ⊎_elim
          (λ (z : object_at (take_every id (take id l n) ns) (key_of o) ≡ some (taken_by id o)). z)
          (λ (z : (object_at (take_every id (take id l n) ns) (key_of o) ≡ some (taken_by id (taken_by id o))) × Mem (name_of (taken_by id o)) ns). z.0 ∙ ap {B = Option Object} some (taken_twice id o))
          (every-either (take id l n) ns (key_of o) (taken_by id o) g)

      go : (name_of o ≡ n) ⊎ Mem (name_of o) ns → (object_at (take id l n) (key_of o) ≡ some o) ⊎ ((object_at (take id l n) (key_of o) ≡ some (taken_by id o)) × (n ≡ name_of o))
          → (object_at (take id l n) (key_of o) ≡ some o → Mem (name_of o) ns → object_at (take_every id (take id l n) ns) (key_of o) ≡ some (taken_by id o))
          → object_at (take_every id (take id l n) ns) (key_of o) ≡ some (taken_by id o)
      go (inl q) c rest = stays (subst (λ (x : Named). object_at (take id l x) (key_of o) ≡ some (taken_by id o)) q (take_own l o f))
      go (inr m') (inl g) rest = rest g m'
      go (inr m') (inr g) rest = stays g.0

-- ---- what a granted wait takes

-- the first that is available, by its place
pub first-is : (d : Dispatcher) (ns : List Named) → any (is_available d) ns ≡ true
    → (nth ns (first_available d ns) ≡ some (get_or ns (first_available d ns) no_object)) × (is_available d (get_or ns (first_available d ns) no_object) ≡ true)
first-is d [] a = absurd (not-both (sym a))
first-is d (n ∷ ns) a = go (is_available d n) refl a (first-is d ns)
  where
    go : (b : Bool) → is_available d n ≡ b → cond b true (any (is_available d) ns) ≡ true
        → (any (is_available d) ns ≡ true → (nth ns (first_available d ns) ≡ some (get_or ns (first_available d ns) no_object)) × (is_available d (get_or ns (first_available d ns) no_object) ≡ true))
        → (nth (n ∷ ns) (cond b 0 (suc (first_available d ns))) ≡ some (get_or (n ∷ ns) (cond b 0 (suc (first_available d ns))) no_object))
        × (is_available d (get_or (n ∷ ns) (cond b 0 (suc (first_available d ns))) no_object) ≡ true)
    go true q z ih = (refl, q)
    go false q z ih = ih z

-- it stands no later than any that is available
pub first-least : (d : Dispatcher) (ns : List Named) (k : ℕ) (n : Named) → nth ns k ≡ some n → is_available d n ≡ true → (any (is_available d) ns ≡ true) × (first_available d ns ≤ k)
first-least d [] k n e a = absurd (none-some n e)
first-least d (m ∷ ns) zero n e a =
    let q : is_available d m ≡ true = ap (is_available d) (some_same m n e) ∙ a in
    (ap (λ (b : Bool). cond b true (any (is_available d) ns)) q, subst (λ (b : Bool). cond b 0 (suc (first_available d ns)) ≤ 0) (sym q) (omega arith))
first-least d (m ∷ ns) (suc k) n e a = go (is_available d m) (first-least d ns k n e a)
  where
    go : (b : Bool) → (any (is_available d) ns ≡ true) × (first_available d ns ≤ k) → (cond b true (any (is_available d) ns) ≡ true) × (cond b 0 (suc (first_available d ns)) ≤ suc k)
    go true h = (refl, omega arith)
    go false h = (h.0, omega (arith, h.1))

pub every-at : (d : Dispatcher) (ns : List Named) → every_available d ns ≡ true → (n : Named) → Mem n ns → is_available d n ≡ true
every-at d [] a n m = absurd m
every-at d (x ∷ ns) a n m = go (is_available d x) refl a m (λ z. every-at d ns z n)
  where
    go : (b : Bool) → is_available d x ≡ b → cond b (every_available d ns) false ≡ true → (n ≡ x) ⊎ Mem n ns → (every_available d ns ≡ true → Mem n ns → is_available d n ≡ true) → is_available d n ≡ true
    go true q z (inl e) ih = ap (is_available d) e ∙ q
    go true q z (inr m') ih = ih z m'
    go false q z m' ih = absurd (not-both (sym z))

pub at_every : (d : Dispatcher) (ns : List Named) → ((n : Named) → Mem n ns → is_available d n ≡ true) → every_available d ns ≡ true
at_every d [] h = refl
at_every d (x ∷ ns) h = ap (λ (b : Bool). cond b (every_available d ns) false) (h x (inl refl)) ∙ at_every d ns (λ n m. h n (inr m))

-- an object is as it was, or the granted wait has taken it: it was available, and "any" answers its place in the list, "all" answers 0
pub takes-either : (d : Dispatcher) (id : ℕ) (ns : List Named) (all : Bool) → is_met d ns all ≡ true → (k : ℕ) (o : Object) → object_at d.objects k ≡ some o
    → (object_at (takes d id ns all) k ≡ some o)
    ⊎ ((object_at (takes d id ns all) k ≡ some (taken_by id o)) × (is_free o ≡ true) × (p : ℕ) × (nth ns p ≡ some (name_of o)) × (index d ns all ≡ cond all 0 p))
takes-either d id ns all met k o f = go all met
  where
    here : object_at d.objects (key_of o) ≡ some o
    here = ap (object_at d.objects) (found key_of d.objects k o f).1 ∙ f

    free : is_available d (name_of o) ≡ true → is_free o ≡ true
    free q = sym (available-is d o here) ∙ q

    go : (b : Bool) → is_met d ns b ≡ true
        → (object_at (takes d id ns b) k ≡ some o)
        ⊎ ((object_at (takes d id ns b) k ≡ some (taken_by id o)) × (is_free o ≡ true) × (p : ℕ) × (nth ns p ≡ some (name_of o)) × (index d ns b ≡ cond b 0 p))
    go true h = ⊎_elim
        (λ (z : object_at (take_every id d.objects ns) k ≡ some o). inl z)
        (λ (z : (object_at (take_every id d.objects ns) k ≡ some (taken_by id o)) × Mem (name_of o) ns).
        let p = mem-nth ns (name_of o) z.1 in inr (z.0, free (every-at d ns h (name_of o) z.1), p.0, p.1, refl))
        (every-either id d.objects ns k o f)
    go false h =
        let r = first-is d ns h in
        let n = get_or ns (first_available d ns) no_object in
        ⊎_elim
        (λ (z : object_at (take id d.objects n) k ≡ some o). inl z)
        (λ (z : (object_at (take id d.objects n) k ≡ some (taken_by id o)) × (n ≡ name_of o)).
        inr (z.0, free (ap (is_available d) (sym z.1) ∙ r.1), first_available d ns, r.0 ∙ ap {B = Option Named} some z.1, refl))
        (take-either id d.objects n k o f)
