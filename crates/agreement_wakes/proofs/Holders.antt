-- Which timer has a DPC is the same after a wait has taken its objects and after a wake pass, so that the words agree as before.
use Prim.Native.Nat.{ℕ, ◌+◌, ◌*◌}
use mathlib.Core.List.{List, [], ◌∷◌}
use mathlib.Core.Bool.{Bool, true, false, cond}
use mathlib.Core.Option.{Option, none, some}
use mathlib.Core.Path.{◌≡◌, refl, sym, ap, ◌∙◌, subst}
use lib.ListN.{get_or}
use Rattle.model.specs.Lists.{given}
use Rattle.model.specs.Table.{Rising}
use Rattle.model.specs.State.{State, Dispatcher, satisfied, Named, Object, mutex, event, timer}
use Rattle.model.specs.Threads.{status_of, wait_of, with_objects, becomes, woken}
use Rattle.model.specs.Waits.{key_of, object_at, named_in, put_object, taken_by, take, take_every, takes, first_available, no_object, index, can_wake, wake_one, pass, wake}
use Rattle.model.proofs.TableLaws.{found, rising-put}
use Rattle.model.proofs.ObjectLaws.{taken-key, of-kind}
use Rattle.agreement.specs.Row.{Row}
use Rattle.agreement.specs.Records.{active_address, dpc_row, holder_of}
use Rattle.agreement.specs.Agree.{dpcs_from, Agreeing, Agree}
use Rattle.agreement_wakes.proofs.Puts.{held_by, holder-put}

-- ---- the same timer by address

pub agree-holder : (w : List ℕ) (s : State) (holder holder' : ℕ → ℕ) (active : ℕ) → ((b : ℕ) → holder b ≡ holder' b) → Agreeing w s holder active → Agreeing w s holder' active
agree-holder w s holder holder' active e a = record {
  enough = a.enough;
  numbers = a.numbers;
  threads = a.threads;
  waits = a.waits;
  queues = a.queues;
  waiters = a.waiters;
  objects = a.objects;
  dpcs = λ i d q. subst (λ (h : ℕ). Row w (dpcs_from s.limits + 32 * i) (dpc_row h d)) (e d.address) (a.dpcs i d q);
  work = a.work;
  shape = a.shape;
}

-- ---- taking

-- rising still, and each DPC has the timer that it had
pub record Held (l l' : List Object) : Type 0 where
  pub rising : Rising key_of l'
  pub same : (a : ℕ) → holder_of l' a ≡ holder_of l a

taken-held : (a id : ℕ) (o : Object) (k : ℕ) → held_by a (taken_by id o) k ≡ held_by a o k
taken-held a id (mutex m) k = refl
taken-held a id (event e) k = refl
taken-held a id (timer t) k = refl

pub held-take : (id : ℕ) (l : List Object) → Rising key_of l → (n : Named) → Held l (take id l n)
held-take id l r n = go (named_in l n) refl
  where
    go : (o : Option Object) → named_in l n ≡ o → Held l (given o l (λ o. put_object (taken_by id o) l))
    go none e = record { rising = r; same = λ a. refl }
    go (some o) e =
        let f : object_at l n.key ≡ some o = of-kind n.kind (object_at l n.key) o e in
        let g : object_at l (key_of (taken_by id o)) ≡ some o = ap (object_at l) (taken-key id o ∙ (found key_of l n.key o f).1) ∙ f in
        record { rising = rising-put key_of (taken_by id o) l r; same = λ a. holder-put a (taken_by id o) o (taken-held a id o) l r g }

pub held-every : (id : ℕ) (l : List Object) → Rising key_of l → (ns : List Named) → Held l (take_every id l ns)
held-every id l r [] = record { rising = r; same = λ a. refl }
held-every id l r (n ∷ ns) =
    let h = held-take id l r n in
    let k = held-every id (take id l n) h.rising ns in
    record { rising = k.rising; same = λ a. k.same a ∙ h.same a }

pub held-takes : (d : Dispatcher) (id : ℕ) (ns : List Named) (all : Bool) → Rising key_of d.objects → Held d.objects (takes d id ns all)
held-takes d id ns true r = held-every id d.objects r ns
held-takes d id ns false r = held-take id d.objects r (get_or ns (first_available d ns) no_object)

-- ---- the wake pass

held_one : (d : Dispatcher) (id : ℕ) → Rising key_of d.objects → Held d.objects (wake_one d id).objects
unfolding wake_one woken becomes
held_one d id r = go (can_wake d (wait_of (status_of d id)))
  where
    go : (b : Bool) → let w = wait_of (status_of d id) in
        Held d.objects (cond b (woken (with_objects d (takes d id w.objects w.all)) id (satisfied (index d w.objects w.all))) d).objects
    go true = held-takes d id (wait_of (status_of d id)).objects (wait_of (status_of d id)).all r
    go false = record { rising = r; same = λ a. refl }

held-pass : (xs : List ℕ) (d : Dispatcher) → Rising key_of d.objects → Held d.objects (pass d xs).objects
held-pass [] d r = record { rising = r; same = λ a. refl }
held-pass (x ∷ xs) d r =
    let h = held_one d x r in
    let k = held-pass xs (wake_one d x) h.rising in
    record { rising = k.rising; same = λ a. k.same a ∙ h.same a }

pub held-wake : (d : Dispatcher) → Rising key_of d.objects → Held d.objects (wake d).objects
unfolding wake
held-wake d r = held-pass d.waiters d r

-- ---- agreement restored, where the DPCs are as they were

pub agree-held : (w : List ℕ) (s s' : State) → Agreeing w s' (holder_of s.dispatcher.objects) (active_address s'.dpcs.table)
    → Held s.dispatcher.objects s'.dispatcher.objects → Agree w s'
agree-held w s s' a h = agree-holder w s' (holder_of s.dispatcher.objects) (holder_of s'.dispatcher.objects) (active_address s'.dpcs.table) (λ b. sym (h.same b)) a
