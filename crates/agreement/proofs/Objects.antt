-- An object of the log changed and its words stored: an owner, a signal. A DPC changed: its words, whom it names.
use Prim.Native.Nat.{ℕ, suc, ◌+◌, ◌*◌}
use mathlib.Core.List.{List, [], ◌∷◌}
use mathlib.Core.Bool.{Bool, true}
use mathlib.Core.Option.{Option, some}
use mathlib.Core.Logic.{inl, inr, ⊎_elim}
use mathlib.Core.Path.{◌≡◌, refl, sym, ap, ◌∙◌, subst}
use native.Mathlib.Omega.{arith}
use lib.ListN.{set}
use Rattle.words.specs.Layout as at
use Rattle.images.specs.declared.Timer.{Timer}
use Rattle.images.specs.declared.Dpc.{Dpc}
use Rattle.objects.specs.Objects.{place_of}
use Rattle.model.specs.Lists.{Mem, present}
use Rattle.model.specs.State.{State, Mutex, Event, Object, mutex, event, timer}
use Rattle.model.specs.Waits.{key_of, object_at, put_object, owned_by, signaled_as, with_signal}
use Rattle.model.specs.Dpcs.{address_of, dpc_at, put_dpc}
use Rattle.model.specs.Step.{with_table, with_dpcs}
use Rattle.model.proofs.TableLaws.{rising-put, each-put, length-put-known, mem-put, found, find-put-own, find-put-other}
use Rattle.model.proofs.DpcLaws.{present-some}
use Rattle.agreement_tables.specs.Tables.{below}
use Rattle.agreement_tables.proofs.Lists.{find_at, find-in, put-known}
use Rattle.agreement_tables.proofs.Numbers.{below-put-known}
use Rattle.agreement.specs.Row.{Row}
use Rattle.agreement.specs.Records.{flag, object_row, dpc_row, numbers_in}
use Rattle.agreement.specs.Shape.{ObjectFits}
use Rattle.agreement.specs.Agree.{objects_from, dpcs_from, Agreeing}
use Rattle.agreement.proofs.Rows.{Store, store, written, rewritten, In, row_written}
use Rattle.agreement.proofs.Places.{Any, Unlinked}
use Rattle.agreement.proofs.Tables.{sim-object, sim-dpc}
use Rattle.agreement.proofs.Lookups.{object-place, object-row, dpc-row}

module _ (w : List ℕ) (s : State) (holder : ℕ → ℕ) (active : ℕ) (a : Agreeing w s holder active) where
  -- ---- objects

  -- the object with a key gets another record, which the stores make of its row
  pub sim-put-object : (x x' : Object) (xs : List Store) → object_at s.dispatcher.objects (key_of x') ≡ some x → ObjectFits x' → In Any xs
      → rewritten (object_row x) xs ≡ object_row x'
      → Agreeing (written w (objects_from s.limits + 32 * below key_of (key_of x') s.dispatcher.objects) xs) (with_table s (put_object x' s.dispatcher.objects)) holder active
  sim-put-object x x' xs e f inside same =
      let l = s.dispatcher.objects in
      let r = put-known key_of x' l a.shape.rising x e in
      let i = find-in key_of l a.shape.rising (key_of x') x e in
      sim-object w s holder active a (below key_of (key_of x') l) x' (put_object x' l) xs i r.own r.others (length-put-known key_of x' l a.shape.rising x e)
      (rising-put key_of x' l a.shape.rising) (each-put key_of ObjectFits x' l f a.shape.bounded) inside
      (subst (Row (written w (objects_from s.limits + 32 * below key_of (key_of x') l) xs) (objects_from s.limits + 32 * below key_of (key_of x') l)) same
      (row_written Any w (objects_from s.limits + 32 * below key_of (key_of x') l) (object_row x) xs inside (λ k d. omega (arith, a.enough, a.shape.sizes.objects_fit))
      (object-row w s holder active a (key_of x') x e)))

  -- a mutex gets an owner
  pub sim-owner : (m : Mutex) (id : ℕ) → object_at s.dispatcher.objects m.key ≡ some (mutex m)
      → Agreeing (set w (place_of w 0 m.key + at.owner) id) (with_table s (put_object (owned_by id m) s.dispatcher.objects)) holder active
  sim-owner m id e =
      subst (λ (p : ℕ). Agreeing (set w (p + at.owner) id) (with_table s (put_object (owned_by id m) s.dispatcher.objects)) holder active) (sym (object-place w s holder active a m.key (mutex m) e))
      (sim-put-object (mutex m) (owned_by id m) (store at.owner id ∷ []) e tt (omega arith, tt) refl)

  -- an event is signaled or not
  pub sim-signal : (v : Event) (b : Bool) → object_at s.dispatcher.objects v.key ≡ some (event v)
      → Agreeing (set w (place_of w 1 v.key + at.signaled) (flag b)) (with_table s (put_object (signaled_as b v) s.dispatcher.objects)) holder active
  sim-signal v b e =
      subst (λ (p : ℕ). Agreeing (set w (p + at.signaled) (flag b)) (with_table s (put_object (signaled_as b v) s.dispatcher.objects)) holder active) (sym (object-place w s holder active a v.key (event v) e))
      (sim-put-object (event v) (signaled_as b v) (store at.signaled (flag b) ∷ []) e tt (omega arith, tt) refl)

  -- and a timer
  pub sim-timer-signal : (t : Timer) (b : Bool) → object_at s.dispatcher.objects t.address ≡ some (timer t)
      → Agreeing (set w (place_of w 2 t.address + at.signaled) (flag b)) (with_table s (put_object (timer (with_signal t b)) s.dispatcher.objects)) holder active
  sim-timer-signal t b e =
      subst (λ (p : ℕ). Agreeing (set w (p + at.signaled) (flag b)) (with_table s (put_object (timer (with_signal t b)) s.dispatcher.objects)) holder active)
      (sym (object-place w s holder active a t.address (timer t) e))
      (sim-put-object (timer t) (timer (with_signal t b)) (store at.signaled (flag b) ∷ []) e (a.shape.bounded t.address (timer t) e) (omega arith, tt) refl)

  -- ---- DPCs

  -- the DPC at an address gets another record; the queue is the same, and whom the others name
  pub sim-put-dpc : (d d' : Dpc) (holder' : ℕ → ℕ) (xs : List Store) → dpc_at s.dpcs.table d'.address ≡ some d
      → ((b : ℕ) → (b ≡ d'.address → ⊥) → holder' b ≡ holder b) → In Unlinked xs
      → Row (written w (dpcs_from s.limits + 32 * below address_of d'.address s.dpcs.table) xs) (dpcs_from s.limits + 32 * below address_of d'.address s.dpcs.table) (dpc_row (holder' d'.address) d')
      → Agreeing (written w (dpcs_from s.limits + 32 * below address_of d'.address s.dpcs.table) xs)
      (with_dpcs s (record { table = put_dpc d' s.dpcs.table; queue = s.dpcs.queue; counters = s.dpcs.counters })) holder' active
  sim-put-dpc d d' holder' xs e held inside row =
      let l = s.dpcs.table in
      let f = a.shape.dpcs in
      let r = put-known address_of d' l f.rising d e in
      let here = find_at address_of l f.rising d'.address d e in
      sim-dpc w s holder active a (below address_of d'.address l) d' (put_dpc d' l) holder' xs (find-in address_of l f.rising d'.address d e) r.own r.others
      (length-put-known address_of d' l f.rising d e)
      (λ j x ne q. held x.address (λ z. ne (position j x q z))) (numbers s.dpcs.queue f.queued)
      (record {
        rising = rising-put address_of d' l f.rising;
        placed = λ x m. ⊎_elim (λ (q : x ≡ d'). λ z. f.placed d (found address_of l d'.address d e).0 ((found address_of l d'.address d e).1 ∙ ap (λ (y : Dpc). y.address) (sym q) ∙ z))
            (λ (q : Mem x l). f.placed x q) (mem-put address_of d' l x m);
        queued = λ b m. still b (f.queued b m);
        once = f.once;
      }) inside row
    where
      -- a record with the address stands at its position
      position : (j : ℕ) (x : Dpc) → Rattle.model.specs.Lists.nth s.dpcs.table j ≡ some x → x.address ≡ d'.address → j ≡ below address_of d'.address s.dpcs.table
      position j x q z = sym (Rattle.agreement_tables.proofs.Numbers.below-nth address_of s.dpcs.table a.shape.dpcs.rising j x q) ∙ ap (λ (k : ℕ). below address_of k s.dpcs.table) z

      still : (b : ℕ) → present (dpc_at s.dpcs.table b) ≡ true → present (dpc_at (put_dpc d' s.dpcs.table) b) ≡ true
      still b h = go (native.Mathlib.Decide.ℕ_discrete b d'.address)
        where
          go : Dec (b ≡ d'.address) → present (dpc_at (put_dpc d' s.dpcs.table) b) ≡ true
          go (yes q) = ap (λ (k : ℕ). present (dpc_at (put_dpc d' s.dpcs.table) k)) q ∙ ap (λ (o : Option Dpc). present o) (find-put-own address_of d' s.dpcs.table)
          go (no n) = ap (λ (o : Option Dpc). present o) (find-put-other address_of d' s.dpcs.table b n) ∙ h

      numbers : (q : List ℕ) → ((b : ℕ) → Mem b q → present (dpc_at s.dpcs.table b) ≡ true) → numbers_in (put_dpc d' s.dpcs.table) q ≡ numbers_in s.dpcs.table q
      numbers [] h = refl
      numbers (b ∷ q) h =
          let p = present-some s.dpcs.table b (h b (inl refl)) in
          ap (λ (k : ℕ). suc k ∷ numbers_in (put_dpc d' s.dpcs.table) q) (below-put-known address_of d' s.dpcs.table a.shape.dpcs.rising d e b p.0 p.1)
          ∙ ap (λ (l : List ℕ). suc (below address_of b s.dpcs.table) ∷ l) (numbers q (λ c m. h c (inr m)))

  -- the stores make the new row of the old one
  pub sim-rewrite-dpc : (d d' : Dpc) (holder' : ℕ → ℕ) (xs : List Store) → dpc_at s.dpcs.table d'.address ≡ some d
      → ((b : ℕ) → (b ≡ d'.address → ⊥) → holder' b ≡ holder b) → In Unlinked xs → rewritten (dpc_row (holder d.address) d) xs ≡ dpc_row (holder' d'.address) d'
      → Agreeing (written w (dpcs_from s.limits + 32 * below address_of d'.address s.dpcs.table) xs)
      (with_dpcs s (record { table = put_dpc d' s.dpcs.table; queue = s.dpcs.queue; counters = s.dpcs.counters })) holder' active
  sim-rewrite-dpc d d' holder' xs e held inside same =
      let i = find-in address_of s.dpcs.table a.shape.dpcs.rising d'.address d e in
      sim-put-dpc d d' holder' xs e held inside
      (subst (Row (written w (dpcs_from s.limits + 32 * below address_of d'.address s.dpcs.table) xs) (dpcs_from s.limits + 32 * below address_of d'.address s.dpcs.table)) same
      (row_written Unlinked w (dpcs_from s.limits + 32 * below address_of d'.address s.dpcs.table) (dpc_row (holder d.address) d) xs inside
      (λ k h. omega (arith, h.small, a.enough, a.shape.sizes.dpcs_fit)) (dpc-row w s holder active a d'.address d e)))
