-- The record of a timer that expires: signaled, and due again or no longer inserted, so that its DPC names it no longer.
use Prim.Native.Nat.{ℕ, ◌+◌, ◌*◌, ◌^◌, ◌≤◌}
use mathlib.Core.List.{List, [], ◌∷◌}
use mathlib.Core.Bool.{Bool, true, false, cond}
use mathlib.Core.Option.{some}
use mathlib.Core.Path.{◌≡◌, refl, sym, ap, ◌∙◌, subst}
use native.Mathlib.Omega.{arith}
use borrow.Author.Tests.{eqb-true, eqb-false, lt-ltb}
use lib.ListN.{get_or, set, length, length-set}
use lib.Dec.{eqb, ltb}
use Rattle.words.specs.Layout as at
use Rattle.dpcs.specs.Record.{number_of, place_at}
use Rattle.expiry.specs.Next.{later_due}
use Rattle.expiry.specs.Expire.{unnamed, settled}
use Rattle.images.specs.declared.Timer.{Timer}
use Rattle.model.specs.Lists.{present}
use Rattle.model.specs.State.{State, Object, timer}
use Rattle.model.specs.Waits.{key_of, object_at, put_object}
use Rattle.model.specs.Dpcs.{dpc_at}
use Rattle.model.specs.Timers.{most, retimed, next_due, expired, horizon_refusal}
use Rattle.model.specs.Valid.{Each, Alone}
use Rattle.model.specs.Step.{with_table}
use Rattle.model.proofs.DpcLaws.{present-some}
use Rattle.agreement_tables.specs.Tables.{below}
use Rattle.agreement_tables.proofs.Lists.{find-in}
use Rattle.agreement.specs.Row.{Row}
use Rattle.agreement.specs.Records.{timer_row, holder_of}
use Rattle.agreement.specs.Agree.{objects_from, Agreeing}
use Rattle.agreement.proofs.Rows.{store, row-set}
use Rattle.agreement.proofs.Objects.{sim-put-object}
use Rattle.agreement.proofs.Dpcs.{sim-holder}
use Rattle.agreement.proofs.Lookups.{object-row}
use Rattle.agreement_work.proofs.Counts.{place_found}
use Rattle.agreement_work.proofs.Puts.{holder-timer, holder-same}
use Rattle.agreement_work.proofs.Named.{parts-hold, other-holds}
use Rattle.agreement_work.proofs.Armed.{holder-gone}
use Rattle.agreement_work.proofs.Same.{agreeing-same}
use Rattle.agreement_advance.proofs.Check.{next-due-is}
use Rattle.agreement_advance.proofs.Passed.{next-passed}

-- the due of a timer that is due again
later-is : (due time period : ℕ) → next_due due period time ≤ most → later_due due time period ≡ next_due due period time
unfolding later_due
later-is due time period h =
    ap (λ (n : ℕ). cond (ltb n (2 ^ 64)) n due) (next-due-is due time period)
    ∙ ap (λ (b : Bool). cond b (next_due due period time) due) (lt-ltb (next_due due period time) (2 ^ 64) (omega (arith, h)))

module _ (w : List ℕ) (s : State) (active : ℕ) (a : Agreeing w s (holder_of s.dispatcher.objects) active) (t : Timer) (e : object_at s.dispatcher.objects t.address ≡ some (timer t)) (i : t.inserted ≡ true) where
  abbrev objects : List Object
  objects = s.dispatcher.objects

  abbrev place : ℕ
  place = objects_from s.limits + 32 * below key_of t.address s.dispatcher.objects

  long : place + 32 ≤ length w
  long = omega (arith, a.enough, a.shape.sizes.objects_fit, find-in key_of objects a.shape.rising t.address (timer t) e)

  signaled : Row (set w (place + at.signaled) 1) place (set (timer_row t) 3 (some 1))
  signaled = row-set w place (timer_row t) 3 1 (omega (arith, long)) (object-row w s (holder_of objects) active a t.address (timer t) e)

  fits : (due : ℕ) → due ≤ most → (t.arm_generation ≤ most) × (due ≤ most)
  fits due h = ((a.shape.bounded t.address (timer t) e).0, h)

  -- ---- due again

  again : (due : ℕ) → due ≤ most → Agreeing (set (set w (place + at.signaled) 1) (place + at.due) due) (with_table s (put_object (timer (retimed t true true due)) objects)) (holder_of (put_object (timer (retimed t true true due)) objects)) active
  again due h =
      agreeing-same (set (set w (place + at.signaled) 1) (place + at.due) due) (with_table s (put_object (timer (retimed t true true due)) objects)) (holder_of objects) active
      (sim-put-object w s (holder_of objects) active a (timer t) (timer (retimed t true true due)) (store at.signaled 1 ∷ store at.due due ∷ []) e (fits due h) (omega arith, (omega arith, tt))
      (ap (λ (b : Bool). timer_row (retimed t true b due)) i))
      (holder_of (put_object (timer (retimed t true true due)) objects)) (λ b n. holder-same objects a.shape.rising (retimed t true true due) t e (sym i) refl b)

  -- ---- no longer inserted

  abbrev once : Timer
  once = retimed t true false t.due

  abbrev out : List ℕ
  out = set (set w (place + at.signaled) 1) (place + at.inserted) 0

  abbrev after : State
  after = with_table s (put_object (timer (retimed t true false t.due)) s.dispatcher.objects)

  taken : Agreeing out after (holder_of objects) active
  taken = sim-put-object w s (holder_of objects) active a (timer t) (timer once) (store at.signaled 1 ∷ store at.inserted 0 ∷ []) e (fits t.due (a.shape.bounded t.address (timer t) e).1) (omega arith, (omega arith, tt)) refl

  -- the DPC, where the words look for it
  dpc-read : get_or out (place + at.timer_dpc) 0 ≡ t.dpc
  dpc-read = row-set (set w (place + at.signaled) 1) place (set (timer_row t) 3 (some 1)) 5 0 (omega (arith, long, length-set w (place + at.signaled) 1)) signaled 8 t.dpc refl

  -- another address is held as before
  elsewhere : (b : ℕ) → (b ≡ t.dpc → ⊥) → holder_of (put_object (timer once) objects) b ≡ holder_of objects b
  elsewhere b n = holder-timer objects a.shape.rising once t e b (sym (other-holds b t n))

  module _ (known : (t.dpc ≡ 0 → ⊥) → present (dpc_at s.dpcs.table t.dpc) ≡ true) (alone : Each key_of s.dispatcher.objects (λ x. Each key_of s.dispatcher.objects (λ y. Alone x y))) where
    let_go : Agreeing (unnamed out place) after (holder_of (put_object (timer once) objects)) active
    unfolding unnamed
    let_go =
        subst (λ (n : ℕ). Agreeing (cond (eqb n 0) out (set out (place_at out (number_of out n) + at.named_by) 0)) after (holder_of (put_object (timer once) objects)) active) (sym dpc-read)
        (go (eqb t.dpc 0) refl)
      where
        go : (b : Bool) → eqb t.dpc 0 ≡ b → Agreeing (cond b out (set out (place_at out (number_of out t.dpc) + at.named_by) 0)) after (holder_of (put_object (timer once) objects)) active
        go true z = agreeing-same out after (holder_of objects) active taken (holder_of (put_object (timer once) objects)) (λ b n. elsewhere b (λ q. n (q ∙ eqb-true t.dpc 0 z)))
        go false z =
            let has = eqb-false t.dpc 0 z in
            let x = present-some s.dpcs.table t.dpc (known has) in
            subst (λ (p : ℕ). Agreeing (set out (p + at.signaled) 0) after (holder_of (put_object (timer once) objects)) active) (sym (place_found out after (holder_of objects) active taken t.dpc x.0 x.1))
            (sim-holder out after (holder_of objects) active taken t.dpc x.0 x.1 0 (holder_of (put_object (timer once) objects))
            (holder-gone objects a.shape.rising alone t.dpc has once t e (parts-hold t i) refl) elsewhere)

    -- ---- either

    pub sim-settled : (time : ℕ) → horizon_refusal time t ≡ 0
        → Agreeing (settled (set w (objects_from s.limits + 32 * below key_of t.address s.dispatcher.objects + at.signaled) 1) (objects_from s.limits + 32 * below key_of t.address s.dispatcher.objects) time)
        (with_table s (put_object (timer (expired time t)) s.dispatcher.objects)) (holder_of (put_object (timer (expired time t)) s.dispatcher.objects)) active
    unfolding settled expired
    sim-settled time r =
        subst (λ (n : ℕ). Agreeing (cond (eqb n 0) (unnamed out place) (set (set w (place + at.signaled) 1) (place + at.due) (later_due (get_or (set w (place + at.signaled) 1) (place + at.due) 0) time n)))
        (with_table s (put_object (timer (expired time t)) objects)) (holder_of (put_object (timer (expired time t)) objects)) active) (sym (signaled 7 t.period_ms refl))
        (subst (λ (n : ℕ). Agreeing (cond (eqb t.period_ms 0) (unnamed out place) (set (set w (place + at.signaled) 1) (place + at.due) (later_due n time t.period_ms)))
        (with_table s (put_object (timer (expired time t)) objects)) (holder_of (put_object (timer (expired time t)) objects)) active) (sym (signaled 6 t.due refl))
        (go (eqb t.period_ms 0) refl))
      where
        becomes : Bool → Timer
        becomes b = cond (cond b false true) (retimed t true true (next_due t.due t.period_ms time)) (retimed t true false t.due)

        go : (b : Bool) → eqb t.period_ms 0 ≡ b → Agreeing (cond b (unnamed out place) (set (set w (place + at.signaled) 1) (place + at.due) (later_due t.due time t.period_ms)))
            (with_table s (put_object (timer (becomes b)) objects)) (holder_of (put_object (timer (becomes b)) objects)) active
        go true z = let_go
        go false z =
            let h = next-passed time s.dpcs t r z in
            let n = next_due t.due t.period_ms time in
            subst (λ (m : ℕ). Agreeing (set (set w (place + at.signaled) 1) (place + at.due) m) (with_table s (put_object (timer (retimed t true true n)) objects)) (holder_of (put_object (timer (retimed t true true n)) objects)) active)
            (sym (later-is t.due time t.period_ms h)) (again n h)
