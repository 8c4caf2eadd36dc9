-- `timer_read_overlap` and `timer_metadata_overlap`: the words answer what the log answers.
use Prim.Native.Nat.{ℕ, zero, suc, ◌+◌, ◌-◌, ◌*◌, ◌≤◌, min}
use mathlib.Core.List.{List}
use mathlib.Core.Bool.{Bool, true, false, cond, ◌||◌}
use mathlib.Core.Option.{Option, none, some}
use mathlib.Core.Path.{◌≡◌, refl, sym, ap, ◌∙◌, subst}
use native.Mathlib.Omega.{arith}
use lib.ListN.{get_or, length}
use lib.Dec.{eqb, ltb}
use borrow.Author.Tests.{eq-eqb, ne_eqb, ltb-true, ltb-false}
use Rattle.images.specs.declared.Timer.{Timer}
use Rattle.images.specs.declared.Dpc.{Dpc}
use Rattle.images.specs.Place.{overlaps, architecture_number, architecture_of, timer_size, dpc_size}
use Rattle.words.specs.Layout as at
use Rattle.words.specs.Layout.{entry_at}
use Rattle.tables.specs.Table.{position}
use Rattle.objects.specs.Objects.{objects_base, object_count, dpcs_base}
use Rattle.dpcs.specs.Record.{dpc_count}
use Rattle.timers.specs.Record.{size_at, dpc_size_at}
use Rattle.timers.specs.Reads as words
use Rattle.call_answers.specs.Told.{told}
use Rattle.model.specs.Lists.{given}
use Rattle.model.specs.State.{State, Object}
use Rattle.model.specs.Waits.{key_of, timers_of}
use Rattle.model.specs.Dpcs.{address_of}
use Rattle.model.specs.Timers.{most}
use Rattle.model.specs.Answer.{Flag}
use Rattle.model.specs.Call as call
use Rattle.model.specs.Reads.{read_refusal, read_answer, last_timer_below, last_dpc_below, end_of, timer_read_overlap, timer_metadata_overlap}
use Rattle.model.specs.Step.{step}
use Rattle.agreement_tables.specs.Tables.{below}
use Rattle.agreement_tables.proofs.Lists.{nth-some, below-le}
use Rattle.agreement_tables.proofs.Search.{position-is}
use Rattle.agreement.specs.Agree.{objects_from, dpcs_from, Agreeing}
use Rattle.agreement.proofs.Places.{entry_place}
use Rattle.agreement.proofs.Records.{architecture-read}
use Rattle.agreement.proofs.Lookups.{base-is, dpcs-base-is, object-count-is, dpc-count-is, object-keys, dpc-keys}
use Rattle.agreement.proofs.Headers.{objects-few, dpcs-few}
use Rattle.agreement_timers.proofs.Walks.{Stands}
use Rattle.agreement_timers.proofs.Last.{last_of, last-timer, last-stands, before, last-dpc}
use Rattle.agreement_timers.proofs.TimerReads.{read_is}

-- the end of a range, at most the largest number
end_is : (address size : ℕ) → words.end_of address size ≡ end_of address size
unfolding words.end_of
end_is address size = go (ltb most (address + size)) refl
  where
    go : (b : Bool) → ltb most (address + size) ≡ b → cond b most (address + size) ≡ min (address + size) most
    go true e = omega (arith, ltb-true most (address + size) e)
    go false e = omega (arith, ltb-false most (address + size) e)

module _ (w : List ℕ) (s : State) (holder : ℕ → ℕ) (active : ℕ) (a : Agreeing w s holder active) where
  abbrev objects : List Object
  objects = s.dispatcher.objects

  abbrev base : ℕ
  base = objects_from s.limits

  low : base ≤ 1000000
  low = omega (arith, a.shape.sizes.limits.threads)

  abbrev table : List Dpc
  table = s.dpcs.table

  abbrev base' : ℕ
  base' = dpcs_from s.limits

  low' : base' ≤ 1000000
  low' = omega (arith, a.shape.sizes.limits.threads, a.shape.sizes.limits.objects)

  -- ---- the last timer before an end

  timer-stands : (end : ℕ) → Stands w (words.last_timer w end) (last_timer_below end (timers_of objects))
  unfolding words.last_timer
  timer-stands end =
      let few = objects-few w s holder active a in
      subst (Stands w (words.last_below (position w (objects_base w) (object_count w) end) w (objects_base w))) (sym (last-timer end objects a.shape.rising))
      (subst (λ (b : ℕ). Stands w (words.last_below (position w b (object_count w) end) w b) (last_of (below key_of end objects) objects)) (sym (base-is w s holder active a))
      (subst (λ (n : ℕ). Stands w (words.last_below n w base) (last_of (below key_of end objects) objects))
      (sym (position-is key_of w base objects low (omega (arith, few)) a.shape.rising (object-keys w s holder active a) (object_count w) end (object-count-is w s holder active a)))
      (last-stands w base low (omega arith) objects (omega (arith, few)) a.objects (below key_of end objects) (below-le key_of end objects))))

  timer-range : (address size place : ℕ) (o : Option Timer) → Stands w place o
      → cond (eqb place 0) false (overlaps address size (get_or w (place + at.key) 0) (size_at w place)) ≡ given o false (λ (t : Timer). overlaps address size t.address (timer_size t.architecture))
  unfolding size_at
  timer-range address size place none e =
      ap (λ (b : Bool). cond b false (overlaps address size (get_or w (place + at.key) 0) (size_at w place))) (eq-eqb place 0 e)
  timer-range address size place (some t) e =
      ap (λ (b : Bool). cond b false (overlaps address size (get_or w (place + at.key) 0) (size_at w place))) (ne_eqb place 0 (λ z. omega (arith, e.0)))
      ∙ ap (λ (n : ℕ). overlaps address size n (size_at w place)) (e.1 0 t.address refl)
      ∙ ap (λ (n : ℕ). overlaps address size t.address (timer_size (architecture_of n))) (e.1 12 (architecture_number t.architecture) refl)
      ∙ ap (λ x. overlaps address size t.address (timer_size x)) (architecture-read t.architecture)

  overlaps-timer : (address size : ℕ) → words.overlaps_timer w address size ≡ timer_read_overlap s address size
  unfolding words.overlaps_timer timer_read_overlap
  overlaps-timer address size =
      ap (λ (end : ℕ). cond (eqb size 0) false (cond (eqb (words.last_timer w end) 0) false (overlaps address size (get_or w (words.last_timer w end + 0) 0) (size_at w (words.last_timer w end))))) (end_is address size)
      ∙ ap (λ (b : Bool). cond (eqb size 0) false b) (timer-range address size (words.last_timer w (end_of address size)) (last_timer_below (end_of address size) (timers_of objects)) (timer-stands (end_of address size)))

  pub agree-read-overlap : (address size : ℕ) → told (words.read_overlap w address size) ≡ (step (call.Reads (call.TimerReadOverlap address size)) s).answer
  unfolding words.read_overlap read_refusal read_answer
  agree-read-overlap address size = ap Flag (overlaps-timer address size) ∙ sym (read_is (call.TimerReadOverlap address size) s refl)

  -- ---- the last DPC before an end

  abbrev last_place : ℕ → ℕ
  last_place n = cond (eqb n 0) 0 (entry_at base' (n - 1))

  dpc-range : (address size n : ℕ) → n ≤ length table
      → cond (eqb (last_place n) 0) false (overlaps address size (get_or w (last_place n + 0) 0) (dpc_size_at w (last_place n)))
      ≡ given (before table n) false (λ (d : Dpc). overlaps address size d.address (dpc_size d.architecture))
  unfolding dpc_size_at
  dpc-range address size zero le = refl
  dpc-range address size (suc n) le =
      let x = nth-some table n (omega arith) in
      let d = x.0 in
      let place = base' + 32 * n in
      ap (λ (p : ℕ). cond (eqb p 0) false (overlaps address size (get_or w (p + at.address) 0) (dpc_size_at w p))) there
      ∙ ap (λ (b : Bool). cond b false (overlaps address size (get_or w (place + at.address) 0) (dpc_size_at w place))) (ne_eqb place 0 (λ z. omega arith))
      ∙ ap (λ (k : ℕ). overlaps address size k (dpc_size_at w place)) (a.dpcs n d x.1 0 d.address refl)
      ∙ ap (λ (k : ℕ). overlaps address size d.address (dpc_size (architecture_of k))) (a.dpcs n d x.1 4 (architecture_number d.architecture) refl)
      ∙ ap (λ y. overlaps address size d.address (dpc_size y)) (architecture-read d.architecture)
      ∙ sym (ap (λ (o : Option Dpc). given o false (λ (d : Dpc). overlaps address size d.address (dpc_size d.architecture))) x.1)
    where
      there : last_place (suc n) ≡ base' + 32 * n
      there =
          ap (λ (b : Bool). cond b 0 (entry_at base' (suc n - 1))) (ne_eqb (suc n) 0 (λ z. omega arith))
          ∙ ap (entry_at base') (let z : suc n - 1 ≡ n = omega arith in z) ∙ entry_place base' n low' (omega (arith, le, dpcs-few w s holder active a))

  overlaps-dpc : (address size : ℕ) → words.overlaps_dpc w address size
      ≡ cond (eqb size 0) false (given (last_dpc_below (end_of address size) table) false (λ (d : Dpc). overlaps address size d.address (dpc_size d.architecture)))
  unfolding words.overlaps_dpc words.last_dpc
  overlaps-dpc address size =
      let end = end_of address size in
      let test : ℕ → ℕ → Bool = λ b n. let p : ℕ = cond (eqb n 0) 0 (entry_at b (n - 1)) in cond (eqb size 0) false (cond (eqb p 0) false (overlaps address size (get_or w (p + at.address) 0) (dpc_size_at w p))) in
      ap (λ (e : ℕ). test (dpcs_base w) (position w (dpcs_base w) (dpc_count w) e)) (end_is address size)
      ∙ ap (λ (b : ℕ). test b (position w b (dpc_count w) end)) (dpcs-base-is w s holder active a)
      ∙ ap (test base') (position-is address_of w base' table low' (omega (arith, dpcs-few w s holder active a)) a.shape.dpcs.rising (dpc-keys w s holder active a) (dpc_count w) end (dpc-count-is w s holder active a))
      ∙ ap (λ (b : Bool). cond (eqb size 0) false b) (dpc-range address size (below address_of end table) (below-le address_of end table)
      ∙ sym (ap (λ (o : Option Dpc). given o false (λ (d : Dpc). overlaps address size d.address (dpc_size d.architecture))) (last-dpc end table)))

  pub agree-metadata-overlap : (address size : ℕ) → told (words.metadata_overlap w address size) ≡ (step (call.Reads (call.TimerMetadataOverlap address size)) s).answer
  unfolding words.metadata_overlap read_refusal read_answer timer_metadata_overlap timer_read_overlap
  agree-metadata-overlap address size =
      let d : Bool = given (last_dpc_below (end_of address size) table) false (λ (d : Dpc). overlaps address size d.address (dpc_size d.architecture)) in
      let t : Bool = given (last_timer_below (end_of address size) (timers_of objects)) false (λ (t : Timer). overlaps address size t.address (timer_size t.architecture)) in
      ap (λ (b : Bool). Flag (cond b true (words.overlaps_dpc w address size))) (overlaps-timer address size)
      ∙ ap (λ (b : Bool). Flag (cond (timer_read_overlap s address size) true b)) (overlaps-dpc address size)
      ∙ ap Flag (go (eqb size 0) t d)
      ∙ sym (read_is (call.TimerMetadataOverlap address size) s refl)
    where
      go : (z t d : Bool) → cond (cond z false t) true (cond z false d) ≡ cond z false (cond z false t || d)
      go true t d = refl
      go false true d = refl
      go false false d = refl
