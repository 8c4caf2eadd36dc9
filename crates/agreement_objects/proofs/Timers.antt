-- A timer made, or made anew.
use Prim.Native.Nat.{ℕ, ◌+◌, ◌*◌, ◌≤◌}
use mathlib.Core.List.{List, [], ◌∷◌, ◌++◌}
use mathlib.Core.Bool.{Bool, true, false, cond, not}
use mathlib.Core.Option.{Option, none, some}
use mathlib.Core.Path.{◌≡◌, refl, sym, ap, ◌∙◌, subst}
use native.Mathlib.Omega.{arith}
use lib.ListN.{get_or, set, length}
use lib.Dec.{eqb, leb}
use Rattle.words.specs.Layout as at
use Rattle.arch.specs.declared.Architecture.{Architecture}
use Rattle.objects.specs.declared.Object as stored
use Rattle.objects.specs.Objects as objects
use Rattle.objects.specs.Objects.{entered, place_of}
use Rattle.images.specs.declared.Timer.{Timer}
use Rattle.images.specs.declared.TimerBacking.{TimerBacking}
use Rattle.images.specs.Place.{architecture_number, backing_kind, backing_base, backing_size, backing_mapped, timer_size}
use Rattle.timers.specs.Record as records
use Rattle.timers.specs.Initialize as code
use Rattle.answers.specs.declared.Answer.TheVariants as answer
use Rattle.answers.specs.Outcome.{outcome}
use Rattle.model.specs.Lists.{present, given}
use Rattle.model.specs.State.{State, timer}
use Rattle.model.specs.Waits.{key_of, object_at, timer_at, put_object}
use Rattle.model.specs.Timers.{lifetime, new_timer}
use Rattle.model.specs.Valid.{Valid}
use Rattle.model.specs.Refusal.{collides, is_full, is_inserted, is_waited_on, place_refusal, timer_refusal}
use Rattle.model.specs.Call as call
use Rattle.model.specs.Step.{step, refusal, effect, with_table, timer_initialized}
use Rattle.model.proofs.RowLaws.{passes}
use Rattle.model.proofs.KeepObjects.{room_for}
use Rattle.model.proofs.ObjectLaws.{timer-found}
use Rattle.agreement_tables.specs.Tables.{below}
use Rattle.agreement_work.proofs.Puts.{holder-idle}
use Rattle.agreement_work.proofs.Same.{agreeing-same}
use Rattle.agreement.specs.Records.{flag, holder_of, active_address}
use Rattle.agreement.specs.Agree.{objects_from, Agree, Agreeing}
use Rattle.agreement.specs.Matches.{Plainly}
use Rattle.agreement.proofs.Rows.{Store, store, written, In, blank, row_more, row_written}
use Rattle.agreement.proofs.Places.{Any}
use Rattle.agreement.proofs.Headers.{sim-timers-made}
use Rattle.agreement.proofs.Records.{flag-read}
use Rattle.agreement.proofs.Lookups.{object-place, object-row}
use Rattle.agreement.proofs.Matches.{plainly-unless}
use Rattle.agreement_wakes.proofs.Waiters.{waits-on-is}
use Rattle.agreement_objects.proofs.Tests.{collides-is, full_is, timer-known}
use Rattle.agreement_objects.proofs.Enter.{five_row, sim-entered, entered-row, entered-long, entered-place}
use Rattle.agreement_objects.proofs.Overlaps.{place-refusal}

-- the words behind those of every object
abbrev rest_stores : Architecture → TimerBacking → ℕ → List Store
rest_stores a b n =
    store at.inserted 0 ∷ store at.due 0 ∷ store at.period 0 ∷ store at.timer_dpc 0 ∷ store at.absolute 0 ∷ store at.arm 0 ∷ store at.timer_architecture (architecture_number a) ∷ store at.timer_backing (backing_kind b) ∷ store at.timer_base (backing_base b) ∷ store at.timer_size (backing_size b)
    ∷ store at.timer_mapped (backing_mapped b) ∷ store at.initialization n ∷ []

rest_in : (a : Architecture) (b : TimerBacking) (n : ℕ) → In Any (rest_stores a b n)
rest_in a b n = (
  omega arith,
  (omega arith, (omega arith, (omega arith, (omega arith, (omega arith, (omega arith, (omega arith, (omega arith, (omega arith, (omega arith, (omega arith, tt))))))))))),
)

record-put : (w : List ℕ) (address place : ℕ) (a : Architecture) (b : TimerBacking) (n : ℕ) → place_of w 2 address ≡ place → code.record_put w address a b n ≡ written w place (rest_stores a b n)
unfolding code.record_put code.located code.never_set
record-put w address place a b n e = ap (λ (p : ℕ). written w p (rest_stores a b n)) e

module _ (w : List ℕ) (s : State) (a : Agree w s) where
  abbrev hold : ℕ → ℕ
  hold = holder_of s.dispatcher.objects

  abbrev act : ℕ
  act = active_address s.dpcs.table

  -- the new timer's record, in its place in the table
  pub sim-new-timer : (address : ℕ) (arch : Architecture) (b : TimerBacking) (manual : Bool) (n : ℕ)
      → length (put_object (timer (new_timer address arch b manual n)) s.dispatcher.objects) ≤ s.limits.objects
      → Agreeing (code.record_put (entered w address (code.new_timer manual)) address arch b n) (with_table s (put_object (timer (new_timer address arch b manual n)) s.dispatcher.objects)) hold act
  unfolding new_timer code.new_timer
  sim-new-timer address arch b manual n room =
      subst (λ (u : List ℕ). Agreeing u (with_table s (put_object (timer t) s.dispatcher.objects)) hold act)
      (sym (record-put w₁ address place arch b n (entered-place w s hold act a (timer t) o room refl)))
      (sim-entered w s hold act a (timer t) o room (rest_stores arch b n) (rest_in arch b n) (omega arith, omega arith)
      (row_written Any w₁ place (five_row address o ++ blank 12) (rest_stores arch b n) (rest_in arch b n) (entered-long w s hold act a (timer t) o room)
      (row_more w₁ place (five_row address o) 12 (entered-row w s hold act a (timer t) o room))))
    where
      t : Timer
      t = new_timer address arch b manual n

      o : stored.Object
      o = code.new_timer manual

      w₁ : List ℕ
      w₁ = entered w address (code.new_timer manual)

      place : ℕ
      place = objects_from s.limits + 32 * below key_of address s.dispatcher.objects

  -- ---- what refuses it

  inserted-is : (address : ℕ) (t : Timer) → object_at s.dispatcher.objects address ≡ some (timer t) → records.is_inserted w (place_of w 2 address) ≡ t.inserted
  unfolding records.is_inserted
  inserted-is address t e =
      ap (λ (p : ℕ). not (eqb (get_or w (p + at.inserted) 0) 0)) (object-place w s hold act a address (timer t) e)
      ∙ ap (λ (n : ℕ). not (eqb n 0)) (object-row w s hold act a address (timer t) e 5 (flag t.inserted) refl) ∙ flag-read t.inserted

  timer-inserted : (address : ℕ) → cond (eqb (place_of w 2 address) 0) false (records.is_inserted w (place_of w 2 address)) ≡ is_inserted s.dispatcher.objects address
  timer-inserted address =
      ap (λ (b : Bool). cond b false (records.is_inserted w (place_of w 2 address))) (timer-known w s hold act a address) ∙ go (timer_at s.dispatcher.objects address) refl
    where
      go : (r : Option Timer) → timer_at s.dispatcher.objects address ≡ r → cond (not (present r)) false (records.is_inserted w (place_of w 2 address)) ≡ given r false (λ (t : Timer). t.inserted)
      go none q = refl
      go (some t) q = inserted-is address t (timer-found (object_at s.dispatcher.objects address) t q)

  module _ (v : Valid s) where
    in_use_lem : (address : ℕ) → code.in_use w address ≡ cond (is_waited_on s 2 address) true (is_inserted s.dispatcher.objects address)
    unfolding code.in_use
    in_use_lem address =
        ap (λ (b : Bool). cond b true (cond (eqb (place_of w 2 address) 0) false (records.is_inserted w (place_of w 2 address)))) (waits-on-is w s hold act a v.sound.standing.waiters_waiting 2 address)
        ∙ ap (λ (b : Bool). cond (is_waited_on s 2 address) true b) (timer-inserted address)

    pub timer-refusal : (address : ℕ) (arch : Architecture) (b : TimerBacking) → code.timer_refusal w address arch b ≡ timer_refusal s address arch b
    unfolding code.timer_refusal timer_refusal
    timer-refusal address arch b =
        ap (λ (x : Bool). cond x 5 (cond (objects.full w address) 4 (cond (leb 65536 (get_or w at.timer_initializations 0)) 14 (cond (code.in_use w address) 6 (code.place_refusal w address (timer_size arch) arch b))))) (collides-is w s hold act a 2 address)
        ∙ ap (λ (x : Bool). cond (collides s 2 address) 5 (cond x 4 (cond (leb 65536 (get_or w at.timer_initializations 0)) 14 (cond (code.in_use w address) 6 (code.place_refusal w address (timer_size arch) arch b))))) (full_is w s hold act a address)
        ∙ ap (λ (n : ℕ). cond (collides s 2 address) 5 (cond (is_full s address) 4 (cond (leb 65536 n) 14 (cond (code.in_use w address) 6 (code.place_refusal w address (timer_size arch) arch b))))) (a.numbers at.timer_initializations s.timer_initializations refl)
        ∙ ap (λ (x : Bool). cond (collides s 2 address) 5 (cond (is_full s address) 4 (cond (leb 65536 s.timer_initializations) 14 (cond x 6 (code.place_refusal w address (timer_size arch) arch b))))) (in_use_lem address)
        ∙ ap (λ (n : ℕ). cond (collides s 2 address) 5 (cond (is_full s address) 4 (cond (leb 65536 s.timer_initializations) 14 (cond (cond (is_waited_on s 2 address) true (is_inserted s.dispatcher.objects address)) 6 n))))
        (place-refusal w s hold act a address (timer_size arch) arch b)
        ∙ ap (λ (n : ℕ). cond (collides s 2 address) 5 (cond (is_full s address) 4 (cond (leb 65536 s.timer_initializations) 14 n)))
        (go (is_waited_on s 2 address) (is_inserted s.dispatcher.objects address) (place_refusal s address (timer_size arch) arch b))
      where
        go : (x y : Bool) (n : ℕ) → cond (cond x true y) 6 n ≡ cond y 6 (cond x 6 n)
        go true true n = refl
        go true false n = refl
        go false true n = refl
        go false false n = refl

    -- ---- initialize_timer

    pub agree-initialize-timer : (address : ℕ) (arch : Architecture) (b : TimerBacking) (manual : Bool)
        → Plainly (code.timer_initialized w address arch b manual) (step (call.InitializeTimer address arch b manual) s)
    unfolding code.timer_initialized refusal effect timer_initialized timer_refusal new_timer
    agree-initialize-timer address arch b manual =
        plainly-unless w s a (call.InitializeTimer address arch b manual) (code.timer_refusal w address arch b)
        (outcome answer.Done (set (code.record_put (entered w address (code.new_timer manual)) address arch b (get_or w at.timer_initializations 0 + 1)) 19 (get_or w at.timer_initializations 0 + 1))) (timer-refusal address arch b)
        (λ e. let r₁ = passes (collides s 2 address) 4 _ e in
        let r₂ = passes (is_full s address) 3 _ r₁.1 in
        let r₃ = passes (leb lifetime s.timer_initializations) 13 _ r₂.1 in
        let r₄ = passes (is_inserted s.dispatcher.objects address) 5 _ r₃.1 in
        record { answers = refl; agree = after r₂.0 r₄.0 })
      where
        after : is_full s address ≡ false → is_inserted s.dispatcher.objects address ≡ false
            → Agree (set (code.record_put (entered w address (code.new_timer manual)) address arch b (get_or w at.timer_initializations 0 + 1)) 19 (get_or w at.timer_initializations 0 + 1)) (timer_initialized s address arch b manual)
        after space idle =
            let n = s.timer_initializations + 1 in
            let t = new_timer address arch b manual n in
            subst (λ (k : ℕ). Agree (set (code.record_put (entered w address (code.new_timer manual)) address arch b (k + 1)) 19 (k + 1)) (timer_initialized s address arch b manual))
            (sym (a.numbers at.timer_initializations s.timer_initializations refl))
            (agreeing-same (set (code.record_put (entered w address (code.new_timer manual)) address arch b n) 19 n) (timer_initialized s address arch b manual) hold act
            (sim-timers-made (code.record_put (entered w address (code.new_timer manual)) address arch b n) (with_table s (put_object (timer t) s.dispatcher.objects)) hold act
            (sim-new-timer address arch b manual n (room_for s v (timer t) space)) n)
            (holder_of (put_object (timer t) s.dispatcher.objects))
            (λ k z. holder-idle s.dispatcher.objects a.shape.rising t refl idle k))
