-- A DPC made, or made anew.
use Prim.Native.Nat.{ℕ, ◌+◌, ◌≤◌}
use mathlib.Core.List.{List, [], ◌∷◌}
use mathlib.Core.Bool.{Bool, true, false, cond, not}
use mathlib.Core.Option.{Option, none, some}
use mathlib.Core.Path.{◌≡◌, refl, sym, ap, ◌∙◌, subst}
use native.Mathlib.Omega.{arith}
use borrow.Author.Tests.{eqb-true}
use lib.ListN.{get_or, set, length}
use lib.Dec.{eqb, leb, ltb}
use Rattle.words.specs.Layout as at
use Rattle.arch.specs.declared.Architecture.{Architecture}
use Rattle.images.specs.declared.Dpc.{Dpc}
use Rattle.images.specs.declared.DpcPhase.{DpcPhase}
use Rattle.images.specs.declared.DpcPhase.TheVariants.{Idle, Queued, Running, Returning}
use Rattle.images.specs.declared.TimerBacking.{TimerBacking}
use Rattle.images.specs.Place.{dpc_size, location_refusal}
use Rattle.images.proofs.PlaceLaws.{located}
use Rattle.dpcs.specs.Named as named
use Rattle.dpc_table.specs.Table.{entered}
use Rattle.timers.specs.Record.{busy}
use Rattle.timers.specs.Initialize as code
use Rattle.answers.specs.declared.Answer.TheVariants as answer
use Rattle.answers.specs.Outcome.{outcome}
use Rattle.model.specs.Lists.{Mem, first_of, present, given}
use Rattle.model.specs.Table.{find, put}
use Rattle.model.specs.State.{State}
use Rattle.model.specs.Waits.{object_at}
use Rattle.model.specs.Dpcs.{address_of, dpc_at, phase_at, put_dpc, is_busy, is_queued, is_active}
use Rattle.model.specs.Timers.{lifetime, is_named}
use Rattle.model.specs.Valid.{Valid}
use Rattle.model.specs.Refusal.{place_refusal, dpc_refusal}
use Rattle.model.specs.Call as call
use Rattle.model.specs.Step.{step, refusal, effect, with_dpcs, dpc_initialized}
use Rattle.model.proofs.ListLaws.{not-both, mem-member}
use Rattle.model.proofs.RowLaws.{passes, holds}
use Rattle.model.proofs.KeepDpcs.{valid-init-dpc}
use Rattle.agreement_work.proofs.Named.{holder-none}
use Rattle.agreement.specs.Records.{holder_of, active_address}
use Rattle.agreement.specs.Agree.{Agree, Agreeing}
use Rattle.agreement.specs.Matches.{Plainly}
use Rattle.agreement.proofs.Headers.{sim-dpcs-made}
use Rattle.agreement.proofs.Matches.{plainly-unless}
use Rattle.agreement_objects.proofs.Tests.{object-known, dpc-known}
use Rattle.agreement_objects.proofs.Overlaps.{place-refusal}
use Rattle.agreement_timers.proofs.Found.{busy-is}
use Rattle.agreement_dpc.proofs.Named.{named-is}
use Rattle.agreement_objects.proofs.EnterDpc.{sim-enter-dpc}

-- ---- the active DPC stays

module _ {A : Type 0} (key : A → ℕ) (f : A → Bool) where
  pub first-put : (x : A) (l : List A) → f x ≡ false → ((z : A) → find key l (key x) ≡ some z → f z ≡ false) → first_of f (put key x l) ≡ first_of f l
  first-put x [] e h = ap (λ (b : Bool). cond b (some x) none) e
  first-put x (y ∷ ys) e h = go (ltb (key x) (key y)) (eqb (key y) (key x)) refl (first-put x ys e)
    where
      none-own : (l : List A) → first_of f (x ∷ l) ≡ first_of f l
      none-own l = ap (λ (b : Bool). cond b (some x) (first_of f l)) e

      seen : (b : Bool) → eqb (key y) (key x) ≡ b → find key (y ∷ ys) (key x) ≡ cond b (some y) (find key ys (key x))
      seen b q = ap (λ (c : Bool). cond c (some y) (find key ys (key x))) q

      go : (a b : Bool) → eqb (key y) (key x) ≡ b → (((z : A) → find key ys (key x) ≡ some z → f z ≡ false) → first_of f (put key x ys) ≡ first_of f ys)
          → first_of f (cond a (x ∷ y ∷ ys) (cond b (x ∷ ys) (y ∷ put key x ys))) ≡ first_of f (y ∷ ys)
      go true b q ih = none-own (y ∷ ys)
      go false true q ih = none-own ys ∙ sym (ap (λ (b : Bool). cond b (some y) (first_of f ys)) (h y (seen true q)))
      go false false q ih = ap (λ (o : Option A). cond (f y) (some y) o) (ih (λ z u. h z (seen false q ∙ u)))

-- a DPC that is not busy is neither queued nor active
idle-queued : (p : DpcPhase) → is_busy p ≡ false → is_queued p ≡ false
idle-queued Idle e = refl
idle-queued (Queued x) e = e
idle-queued (Running x) e = refl
idle-queued (Returning x) e = refl

idle-active : (p : DpcPhase) → is_busy p ≡ false → is_active p ≡ false
idle-active Idle e = refl
idle-active (Queued x) e = refl
idle-active (Running x) e = e
idle-active (Returning x) e = e

module _ (w : List ℕ) (s : State) (a : Agree w s) (v : Valid s) where
  abbrev hold : ℕ → ℕ
  hold = holder_of s.dispatcher.objects

  abbrev act : ℕ
  act = active_address s.dpcs.table

  -- ---- what refuses it

  dpc-full : (address : ℕ) → code.dpc_full w address ≡ cond (present (dpc_at s.dpcs.table address)) false (leb s.limits.dpcs (length s.dpcs.table))
  unfolding code.dpc_full
  dpc-full address =
      ap (λ (b : Bool). cond b (leb (get_or w at.dpc_limit 0) (get_or w at.dpcs 0)) false) (dpc-known w s hold act a address)
      ∙ ap (λ (n : ℕ). cond (not (present (dpc_at s.dpcs.table address))) (leb n (get_or w at.dpcs 0)) false) (a.numbers at.dpc_limit s.limits.dpcs refl)
      ∙ ap (λ (n : ℕ). cond (not (present (dpc_at s.dpcs.table address))) (leb s.limits.dpcs n) false) (a.numbers at.dpcs (length s.dpcs.table) refl)
      ∙ go (present (dpc_at s.dpcs.table address)) (leb s.limits.dpcs (length s.dpcs.table))
    where
      go : (b c : Bool) → cond (not b) c false ≡ cond b false c
      go true c = refl
      go false c = refl

  pub dpc-refusal : (address : ℕ) (arch : Architecture) (b : TimerBacking) → code.dpc_refusal w address arch b ≡ dpc_refusal s address arch b
  unfolding code.dpc_refusal dpc_refusal
  dpc-refusal address arch b =
      ap (λ (x : Bool). cond x (cond (code.dpc_full w address) 4 (cond (leb 65536 (get_or w at.dpc_initializations 0)) 14 (cond (busy w address) 19 (cond (named.is_named w address) 19 (code.place_refusal w address (dpc_size arch) arch b))))) 5) (object-known w s hold act a address)
      ∙ go (present (object_at s.dispatcher.objects address)) (cond (code.dpc_full w address) 4 (cond (leb 65536 (get_or w at.dpc_initializations 0)) 14 (cond (busy w address) 19 (cond (named.is_named w address) 19 (code.place_refusal w address (dpc_size arch) arch b)))))
      ∙ ap (λ (n : ℕ). cond (present (object_at s.dispatcher.objects address)) 5 n)
      (ap (λ (x : Bool). cond x 4 (cond (leb 65536 (get_or w at.dpc_initializations 0)) 14 (cond (busy w address) 19 (cond (named.is_named w address) 19 (code.place_refusal w address (dpc_size arch) arch b))))) (dpc-full address)
      ∙ ap (λ (n : ℕ). cond full 4 n)
      (ap (λ (n : ℕ). cond (leb 65536 n) 14 (cond (busy w address) 19 (cond (named.is_named w address) 19 (code.place_refusal w address (dpc_size arch) arch b)))) (a.numbers at.dpc_initializations s.dpc_initializations refl)
      ∙ ap (λ (n : ℕ). cond (leb 65536 s.dpc_initializations) 14 n)
      (ap (λ (x : Bool). cond x 19 (cond (named.is_named w address) 19 (code.place_refusal w address (dpc_size arch) arch b))) (busy-is w s _ _ a address)
      ∙ ap (λ (x : Bool). cond (is_busy (phase_at s.dpcs.table address)) 19 (cond x 19 (code.place_refusal w address (dpc_size arch) arch b))) (named-is w s a v address)
      ∙ ap (λ (n : ℕ). cond (is_busy (phase_at s.dpcs.table address)) 19 (cond (is_named s.dispatcher.objects address) 19 n)) (place-refusal w s hold act a address (dpc_size arch) arch b))))
    where
      full : Bool
      full = cond (present (dpc_at s.dpcs.table address)) false (leb s.limits.dpcs (length s.dpcs.table))

      go : (b : Bool) (n : ℕ) → cond (not b) n 5 ≡ cond b 5 n
      go true n = refl
      go false n = refl

  -- ---- initialize_dpc

  pub agree-initialize-dpc : (address : ℕ) (arch : Architecture) (b : TimerBacking) (routine context : ℕ)
      → Plainly (code.dpc_initialized w address arch b routine context) (step (call.InitializeDpc address arch b routine context) s)
  unfolding code.dpc_initialized code.new_dpc refusal effect dpc_initialized dpc_refusal place_refusal
  agree-initialize-dpc address arch b routine context =
      plainly-unless w s a (call.InitializeDpc address arch b routine context) (code.dpc_refusal w address arch b)
      (outcome answer.Done (set (entered w address (code.new_dpc arch b routine context)) 20 (get_or w at.dpc_initializations 0 + 1))) (dpc-refusal address arch b)
      (λ e. let r₁ = passes (present (object_at s.dispatcher.objects address)) 4 _ e in
      let r₂ = passes (cond (present (dpc_at s.dpcs.table address)) false (leb s.limits.dpcs (length s.dpcs.table))) 3 _ r₁.1 in
      let r₃ = passes (leb lifetime s.dpc_initializations) 13 _ r₂.1 in
      let r₄ = passes (is_busy (phase_at s.dpcs.table address)) 18 _ r₃.1 in
      let r₅ = passes (is_named s.dispatcher.objects address) 18 _ r₄.1 in
      let r₆ = holds (eqb (location_refusal address (dpc_size arch) arch b) 0) 14 _ r₅.1 in
      record {
        answers = refl;
        agree = after (valid-init-dpc s v address arch b routine context e).queueing.room r₄.0 r₅.0
            (λ z. omega (arith, (located address (dpc_size arch) arch b (eqb-true (location_refusal address (dpc_size arch) arch b) 0 r₆.0)).some));
      })
    where
      x : Dpc
      x = record { address = address; architecture = arch; backing = b; routine = routine; context = context; phase = Idle }

      after : length (put_dpc x s.dpcs.table) ≤ s.limits.dpcs → is_busy (phase_at s.dpcs.table address) ≡ false → is_named s.dispatcher.objects address ≡ false → (address ≡ 0 → ⊥)
          → Agree (set (entered w address (code.new_dpc arch b routine context)) 20 (get_or w at.dpc_initializations 0 + 1)) (dpc_initialized s address arch b routine context)
      after room idle unnamed some-where =
          subst (λ (k : ℕ). Agree (set (entered w address (code.new_dpc arch b routine context)) 20 (k + 1)) (dpc_initialized s address arch b routine context)) (sym (a.numbers at.dpc_initializations s.dpc_initializations refl))
          (subst (λ (k : ℕ). Agreeing (set (entered w address (code.new_dpc arch b routine context)) 20 (s.dpc_initializations + 1)) (dpc_initialized s address arch b routine context) hold k) (sym active)
          (sim-dpcs-made (entered w address (code.new_dpc arch b routine context)) (with_dpcs s (record { table = put_dpc x s.dpcs.table; queue = s.dpcs.queue; counters = s.dpcs.counters })) hold act
          (sim-enter-dpc w s hold act a x (code.new_dpc arch b routine context) room some-where (holder-none s.dispatcher.objects address unnamed) out refl) (s.dpc_initializations + 1)))
        where
          out : Mem address s.dpcs.queue → ⊥
          out m = not-both (sym (mem-member address s.dpcs.queue m) ∙ v.queueing.queued address ∙ idle-queued (phase_at s.dpcs.table address) idle)

          active : active_address (put_dpc x s.dpcs.table) ≡ active_address s.dpcs.table
          active = ap (λ (o : Option Dpc). given o 0 (λ (d : Dpc). d.address)) (first-put address_of (λ (d : Dpc). is_active d.phase) x s.dpcs.table refl
              (λ z q. idle-active z.phase (ap (λ (o : Option Dpc). is_busy (given o Idle (λ (d : Dpc). d.phase))) (sym q) ∙ idle)))
