-- The records of timers in words that agree with a state in form pass the check: numbers, and the DPC that an inserted timer has.
use Prim.Native.Nat.{ℕ, ◌+◌, ◌*◌, ◌≤◌}
use mathlib.Core.List.{List, [], ◌∷◌}
use mathlib.Core.Bool.{Bool, cond, true, false}
use mathlib.Core.Option.{Option, some}
use mathlib.Core.Path.{◌≡◌, refl, sym, ap, ◌∙◌}
use mathlib.Core.Logic.{inl, inr}
use native.Mathlib.Omega.{arith}
use borrow.Author.Tests.{eq-eqb, ne_eqb, le-leb, le-ltb, eqb-true, eqb-false}
use lib.ListN.{get_or}
use lib.Dec.{eqb}
use Rattle.words.specs.Layout as at
use Rattle.images.specs.declared.Timer.{Timer}
use Rattle.images.specs.declared.Dpc.{Dpc}
use Rattle.images.specs.Place.{architecture_number, architecture_of, backing_kind, backing_base, backing_size, backing_mapped, timer_size}
use Rattle.objects.specs.Objects.{place_of}
use Rattle.form_dpc.specs.Place.{located}
use Rattle.form_dpc.specs.Timer.{timer_flags, timer_times, timer_placed, timer_numbers, serves_it, dpc_serves, has_dpc}
use Rattle.model.specs.Lists.{Mem, first_of, given}
use Rattle.model.specs.State.{State, timer}
use Rattle.model.specs.Waits.{key_of, object_at, timers_of}
use Rattle.model.specs.Dpcs.{address_of, dpc_at}
use Rattle.model.specs.Valid.{Placed}
use Rattle.model.specs.Fits.{TimerFits}
use Rattle.model.proofs.ListLaws.{not-both}
use Rattle.model.proofs.DpcLaws.{present-some}
use Rattle.model.proofs.TableLaws.{found, mem-found, some_same, none-some}
use Rattle.model.proofs.LinkLaws.{mem-timer}
use Rattle.agreement_tables.specs.Tables.{below}
use Rattle.agreement.specs.Row.{Row}
use Rattle.agreement.specs.Records.{flag, timer_row, holds, holder_of, active_address}
use Rattle.agreement.specs.Agree.{Agree, objects_from, dpcs_from}
use Rattle.agreement.proofs.Records.{architecture-read}
use Rattle.agreement.proofs.Lookups.{dpc-place, dpc-row, object-place, object-row}
use Rattle.agreement_form.specs.Form.{Form}
use Rattle.agreement_form.proofs.Located.{located-is}

pub flag-few : (b : Bool) → flag b ≤ 1
flag-few true = omega arith
flag-few false = omega arith

-- word 0 of a row
pub first_word : (w : List ℕ) (place n : ℕ) → get_or w (place + at.key) 0 ≡ n → get_or w place 0 ≡ n
first_word w place n e = ap (λ (p : ℕ). get_or w p 0) (let z : place ≡ place + 0 = omega arith in z) ∙ e

-- ---- numbers

module _ (w : List ℕ) (place : ℕ) (t : Timer) (r : Row w place (timer_row t)) where
  flags-pass : timer_flags w place ≡ true
  unfolding timer_flags
  flags-pass =
      simp (
        r 2 (flag t.manual_reset) refl,
        r 3 (flag t.signaled) refl,
        r 5 (flag t.inserted) refl,
        r 9 (flag t.absolute) refl,
        le-ltb 1 (flag t.manual_reset) (flag-few t.manual_reset),
        le-ltb 1 (flag t.signaled) (flag-few t.signaled),
        le-ltb 1 (flag t.inserted) (flag-few t.inserted),
        le-leb (flag t.absolute) 1 (flag-few t.absolute),
      )

  times-pass : (made : ℕ) → get_or w at.timer_initializations 0 ≡ made → TimerFits made (timer t) → timer_times w place ≡ true
  unfolding timer_times
  times-pass made e h =
      simp (
        r 7 t.period_ms refl,
        r 11 t.initialization refl,
        e,
        le-ltb 2147483647 t.period_ms h.0,
        ne_eqb t.initialization 0 (λ q. omega (arith, q, h.1)),
        le-leb t.initialization made h.2,
      )

  placed-passes : Placed (timer t) → timer_placed w place ≡ true
  unfolding timer_placed
  placed-passes h =
      ap (λ (n : ℕ). located w place at.timer_architecture (timer_size (architecture_of n))) (r 12 (architecture_number t.architecture) refl)
      ∙ ap (λ x. located w place at.timer_architecture (timer_size x)) (architecture-read t.architecture)
      ∙ located-is w place 12 t.address (timer_size t.architecture) t.architecture t.backing (first_word w place t.address (r 0 t.address refl))
      (r 12 (architecture_number t.architecture) refl) (r 13 (backing_kind t.backing) refl) (r 14 (backing_base t.backing) refl)
      (r 15 (backing_size t.backing) refl) (r 16 (backing_mapped t.backing) refl) h

  pub timer-numbers : (made : ℕ) → get_or w at.timer_initializations 0 ≡ made → TimerFits made (timer t) → Placed (timer t) → timer_numbers w place ≡ true
  unfolding timer_numbers
  timer-numbers made e h p = simp (flags-pass, times-pass made e h, placed-passes p)

-- ---- the DPC of an inserted timer

-- the first that passes a test that one of them passes
pub first-passing : {A : Type 0} (f : A → Bool) (l : List A) (x : A) → Mem x l → f x ≡ true → (y : A) × (first_of f l ≡ some y) × (Mem y l) × (f y ≡ true)
first-passing f [] x m e = absurd m
first-passing {A} f (z ∷ l) x m e = go (f z) refl m (first-passing f l x)
  where
    go : (b : Bool) → f z ≡ b → Mem x (z ∷ l) → (Mem x l → f x ≡ true → (y : A) × (first_of f l ≡ some y) × (Mem y l) × (f y ≡ true))
        → (y : A) × (first_of f (z ∷ l) ≡ some y) × (Mem y (z ∷ l)) × (f y ≡ true)
    go true q m ih = (z, ap (λ (b : Bool). cond b (some z) (first_of f l)) q, inl refl, q)
    go false q (inl r) ih = absurd (not-both (sym e ∙ ap f r ∙ q))
    go false q (inr m) ih =
        let h = ih m e in
        (h.0, ap (λ (b : Bool). cond b (some z) (first_of f l)) q ∙ h.1, inr h.2, h.3)

-- the first that passes a test passes it
pub first-is : {A : Type 0} (f : A → Bool) (l : List A) (y : A) → first_of f l ≡ some y → (Mem y l) × (f y ≡ true)
first-is f [] y e = absurd (none-some y e)
first-is {A} f (z ∷ l) y e = go (f z) refl e (first-is f l y)
  where
    go : (b : Bool) → f z ≡ b → cond b (some z) (first_of f l) ≡ some y → (first_of f l ≡ some y → (Mem y l) × (f y ≡ true)) → (Mem y (z ∷ l)) × (f y ≡ true)
    go true q h ih = let r : z ≡ y = some_same z y h in (inl (sym r), ap f (sym r) ∙ q)
    go false q h ih = let r = ih h in (inr r.0, r.1)

-- whom a test for holding passes
pub holds-both : (a : ℕ) (t : Timer) → holds a t ≡ true → (t.inserted ≡ true) × (t.dpc ≡ a)
holds-both a t e = go t.inserted refl e
  where
    go : (b : Bool) → t.inserted ≡ b → cond b (eqb t.dpc a) false ≡ true → (t.inserted ≡ true) × (t.dpc ≡ a)
    go true q h = (q, eqb-true t.dpc a h)
    go false q h = absurd (not-both (sym h))

module _ (w : List ℕ) (s : State) (a : Agree w s) (v : Form s) where
  timer-found : (t : Timer) → Mem t (timers_of s.dispatcher.objects) → object_at s.dispatcher.objects t.address ≡ some (timer t)
  timer-found t m = mem-found key_of s.dispatcher.objects v.sound.rising (timer t) (mem-timer s.dispatcher.objects t m)

  -- an inserted timer's DPC says that the timer has it
  holder-is : (t : Timer) → Mem t (timers_of s.dispatcher.objects) → t.inserted ≡ true → (t.dpc ≡ 0 → ⊥) → holder_of s.dispatcher.objects t.dpc ≡ t.address
  holder-is t m e q = go (first-passing (holds t.dpc) (timers_of s.dispatcher.objects) t m own)
    where
      own : holds t.dpc t ≡ true
      own = ap (λ (b : Bool). cond b (eqb t.dpc t.dpc) false) e ∙ eq-eqb t.dpc t.dpc refl

      go : ((u : Timer) × (first_of (holds t.dpc) (timers_of s.dispatcher.objects) ≡ some u) × (Mem u (timers_of s.dispatcher.objects)) × (holds t.dpc u ≡ true))
          → holder_of s.dispatcher.objects t.dpc ≡ t.address
      go (u, f, k, h) =
          ap (λ (o : Option Timer). given o 0 (λ (x : Timer). x.address)) f
          ∙ sym (v.linked.alone t.address (timer t) (timer-found t m) u.address (timer u) (timer-found u k) e (holds-both t.dpc u h).0 q (sym (holds-both t.dpc u h).1))

  serves : (t : Timer) → Mem t (timers_of s.dispatcher.objects) → t.inserted ≡ true → (t.dpc ≡ 0 → ⊥) → serves_it w t.dpc t.address ≡ true
  unfolding serves_it
  serves t m e q = go (present-some s.dpcs.table t.dpc (v.linked.served t.address (timer t) (timer-found t m) e q))
    where
      go : ((d : Dpc) × (dpc_at s.dpcs.table t.dpc ≡ some d)) → serves_it w t.dpc t.address ≡ true
      go (d, f) =
          let h = holder_of s.dispatcher.objects in
          let act = active_address s.dpcs.table in
          let place = dpcs_from s.limits + 32 * below address_of t.dpc s.dpcs.table in
          let own = ap h (found address_of s.dpcs.table t.dpc d f).1 ∙ holder-is t m e q in
          simp (
            dpc-place w s h act a t.dpc d f,
            ne_eqb place 0 (λ z. omega arith),
            dpc-row w s h act a t.dpc d f 3 (h d.address) refl,
            eq-eqb (h d.address) t.address own,
          )

  pub dpc-serves : (place : ℕ) (t : Timer) → Row w place (timer_row t) → Mem t (timers_of s.dispatcher.objects) → dpc_serves w place ≡ true
  unfolding dpc_serves
  dpc-serves place t r m =
      simp (r 1 2 refl, r 5 (flag t.inserted) refl, r 8 t.dpc refl, first_word w place t.address (r 0 t.address refl), go t.inserted refl)
    where
      last : t.inserted ≡ true → (b : Bool) → eqb t.dpc 0 ≡ b → cond b true (serves_it w t.dpc t.address) ≡ true
      last e true q = refl
      last e false q = serves t m e (eqb-false t.dpc 0 q)

      go : (b : Bool) → t.inserted ≡ b → cond (eqb (flag t.inserted) 0) true (cond (eqb t.dpc 0) true (serves_it w t.dpc t.address)) ≡ true
      go false e = ap (λ (b : Bool). cond (eqb (flag b) 0) true (cond (eqb t.dpc 0) true (serves_it w t.dpc t.address))) e
      go true e = ap (λ (b : Bool). cond (eqb (flag b) 0) true (cond (eqb t.dpc 0) true (serves_it w t.dpc t.address))) e ∙ last e (eqb t.dpc 0) refl

  -- a DPC names an inserted timer that has it
  pub holder-passes : (address : ℕ) (t : Timer) → first_of (holds address) (timers_of s.dispatcher.objects) ≡ some t
      → cond (eqb (place_of w 2 t.address) 0) false (has_dpc w (place_of w 2 t.address) address) ≡ true
  unfolding has_dpc
  holder-passes address t e =
      let h = first-is (holds address) (timers_of s.dispatcher.objects) t e in
      let both = holds-both address t h.1 in
      let f = timer-found t h.0 in
      let place = objects_from s.limits + 32 * below key_of t.address s.dispatcher.objects in
      let r = object-row w s (holder_of s.dispatcher.objects) (active_address s.dpcs.table) a t.address (timer t) f in
      simp (
        object-place w s (holder_of s.dispatcher.objects) (active_address s.dpcs.table) a t.address (timer t) f,
        ne_eqb place 0 (λ z. omega arith),
        r 5 (flag t.inserted) refl,
        both.0,
        r 8 t.dpc refl,
        eq-eqb t.dpc address both.1,
      )
