-- With an architecture or a kind that is neither 0 nor 1 nothing can stand in the memory, so that the table refuses the call; with 0 and 1 it is the memory that was given.
use Prim.Native.Nat.{ℕ, ◌≤◌, ◌<◌}
use mathlib.Core.Bool.{Bool, true, false, cond}
use mathlib.Core.Path.{◌≡◌, refl}
use mathlib.Core.Logic.{◌⊎◌, inl, inr}
use native.Mathlib.Omega.{arith}
use lib.Dec.{leb, ltb}
use lib.ListN.{length}
use borrow.Author.Tests.{lt-ltb, le-ltb}
use Rattle.arch.specs.declared.Architecture.{Architecture}
use Rattle.arch.specs.declared.Architecture.TheVariants.{X64, X86}
use Rattle.images.specs.declared.TimerBacking.{TimerBacking}
use Rattle.images.specs.declared.TimerBacking.TheVariants.{Image, NonpagedPool}
use Rattle.images.specs.Place.{architecture_number, backing_kind, backing_base, backing_size, backing_mapped, backing_of, timer_size, dpc_size, location_refusal}
use Rattle.images.proofs.PlaceLaws.{Located, located, refused-15}
use Rattle.model.specs.State.{State}
use Rattle.model.specs.Lists.{present}
use Rattle.model.specs.Waits.{object_at}
use Rattle.model.specs.Dpcs.{dpc_at, phase_at, is_busy}
use Rattle.model.specs.Timers.{lifetime, is_named}
use Rattle.model.specs.Refusal.{collides, is_full, is_inserted, is_waited_on, place_refusal, timer_refusal, dpc_refusal}
use Rattle.model.specs.Call as call
use Rattle.model.specs.Step.{refusal}
use Rattle.backings.specs.Lent.{nowhere, lent_backing}

-- ---- numbers that stand for nothing

nothing-stands : (address bytes : ℕ) (a : Architecture) → location_refusal address bytes a nowhere ≡ 15
nothing-stands address bytes a =
    refused-15 address bytes a nowhere (λ e. let l : Located address bytes a nowhere = located address bytes a nowhere e in omega (arith, l.some, l.within))

-- a row of the table that ends in 15 accepts nothing, and is 15 where it ended in acceptance
abbrev row : Bool → Bool → Bool → Bool → Bool → ℕ → ℕ → ℕ → ℕ
row p q r t u m n x = cond p 5 (cond q 4 (cond r 14 (cond t m (cond u n x))))

never : (p q r t u : Bool) (m n : ℕ) → 0 < m → 0 < n → row p q r t u m n 15 ≡ 0 → ⊥
never true q r t u m n hm hn e = omega arith
never false true r t u m n hm hn e = omega arith
never false false true t u m n hm hn e = omega arith
never false false false true u m n hm hn e = omega arith
never false false false false true m n hm hn e = omega arith
never false false false false false m n hm hn e = omega arith

instead : (p q r t u : Bool) (m n x : ℕ) → 0 < m → 0 < n → row p q r t u m n x ≡ 0 → row p q r t u m n 15 ≡ 15
instead true q r t u m n x hm hn e = absurd (omega arith)
instead false true r t u m n x hm hn e = absurd (omega arith)
instead false false true t u m n x hm hn e = absurd (omega arith)
instead false false false true u m n x hm hn e = absurd (omega arith)
instead false false false false true m n x hm hn e = absurd (omega arith)
instead false false false false false m n x hm hn e = refl

module _ (architecture kind base size mapped : ℕ) (wrong : (1 < architecture) ⊎ (1 < kind)) where
  lent : TimerBacking
  lent = lent_backing architecture kind base size mapped

  is-nowhere : lent ≡ nowhere
  unfolding lent lent_backing
  is-nowhere = go wrong
    where
      either : (b : Bool) → cond b nowhere nowhere ≡ nowhere
      either true = refl
      either false = refl

      go : (1 < architecture) ⊎ (1 < kind) → lent_backing architecture kind base size mapped ≡ nowhere
      go (inl h) = simp (lt-ltb 1 architecture h)
      go (inr h) = simp (lt-ltb 1 kind h) (either (ltb 1 architecture))

  -- no address is a place for a timer, a DPC or any number of bytes
  pub no_place : (address bytes : ℕ) (a : Architecture) → location_refusal address bytes a (lent_backing architecture kind base size mapped) ≡ 15
  unfolding lent
  no_place address bytes a = rw is-nowhere (nothing-stands address bytes a)

  place-15 : (s : State) (address bytes : ℕ) (a : Architecture) → place_refusal s address bytes a (lent_backing architecture kind base size mapped) ≡ 15
  unfolding place_refusal
  place-15 s address bytes a = rw (no_place address bytes a)

  module _ (s : State) (address : ℕ) (a : Architecture) where
    -- the log never accepts the call
    pub no-timer : (manual : Bool) → refusal (call.InitializeTimer address a (lent_backing architecture kind base size mapped) manual) s ≡ 0 → ⊥
    unfolding refusal timer_refusal
    no-timer manual e =
        never (collides s 2 address) (is_full s address) (leb lifetime s.timer_initializations) (is_inserted s.dispatcher.objects address) (is_waited_on s 2 address) 6 6 (omega arith) (omega arith)
        (rw (place-15 s address (timer_size a) a) at e)

    pub no-dpc : (routine context : ℕ) → refusal (call.InitializeDpc address a (lent_backing architecture kind base size mapped) routine context) s ≡ 0 → ⊥
    unfolding refusal dpc_refusal
    no-dpc routine context e =
        never (present (object_at s.dispatcher.objects address)) (cond (present (dpc_at s.dpcs.table address)) false (leb s.limits.dpcs (length s.dpcs.table))) (leb lifetime s.dpc_initializations) (is_busy (phase_at s.dpcs.table address)) (is_named s.dispatcher.objects address) 19 19 (omega arith) (omega arith)
        (rw (place-15 s address (dpc_size a) a) at e)

    -- and refuses it with 15 where it accepts the same call with some architecture and memory
    pub timer-15 : (b : Architecture) (memory : TimerBacking) (manual : Bool) → refusal (call.InitializeTimer address b memory manual) s ≡ 0
        → refusal (call.InitializeTimer address a (lent_backing architecture kind base size mapped) manual) s ≡ 15
    unfolding refusal timer_refusal
    timer-15 b memory manual e =
        rw (place-15 s address (timer_size a) a)
        (instead (collides s 2 address) (is_full s address) (leb lifetime s.timer_initializations) (is_inserted s.dispatcher.objects address) (is_waited_on s 2 address) 6 6 _ (omega arith) (omega arith) e)

    pub dpc-15 : (b : Architecture) (memory : TimerBacking) (routine context : ℕ) → refusal (call.InitializeDpc address b memory routine context) s ≡ 0
        → refusal (call.InitializeDpc address a (lent_backing architecture kind base size mapped) routine context) s ≡ 15
    unfolding refusal dpc_refusal
    dpc-15 b memory routine context e =
        rw (place-15 s address (dpc_size a) a)
        (instead (present (object_at s.dispatcher.objects address)) (cond (present (dpc_at s.dpcs.table address)) false (leb s.limits.dpcs (length s.dpcs.table))) (leb lifetime s.dpc_initializations) (is_busy (phase_at s.dpcs.table address)) (is_named s.dispatcher.objects address) 19 19 _ (omega arith) (omega arith) e)

-- ---- 0 and 1

pub image-given : (architecture base size mapped : ℕ) → architecture ≤ 1 → lent_backing architecture 0 base size mapped ≡ Image base size
unfolding lent_backing backing_of
image-given architecture base size mapped h = simp (le-ltb 1 architecture h)

pub pool-given : (architecture base size mapped : ℕ) → architecture ≤ 1 → lent_backing architecture 1 base size mapped ≡ NonpagedPool base size mapped
unfolding lent_backing backing_of
pool-given architecture base size mapped h = simp (le-ltb 1 architecture h)

-- the numbers that a record of an architecture and a backing has tell that backing
pub given_back : (a : Architecture) (b : TimerBacking) → lent_backing (architecture_number a) (backing_kind b) (backing_base b) (backing_size b) (backing_mapped b) ≡ b
unfolding lent_backing backing_of
given_back X64 (Image base size) = refl
given_back X64 (NonpagedPool base requested mapped) = refl
given_back X86 (Image base size) = refl
given_back X86 (NonpagedPool base requested mapped) = refl
