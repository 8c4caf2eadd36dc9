-- A count of the header raised by one; where the record of a DPC stands, by its number.
use Prim.Native.Nat.{ℕ, ◌+◌, ◌-◌, ◌*◌, ◌%◌, ◌^◌, ◌≤◌, ◌<◌}
use mathlib.Core.List.{List, [], ◌∷◌}
use mathlib.Core.Bool.{cond}
use mathlib.Core.Option.{some}
use mathlib.Core.Path.{◌≡◌, sym, ap, ◌∙◌}
use native.Mathlib.Omega.{arith}
use native.Mathlib.Nat.{mod-eq_of_lt}
use lib.ListN.{get_or, set}
use Rattle.images.specs.declared.Dpc.{Dpc}
use Rattle.images.specs.declared.DpcPhase.{DpcPhase}
use Rattle.images.specs.declared.DpcPhase.TheVariants.{Idle, Queued, Running, Returning}
use Rattle.objects.specs.Objects.{dpc_found}
use Rattle.dpc_queue.specs.Queue.{raised}
use Rattle.dpcs.specs.Record.{place_at, number_of}
use Rattle.model.specs.State.{State, Dpcs}
use Rattle.model.specs.Dpcs.{address_of, dpc_at, is_active, is_returning}
use Rattle.model.specs.Timers.{most}
use Rattle.model.specs.Valid.{Queueing, active_count, returning_count}
use Rattle.agreement_tables.specs.Tables.{below}
use Rattle.agreement_tables.proofs.Lists.{find-in}
use Rattle.agreement.specs.Records.{number_in}
use Rattle.agreement.specs.Agree.{dpcs_from, Agreeing}
use Rattle.agreement.proofs.Lookups.{place_is, dpc-place, dpc-number}

pub one_more : (n : ℕ) → n < 2 ^ 64 - 1 → (n + 1) % 2 ^ 64 ≡ n + 1
one_more n h = mod-eq_of_lt (omega (arith, h))

pub raised_is : (w : List ℕ) (k n : ℕ) → get_or w k 0 ≡ n → n < 2 ^ 64 - 1 → raised w k ≡ set w k (n + 1)
unfolding raised
raised_is w k n e h = ap (λ (v : ℕ). set w k ((v + 1) % 2 ^ 64)) e ∙ ap (set w k) (one_more n h)

-- ---- counts of a valid state are far from their end

module _ (limit : ℕ) (q : Dpcs) (v : Queueing limit q.table q.queue q.counters) where
  pub few-accepted : q.counters.accepted ≤ 65536
  few-accepted = v.lived

  pub few-removed : q.counters.removed < most
  few-removed = omega (arith, v.lived, v.sum)

  pub few-restored : q.counters.restored < most
  few-restored = omega (arith, v.lived, v.sum)

  pub few-started : q.counters.started < most
  few-started = omega (arith, v.lived, v.sum, v.starts)

  pub few-returned : q.counters.returned < most
  few-returned = omega (arith, v.lived, v.sum, v.returns, returning-active q.table)
    where
      returning-active : (l : List Dpc) → returning_count l ≤ active_count l
      returning-active [] = omega arith
      returning-active (d ∷ l) = go d.phase (returning-active l)
        where
          go : (p : DpcPhase) → returning_count l ≤ active_count l → cond (is_returning p) 1 0 + returning_count l ≤ cond (is_active p) 1 0 + active_count l
          go Idle h = omega arith
          go (Queued x) h = omega arith
          go (Running x) h = omega arith
          go (Returning x) h = omega arith

-- ---- the record of a known DPC

module _ (w : List ℕ) (s : State) (holder : ℕ → ℕ) (active : ℕ) (a : Agreeing w s holder active) (k : ℕ) (d : Dpc) (e : dpc_at s.dpcs.table k ≡ some d) where
  pub number_is : number_of w k ≡ number_in s.dpcs.table k
  number_is = dpc-number w s holder active a k d e ∙ (let z : below address_of k s.dpcs.table + 1 ≡ number_in s.dpcs.table k = omega arith in z)

  pub place-numbered : place_at w (number_of w k) ≡ dpcs_from s.limits + 32 * below address_of k s.dpcs.table
  place-numbered =
      ap (place_at w) (dpc-number w s holder active a k d e)
      ∙ place_is w s holder active a (below address_of k s.dpcs.table) (find-in address_of s.dpcs.table a.shape.dpcs.rising k d e)

  pub place_found : place_at w (number_of w k) ≡ dpc_found w k
  place_found = place-numbered ∙ sym (dpc-place w s holder active a k d e)
