-- The counts of DPC work beside the queue and the active work, by what the code's reads answer.
use Rattle.std.specs.Prelude.{ℕ, ◌+◌, ◌<◌, List, cond, ◌⊎◌, ◌≡◌}
use Rattle.images.specs.declared.Dpc.{Dpc}
use Rattle.calls.specs.Run.{answered}
use Rattle.model.specs.State.{Counters}
use Rattle.model.specs.Dpcs.{is_returning}
use Rattle.model.specs.Answer.{None, DpcIs, CountersAre}
use Rattle.model.specs.Call as call
use Rattle.corollaries.specs.Reads.{QueueRead}

-- `queued_dpcs` answers an address at every position below `n`, and none at `n`
pub record QueueLength (w : List ℕ) (n : ℕ) : Type 0 where
  pub below : (k : ℕ) → k < n → (a : ℕ) × QueueRead w k a
  pub end : answered w (call.Reads (call.QueuedDpcs n)) ≡ None

-- `active_dpc` answers none: no work is active; or a DPC: one is, and it may be returning
abbrev pub ActiveWork : List ℕ → ℕ → ℕ → Type 0
ActiveWork w active returning =
    ((answered w (call.Reads call.ActiveDpc) ≡ None) × (active ≡ 0) × (returning ≡ 0))
    ⊎ ((x : Dpc) × (answered w (call.Reads call.ActiveDpc) ≡ DpcIs x) × (active ≡ 1) × (returning ≡ cond (is_returning x.phase) 1 0))

-- what `dpc_counters` answers adds up
pub record Counted (w : List ℕ) : Type 0 where
  pub counters : Counters
  pub read : answered w (call.Reads call.DpcCounters) ≡ CountersAre counters
  pub queued : ℕ
  pub queue : QueueLength w queued
  pub active : ℕ
  pub returning : ℕ
  pub work : ActiveWork w active returning
  -- acceptances = removals + restorations + queued + active work
  pub acceptances : counters.accepted ≡ counters.removed + counters.restored + queued + active
  -- starts less restorations is the active work; returns less restorations the returning work
  pub starts : counters.started ≡ counters.restored + active
  pub returns : counters.returned ≡ counters.restored + returning
