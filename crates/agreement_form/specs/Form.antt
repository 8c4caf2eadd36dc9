-- Document 01's form, said of a state: "Words are in form if ..". It is `Valid` without what the check does not test, for it
-- comes of calls alone: that no waiter could be satisfied (`quiet`), that no deadline is past (`in_time`), that the DPC queue stands by
-- acceptance (`by_acceptance`), and that queued work of an inserted timer's DPC is that timer's own (in `served`).
use Rattle.std.specs.Prelude.{ℕ, ◌+◌, ◌≤◌, List, true, false, ◌≡◌, length}
use Rattle.images.specs.declared.Dpc.{Dpc}
use Rattle.model.specs.Lists.{Distinct, member, present}
use Rattle.model.specs.Table.{find, Rising}
use Rattle.model.specs.State.{State, Object, Counters}
use Rattle.model.specs.Waits.{key_of, on_timer}
use Rattle.model.specs.Dpcs.{address_of, dpc_at, phase_at, is_queued}
use Rattle.model.specs.Timers.{lifetime}
use Rattle.model.specs.Valid.{LimitsValid, Sound, Each, DpcPlaced, work_at, active_count, returning_count, Alone, PolicyValid}
use Rattle.model.specs.Fits.{Numbers}

-- the DPCs, their queue and their counts
pub record QueueForm (limit : ℕ) (table : List Dpc) (queue : List ℕ) (c : Counters) : Type 0 where
  pub rising : Rising address_of table
  pub room : length table ≤ limit
  pub places : Each address_of table DpcPlaced
  pub queued : (a : ℕ) → member a queue ≡ is_queued (phase_at table a)
  pub once : Distinct queue
  pub given_out : (a : ℕ) → work_at table a ≤ c.accepted
  pub lived : c.accepted ≤ lifetime
  pub sum : c.accepted ≡ c.removed + c.restored + length queue + active_count table
  pub starts : c.started ≡ c.restored + active_count table
  pub one_active : active_count table ≤ 1
  pub returns : c.returned ≡ c.restored + returning_count table

-- "an inserted timer's DPC, if any, exists"
abbrev pub Exists : List Dpc → Object → Type 0
Exists table = on_timer Unit (λ t. t.inserted ≡ true → (t.dpc ≡ 0 → ⊥) → present (dpc_at table t.dpc) ≡ true)

-- timers and DPCs together
pub record LinkForm (objects : List Object) (table : List Dpc) : Type 0 where
  pub served : Each key_of objects (Exists table)
  pub alone : Each key_of objects (λ x. Each key_of objects (λ y. Alone x y))
  pub apart : (k : ℕ) → present (find key_of objects k) ≡ true → present (dpc_at table k) ≡ false

-- a state in form
pub record Form (s : State) : Type 0 where
  pub limits : LimitsValid s.limits
  pub sound : Sound s.limits s.dispatcher
  pub queueing : QueueForm s.limits.dpcs s.dpcs.table s.dpcs.queue s.dpcs.counters
  pub linked : LinkForm s.dispatcher.objects s.dpcs.table
  pub policy : PolicyValid s.policy
  pub timers_lived : s.timer_initializations ≤ lifetime
  pub dpcs_lived : s.dpc_initializations ≤ lifetime
  pub numbers : Numbers s
