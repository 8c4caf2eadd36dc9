-- The DPC queue in form.
use Rattle.std.specs.Prelude.{Bool, cond, false, ℕ, zero, suc, ◌+◌, List, Option, Some, None, get_or, eqb, ltb}
use Rattle.chains.specs.declared.Chain.{Chain}
use Rattle.chains.specs.Chain.{first_of, next_of}
use Rattle.dpcs.specs.Record.{dpc_count, place_at, queue_chain}
use Rattle.form_dpc.specs.Dpc.{has_phase, phase_count}

-- how many stand in a chain, from one more than that; none where the chain is out of form, which is 0
unfoldable pub counted : ℕ → Option ℕ
counted zero = None
counted (suc n) = Some n

-- the chain ends behind `before`, with `n` counted; 0 where its last is another
unfoldable pub chain_end : List ℕ → Chain → ℕ → ℕ → ℕ
chain_end w c before n = cond (eqb (get_or w c.last 0) before) n 0

-- `n`, not 0, is the number of a queued DPC
unfoldable pub queued_at : List ℕ → ℕ → Bool
queued_at w n = cond (ltb (dpc_count w) n) false (has_phase w (place_at w n) 1)

-- at most `k` steps from `at` on, with `before` before it and `n` counted; 0 where the chain is out of form
unfoldable pub queue_in : ℕ → List ℕ → Chain → ℕ → ℕ → ℕ → ℕ
queue_in zero w c before at n = 0
queue_in (suc k) w c before at n =
    cond (eqb at 0) (chain_end w c before n) (cond (queued_at w at) (queue_in k w c at (next_of w c at) (n + 1)) 0)

-- 0 where the queue is out of form, else one more than how many stand in it; 4096 may stand in it, and one step sees its end
unfoldable pub queue_size : List ℕ → ℕ
queue_size w = queue_in 4097 w (queue_chain w) 0 (first_of w (queue_chain w)) 1

-- it holds as many as are queued
abbrev pub queue_stands_as : List ℕ → ℕ → Bool
queue_stands_as w queued = eqb (queue_size w) (queued + 1)

-- document 01: each chain holds exactly its members once, of the DPC queue
unfoldable pub queue_stands_once : List ℕ → Bool
queue_stands_once w = queue_stands_as w (phase_count w 1)
