-- The chains in form.
use Rattle.std.specs.Prelude.{Bool, cond, true, false, ℕ, zero, suc, ◌+◌, ◌-◌, List, get_or, eqb, leb}
use Rattle.words.specs.Word.{bit_at}
use Rattle.words.specs.Layout as at
use Rattle.words.specs.Layout.{thread_at}
use Rattle.chains.specs.declared.Chain.{Chain}
use Rattle.chains.specs.Chain.{first_of, next_of}
use Rattle.chains.specs.Ready.{ready_chain, waiters_chain}
use Rattle.threads.specs.Thread.{known}
use Rattle.form_dpc.specs.Queue.{chain_end}
use Rattle.form_threads.specs.Thread.{has_state, state_count}

-- ---- the waiters' sequences

-- the sequence of a waiter's wait; at the chain's end, the next to be given
unfoldable pub sequence_at : List ℕ → ℕ → ℕ
sequence_at w id = cond (eqb id 0) (get_or w at.sequence 0) (get_or w (thread_at id + at.wait_sequence) 0)

-- along at most `k` waiters from `at` on
unfoldable pub sequences_in : ℕ → List ℕ → ℕ → Bool
sequences_in zero w at = false
sequences_in (suc k) w at =
    let next = next_of w waiters_chain at in
    cond (eqb at 0) true (cond (leb (sequence_at w next) (sequence_at w at)) false (sequences_in k w next))

-- document 01: wait sequences are distinct and below the next, for they rise along the waiters' chain and up to the next
unfoldable pub sequences_rise : List ℕ → Bool
sequences_rise w = sequences_in 4096 w (first_of w waiters_chain)

-- ---- members

-- 0 stands for any priority
unfoldable pub has_priority : List ℕ → ℕ → ℕ → Bool
has_priority w id p = cond (eqb p 0) true (eqb (get_or w (thread_at id + at.priority) 0) p)

-- a thread that may stand in a chain of threads of this state and priority
unfoldable pub member_passes : List ℕ → ℕ → ℕ → ℕ → Bool
member_passes w id state p = cond (known w id) (cond (has_state w id state) (has_priority w id p) false) false

-- at most `k` threads from `at` on, with `before` before it and `n` counted; 0 where the chain is out of form
unfoldable pub chain_in : ℕ → List ℕ → Chain → ℕ → ℕ → ℕ → ℕ → ℕ → ℕ
chain_in zero w c state p before at n = 0
chain_in (suc k) w c state p before at n =
    cond (eqb at 0) (chain_end w c before n) (cond (member_passes w at state p) (chain_in k w c state p at (next_of w c at) (n + 1)) 0)

-- 0 where a chain is out of form, else one more than how many stand in it
unfoldable pub chain_size : List ℕ → Chain → ℕ → ℕ → ℕ
chain_size w c state p = chain_in 4096 w c state p 0 (first_of w c) 1

-- it holds as many as wait
abbrev pub waiters_stand_as : List ℕ → ℕ → Bool
waiters_stand_as w waiting = eqb (chain_size w waiters_chain 3 0) (waiting + 1)

-- document 01: each chain holds exactly its members once, of the waiters' chain
unfoldable pub waiters_stand_once : List ℕ → Bool
waiters_stand_once w = waiters_stand_as w (state_count w 3)

-- ---- the ready queues

unfoldable pub flag : ℕ → ℕ
flag id = cond (eqb id 0) 0 1

-- the bit of priority `p` is set exactly if its queue has a last thread
unfoldable pub bit_passes : List ℕ → ℕ → Bool
bit_passes w p = eqb (bit_at (get_or w at.ready 0) p) (flag (get_or w (ready_chain p).last 0))

unfoldable pub queue_size : List ℕ → ℕ → ℕ
queue_size w p = chain_size w (ready_chain p) 2 p

-- the `k` queues from priority `p` on, with `n` counted; 0 where one is out of form
unfoldable pub queues_in : ℕ → List ℕ → ℕ → ℕ → ℕ
queues_in zero w p n = n
queues_in (suc k) w p n =
    cond (eqb (queue_size w p) 0) 0 (cond (bit_passes w p) (queues_in k w (p + 1) (n + (queue_size w p - 1))) 0)

unfoldable pub ready_size : List ℕ → ℕ
ready_size w = queues_in 31 w 1 1

-- they hold as many as are ready
abbrev pub ready_stand_as : List ℕ → ℕ → Bool
ready_stand_as w ready = eqb (ready_size w) (ready + 1)

-- document 01: each chain holds exactly its members once, of the ready queues
unfoldable pub ready_stand_once : List ℕ → Bool
ready_stand_once w = ready_stand_as w (state_count w 2)
