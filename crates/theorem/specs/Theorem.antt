-- The statement of the theorem: what holds after ANY list of calls that begins with a start that the table accepts, over ANY lent
-- words. The log is told the calls alone; the words are what the code keeps.
use Rattle.std.specs.Prelude.{ℕ, ◌≤◌, List, ◌∷◌, true, false, ◌≡◌, length, get_or}
use Rattle.words.specs.Layout as at
use Rattle.chains.specs.Ready.{waiters_chain}
use Rattle.form.specs.Form.{in_form}
use Rattle.calls.specs.Run.{answered, left}
use Rattle.model.specs.Lists.{is_empty}
use Rattle.model.specs.State.{State}
use Rattle.model.specs.Choice.{Right}
use Rattle.model.specs.Answer.{Done, Run}
use Rattle.model.specs.Call.{Call, Dispatch}
use Rattle.model.specs.Step as log
use Rattle.model.specs.Start.{Start, first_call, begun}
use Rattle.model.specs.Valid.{Valid}
use Rattle.agreement_chains.specs.Chains.{Holds}
use Rattle.agreement_chains.specs.Ready.{ReadyQueues}
use Rattle.agreement.specs.Records.{numbers_in, active_address}
use Rattle.agreement.specs.Chains.{queues_of, queue_from}
use Rattle.agreement.specs.Agree.{dpcs_from, Agree}
use Rattle.theorem.specs.History.{answers_on, words_after}

module _ (w : List ℕ) (start : Start) (calls : List Call) where
  -- the log's state at the end
  abbrev pub logged : State
  logged = log.after calls (begun start)

  -- the words at the end: the first call on the lent words, then the calls
  abbrev pub end : List ℕ
  end = words_after w (first_call (length w) start ∷ calls)

  pub record Theorem : Type 0 where
    -- the answers are the log's, so the refused calls are exactly those that the table refuses over the log, by its numbers
    pub answers : answers_on w (first_call (length w) start ∷ calls) ≡ Done ∷ log.answers calls (begun start)
    -- the ready queue of each priority, with the ready word, holds the placed threads of that priority in the order of their placing
    pub ready : ReadyQueues end (queues_of logged.dispatcher.threads logged.dispatcher.placed)
    -- with none current and some thread placed, a dispatch on an output that is long enough runs, of the highest priority, the thread
    -- placed earliest, and the words say that it is current
    pub runs : (n : ℕ) → logged.limits.threads ≤ n → logged.dispatcher.current ≡ 0 → is_empty logged.dispatcher.placed ≡ false
        → (i : ℕ) × (answered end (Dispatch n) ≡ Run i) × (Right logged.dispatcher i) × (get_or (left end (Dispatch n)) at.current 0 ≡ i)
    -- the waiters' chain holds the waiting threads in the order of blocking
    pub waiters : Holds end waiters_chain logged.dispatcher.waiters
    -- the DPC queue holds the queued DPCs in their order, by their numbers
    pub queue : Holds end (queue_from (dpcs_from logged.limits)) (numbers_in logged.dpcs.table logged.dpcs.queue)
    -- the DPC whose work is active
    pub active : get_or end at.active 0 ≡ active_address logged.dpcs.table
    -- every count
    pub accepted : get_or end at.accepted 0 ≡ logged.dpcs.counters.accepted
    pub duplicates : get_or end at.duplicates 0 ≡ logged.dpcs.counters.duplicates
    pub removed : get_or end at.removed 0 ≡ logged.dpcs.counters.removed
    pub started : get_or end at.started 0 ≡ logged.dpcs.counters.started
    pub returned : get_or end at.returned 0 ≡ logged.dpcs.counters.returned
    pub restored : get_or end at.restored 0 ≡ logged.dpcs.counters.restored
    pub timers-made : get_or end at.timer_initializations 0 ≡ logged.timer_initializations
    pub dpcs-made : get_or end at.dpc_initializations 0 ≡ logged.dpc_initializations
    -- and all the rest: current thread, time, threads with their waits, objects, DPCs with their work
    pub all : Agree end logged
    -- the words pass the form check, and the log's state is valid: demand 3's clauses hold of it
    pub in-form : in_form end ≡ true
    pub valid : Valid logged
