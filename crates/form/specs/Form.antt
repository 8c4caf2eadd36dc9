-- Words in form, by the clauses of document 01, section "Limits". `threads_pass`, `objects_pass` and `dpcs_pass` test each record for
-- the clauses about a thread, an object and a DPC; that threads number 1 upward is so by their records' places.
-- Beside the clauses words that say nothing hold 0, so that words in form are exactly those of the states in form.
use Rattle.std.specs.Prelude.{Bool, cond, false, ℕ, List, Result, Ok, Err}
use Rattle.answers.specs.declared.error.SchedulerError.{SchedulerError}
use Rattle.answers.specs.declared.error.SchedulerError.TheVariants as error
use Rattle.form_dpc.specs.Dpc.{dpcs_pass}
use Rattle.form_dpc.specs.Queue.{queue_stands_once}
use Rattle.form_dpc.specs.Counts.{sum_holds, starts_pass, returns_pass}
use Rattle.form.specs.Header.{limits_pass, long_enough, header_numbers}
use Rattle.form_threads.specs.Thread.{threads_pass}
use Rattle.form.specs.Object.{objects_pass}
use Rattle.form_chains.specs.Chain.{sequences_rise, waiters_stand_once, ready_stand_once}

unfoldable pub in_form : List ℕ → Bool
in_form w =
    cond (limits_pass w)
    (cond (long_enough w)
    (cond (header_numbers w)
    (cond (threads_pass w)
    (cond (objects_pass w)
    (cond (dpcs_pass w)
    (cond (sequences_rise w)
    (cond (waiters_stand_once w)
    (cond (ready_stand_once w)
    (cond (queue_stands_once w)
    (cond (sum_holds w)
    (cond (starts_pass w) (returns_pass w) false) false) false) false) false) false) false) false) false) false) false) false

-- words out of form are refused with 27
unfoldable pub checked : List ℕ → Result (Unit {0}) SchedulerError
checked w = cond (in_form w) (Ok tt) (Err error.OutOfForm)
