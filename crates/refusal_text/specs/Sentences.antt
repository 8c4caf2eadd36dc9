-- A sentence for each refusal.
use Rattle.std.specs.Prelude.{cond, List, ℕ, eqb}
use Rattle.script_lex.specs.Text.{bytes_of}

unfoldable pub sentence22 : ℕ → List ℕ
sentence22 n =
    cond (eqb n 22) (bytes_of "it is not the head of the queue, or has another phase or sequence")
    (cond (eqb n 23) (bytes_of "the memory cannot be given back")
    (cond (eqb n 24) (bytes_of "a count stands at 2^64 - 1")
    (cond (eqb n 25) (bytes_of "the configuration of the clock is bad")
    (cond (eqb n 26) (bytes_of "the clock would overflow")
    (cond (eqb n 27) (bytes_of "words are out of form, a slice is too short, or the limits are bad")
    (cond (eqb n 28) (bytes_of "the line cannot be read, or not here") (bytes_of "no refusal has this number")))))))

unfoldable pub sentence15 : ℕ → List ℕ
sentence15 n =
    cond (eqb n 15) (bytes_of "the location does not suit a timer or a DPC")
    (cond (eqb n 16) (bytes_of "its bytes are also another's")
    (cond (eqb n 17) (bytes_of "the period is negative")
    (cond (eqb n 18) (bytes_of "an inserted timer has the DPC")
    (cond (eqb n 19) (bytes_of "the DPC is queued, runs or returns")
    (cond (eqb n 20) (bytes_of "the policy is missing, or cannot be chosen")
    (cond (eqb n 21) (bytes_of "the queued work has another origin") (sentence22 n)))))))

unfoldable pub sentence8 : ℕ → List ℕ
sentence8 n =
    cond (eqb n 8) (bytes_of "the caller owns a mutex that it would wait for")
    (cond (eqb n 9) (bytes_of "the wait would block above IRQL 1")
    (cond (eqb n 10) (bytes_of "the owner is another, or the thread would exit while it owns a mutex")
    (cond (eqb n 11) (bytes_of "the thread has exited")
    (cond (eqb n 12) (bytes_of "time would go back")
    (cond (eqb n 13) (bytes_of "a due time would pass 2^64 - 1")
    (cond (eqb n 14) (bytes_of "there have been 65536 initializations or acceptances") (sentence15 n)))))))

unfoldable pub sentence : ℕ → List ℕ
sentence n =
    cond (eqb n 1) (bytes_of "the priority is not between 1 and 31")
    (cond (eqb n 2) (bytes_of "there is no such thread, object or DPC")
    (cond (eqb n 3) (bytes_of "no thread runs")
    (cond (eqb n 4) (bytes_of "the table is full, or the key is 0")
    (cond (eqb n 5) (bytes_of "the key belongs to something of another kind")
    (cond (eqb n 6) (bytes_of "it is owned, inserted or waited on, and cannot be initialized again")
    (cond (eqb n 7) (bytes_of "the list is empty, has more than 64 objects or one twice, or is no list of pairs") (sentence8 n)))))))
