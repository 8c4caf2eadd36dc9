-- The chains of threads, and the words after a thread is placed or taken out.
use Rattle.std.specs.Prelude.{cond, ℕ, ◌+◌, List, get_or, set, eqb, leb}
use Rattle.words.specs.Word.{with_bit, without_bit}
use Rattle.words.specs.Layout as at
use Rattle.chains.specs.declared.Chain.{Chain}
use Rattle.chains.specs.Chain.{pushed, removed}

unfoldable pub ready_chain : ℕ → Chain
ready_chain p =
    cond (leb p 31) (record { first = at.ready_first + p; last = at.ready_last + p; link = at.ready_link; stride = at.thread_size })
    (record { first = at.ready_first; last = at.ready_last; link = at.ready_link; stride = at.thread_size })

unfoldable pub waiters_chain : Chain
waiters_chain = record { first = at.waiters_first; last = at.waiters_last; link = at.waiters_link; stride = at.thread_size }

-- the bit of an empty queue set, and cleared
unfoldable pub marked : List ℕ → ℕ → List ℕ
marked w p = cond (eqb (get_or w (ready_chain p).last 0) 0) (set w at.ready (with_bit (get_or w at.ready 0) p)) w

unfoldable pub unmarked : List ℕ → ℕ → List ℕ
unmarked w p = cond (eqb (get_or w (ready_chain p).last 0) 0) (set w at.ready (without_bit (get_or w at.ready 0) p)) w

unfoldable pub placed_last : List ℕ → ℕ → ℕ → List ℕ
placed_last w p id = pushed (marked w p) (ready_chain p) id

unfoldable pub unplaced : List ℕ → ℕ → ℕ → List ℕ
unplaced w p id = unmarked (removed w (ready_chain p) id) p
