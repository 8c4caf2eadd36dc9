-- What a dispatch leaves of its output: all of it, but for the numbers that a deadlock gives, which stand at its head.
use Prim.Native.Nat.{ℕ, zero, suc, ◌+◌, ◌≤◌}
use mathlib.Core.Bool.{Bool, true, false, cond}
use mathlib.Core.Path.{◌≡◌, refl, ◌∙◌}
use mathlib.Core.List.{List}
use native.Mathlib.Omega.{arith}
use lib.Dec.{eqb, ltb}
use lib.ListN.{length, get_or, set, length-set}
use lib.Seq.{get_or-set_other}
use borrow.Author.Tests.{eqb-true}
use Rattle.std.specs.Prelude.{is_some, unwrap_or}
use Rattle.words.specs.Word.{top_bit}
use Rattle.words.specs.Layout as at
use Rattle.answers.specs.declared.Answer.{Answer}
use Rattle.answers.specs.declared.Answer.TheVariants as answer
use Rattle.threads.specs.Thread.{thread_count}
use Rattle.dispatcher.specs.Dispatch.{told, ran, is_waiting, noted, noted_to, listed_in, listed_to_in, listed, listed_to}
use Rattle.dispatcher.specs.TimerDue.{next_time}
use Rattle.dispatcher.specs.Dispatched.{dispatched}
use Rattle.dispatcher.specs.Left.{given, Left}

-- numbers noted from place `k` on, up to place `to`: what the list is after
record Notes (out after : List ℕ) (k to : ℕ) : Type 0 where
  from : k ≤ to
  long : length after ≡ length out
  beyond : (j : ℕ) → to ≤ j → get_or after j 0 ≡ get_or out j 0
  none : to ≡ k → after ≡ out

-- one number, and those behind it
one_more : (out after : List ℕ) (id k to : ℕ) → Notes (set out k id) after (k + 1) to → Notes out after k to
one_more out after id k to n =
    record {
      from = omega arith;
      long = n.long ∙ simp length-set;
      beyond = λ j h. n.beyond j h ∙ get_or-set_other out k j id 0 (λ e. omega arith);
      none = λ e. absurd (omega arith);
    }

notes : (m : ℕ) (w out : List ℕ) (id k : ℕ) → Notes out (listed_in m w out id k) k (listed_to_in m w id k)
unfolding listed_to_in listed_in noted_to noted
notes zero w out id k = record { from = omega arith; long = refl; beyond = λ j h. refl; none = λ e. refl }
notes (suc m) w out id k = go (is_waiting w id) (notes m w (set out k id) (id + 1) (k + 1)) (notes m w out (id + 1) k)
  where
    go : (b : Bool) → Notes (set out k id) (listed_in m w (set out k id) (id + 1) (k + 1)) (k + 1) (listed_to_in m w (id + 1) (k + 1))
        → Notes out (listed_in m w out (id + 1) k) k (listed_to_in m w (id + 1) k)
        → Notes out (listed_in m w (cond b (set out k id) out) (id + 1) (cond b (k + 1) k)) k (listed_to_in m w (id + 1) (cond b (k + 1) k))
    go true waits passes = one_more out _ id k _ waits
    go false waits passes = passes

untouched : (a : Answer) (w out : List ℕ) → Left out (told a w out)
untouched a w out = record { length_stays = refl; beyond = λ j h. refl; none_given = λ e. refl }

numbered : (w out : List ℕ) → Left out (told (answer.Deadlocked (listed_to w)) w (listed w out))
unfolding given listed listed_to
numbered w out = let n = notes (thread_count w) w out 1 0 in record { length_stays = n.long; beyond = n.beyond; none_given = n.none }

finished : (w out : List ℕ) → listed_to w ≡ 0 → Left out (told answer.Finished w (listed w out))
unfolding listed listed_to
finished w out e = rw ((notes (thread_count w) w out 1 0).none e) (untouched answer.Finished w out)

pub dispatch-leaves : (w out : List ℕ) → Left out (dispatched w out)
unfolding dispatched
dispatch-leaves w out =
    go (ltb (length out) (get_or w at.thread_limit 0)) (eqb (get_or w at.current 0) 0) (eqb (top_bit (get_or w at.ready 0)) 0) (is_some (next_time w)) (eqb (listed_to w) 0) refl
  where
    go : (short none idle timed empty : Bool) → eqb (listed_to w) 0 ≡ empty
        → Left out (cond short (told (answer.Refused 27) w out)
        (cond none
        (cond idle
        (cond timed (told (answer.AdvanceTo (unwrap_or (next_time w) 0)) w out)
        (cond empty (told answer.Finished w (listed w out)) (told (answer.Deadlocked (listed_to w)) w (listed w out))))
        (told (ran w (top_bit (get_or w at.ready 0))).answer (ran w (top_bit (get_or w at.ready 0))).words out))
        (told (answer.Run (get_or w at.current 0)) w out)))
    go true none idle timed empty e = untouched _ w out
    go false false idle timed empty e = untouched _ w out
    go false true false timed empty e = untouched _ _ out
    go false true true true empty e = untouched _ w out
    go false true true false true e = finished w out (eqb-true (listed_to w) 0 e)
    go false true true false false e = numbered w out
