-- What is read of a thread, and of what it waits for.
use Rattle.std.specs.Prelude.{cond, ℕ, ◌+◌, ◌-◌, ◌^◌, List, get_or, leb, Option, Some, None}
use Rattle.words.specs.Layout as at
use Rattle.words.specs.Layout.{thread_at}
use Rattle.threads.specs.Thread.{thread_of, known, count_of, places_at}
use Rattle.waits.specs.Lists.{kind_in, key_in}
use Rattle.dispatcher.specs.Dispatch.{is_waiting}
use Rattle.dispatcher.specs.declared.read.ThreadView.{ThreadView}
use Rattle.dispatcher.specs.ThreadAnswer.{ThreadAnswer}
use Rattle.dispatcher.specs.ThreadAnswer as read
use Rattle.dispatcher.specs.declared.read.Place.{Place}
use Rattle.dispatcher.specs.PlaceAnswer.{PlaceAnswer}
use Rattle.dispatcher.specs.PlaceAnswer as object

-- A thread that does not wait has no wait, whatever the words of its last one hold.

-- how many objects it waits for
unfoldable pub waited_count : List ℕ → ℕ → ℕ
waited_count w id = cond (is_waiting w id) (count_of w id) 0

-- word `k` of its record, a word of its wait
unfoldable pub wait_word : List ℕ → ℕ → ℕ → ℕ
wait_word w id k = cond (is_waiting w id) (get_or w (thread_at id + k) 0) 0

unfoldable pub view_of : List ℕ → ℕ → ThreadView
view_of w id =
    let t = thread_of w id in
    record {
      id = id;
      priority = t.priority;
      state = t.state;
      result = t.result;
      status = t.status;
      all = wait_word w id at.wait_all;
      timed = wait_word w id at.has_deadline;
      deadline = wait_word w id at.deadline;
      sequence = wait_word w id at.wait_sequence;
      count = waited_count w id;
    }

unfoldable pub thread_read : List ℕ → ℕ → ThreadAnswer
thread_read w id = cond (known w id) (read.Thread (view_of w id)) read.None

-- the thread of number `position + 1`
unfoldable pub threads_at : List ℕ → ℕ → ThreadAnswer
threads_at w position = cond (leb (2 ^ 64 - 1) position) read.None (thread_read w (position + 1))

-- the object at the position in a thread's wait
unfoldable pub waited_object : List ℕ → ℕ → ℕ → PlaceAnswer
waited_object w id position =
    cond (known w id)
    (cond (leb (waited_count w id) position) object.None
    (object.Object (record { kind = kind_in w (places_at id) position; key = key_in w (places_at id) position })))
    object.None

-- ---- what a read tells

abbrev pub told_thread : Option ThreadView → ThreadAnswer
told_thread None = read.None
told_thread (Some t) = read.Thread t

abbrev pub told_place : Option Place → PlaceAnswer
told_place None = object.None
told_place (Some p) = object.Object p
