-- A thread's record in the words.
use Rattle.std.specs.Prelude.{Bool, cond, false, ℕ, zero, suc, ◌+◌, ◌*◌, List, get_or, set, replicate, leb, ltb}
use Rattle.words.specs.Layout as at
use Rattle.words.specs.Layout.{thread_at}
use Rattle.threads.specs.declared.Thread.{Thread}
use Rattle.threads.specs.declared.Wait.{Wait}

unfoldable pub thread_of : List ℕ → ℕ → Thread
thread_of w id =
    record {
      priority = get_or w (thread_at id + at.priority) 0;
      state = get_or w (thread_at id + at.state) 0;
      result = get_or w (thread_at id + at.result) 0;
      status = get_or w (thread_at id + at.status) 0;
    }

unfoldable pub put_thread : List ℕ → ℕ → Thread → List ℕ
put_thread w id t =
    set (set (set (set w (thread_at id + at.priority) t.priority) (thread_at id + at.state) t.state) (thread_at id + at.result) t.result) (thread_at id + at.status) t.status

-- there is a thread of this number
unfoldable pub known : List ℕ → ℕ → Bool
known w id = cond (ltb id 1) false (leb id (get_or w at.threads 0))

-- how many threads there are, at most the largest number of one
unfoldable pub thread_count : List ℕ → ℕ
thread_count w = cond (leb (get_or w at.threads 0) at.most_threads) (get_or w at.threads 0) at.most_threads

-- how many objects a thread waits for, at most 64
unfoldable pub count_of : List ℕ → ℕ → ℕ
count_of w id = cond (leb (get_or w (thread_at id + at.wait_count) 0) 64) (get_or w (thread_at id + at.wait_count) 0) 64

unfoldable pub all_of : List ℕ → ℕ → ℕ
all_of w id = get_or w (thread_at id + at.wait_all) 0

unfoldable pub places_at : ℕ → ℕ
places_at id = thread_at id + at.wait_places

-- the first `k` words of a list in an array of 64 places, each a kind and a key
unfoldable pub filled : ℕ → List ℕ → List ℕ
filled zero list = replicate 128 0
filled (suc k) list = set (filled k list) k (get_or list k 0)

-- the record of a wait for the first `n` pairs of a list
unfoldable pub recorded : List ℕ → ℕ → ℕ → ℕ → ℕ → ℕ → Wait
recorded list n all timed deadline sequence =
    record { all = all; timed = timed; deadline = deadline; sequence = sequence; count = n; places = filled (2 * n) list }

-- the `k` words of `places` from `i` on written from `place + i` on
unfoldable pub put_places : ℕ → List ℕ → ℕ → List ℕ → ℕ → List ℕ
put_places zero w place places i = w
put_places (suc k) w place places i = put_places k (set w (place + i) (get_or places i 0)) place places (i + 1)

unfoldable pub put_terms : List ℕ → ℕ → Wait → List ℕ
put_terms w id x =
    set (set (set (set (set w (thread_at id + at.wait_all) x.all) (thread_at id + at.has_deadline) x.timed) (thread_at id + at.deadline) x.deadline) (thread_at id + at.wait_sequence) x.sequence) (thread_at id + at.wait_count) x.count

unfoldable pub put_wait : List ℕ → ℕ → Wait → List ℕ
put_wait w id x = put_places (2 * x.count) (put_terms w id x) (places_at id) x.places 0

unfoldable pub no_wait : Wait
no_wait = record { all = 0; timed = 0; deadline = 0; sequence = 0; count = 0; places = replicate 128 0 }
