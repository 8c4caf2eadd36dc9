-- One object, named by its kind and key: 0 a mutex, 1 an event, 2 a timer, 3 a thread.
use Rattle.std.specs.Prelude.{Bool, cond, false, not, ℕ, ◌+◌, List, get_or, set, eqb}
use Rattle.words.specs.Layout as at
use Rattle.words.specs.Layout.{thread_at}
use Rattle.threads.specs.Thread.{known}
use Rattle.objects.specs.Objects.{place_of}

unfoldable pub exited : List ℕ → ℕ → Bool
exited w id = cond (known w id) (eqb (get_or w (thread_at id + at.state) 0) 4) false

unfoldable pub valid : List ℕ → ℕ → ℕ → Bool
valid w kind key = cond (eqb kind 3) (known w key) (not (eqb (place_of w kind key) 0))

-- a mutex without owner, a signaled event or timer, an exited thread
unfoldable pub available : List ℕ → ℕ → ℕ → Bool
available w kind key =
    let place = place_of w kind key in
    cond (eqb kind 3) (exited w key)
    (cond (eqb place 0) false (cond (eqb kind 0) (eqb (get_or w (place + at.owner) 0) 0) (not (eqb (get_or w (place + at.signaled) 0) 0))))

unfoldable pub owned_by : List ℕ → ℕ → ℕ → ℕ → Bool
owned_by w id kind key =
    let place = place_of w kind key in
    cond (eqb kind 0) (cond (eqb place 0) false (eqb (get_or w (place + at.owner) 0) id)) false

-- taking sets a mutex's owner and clears an auto-reset event or timer
unfoldable pub taken : List ℕ → ℕ → ℕ → ℕ → List ℕ
taken w id kind key =
    let place = place_of w kind key in
    cond (eqb place 0) w (cond (eqb kind 0) (set w (place + at.owner) id) (cond (eqb (get_or w (place + at.manual) 0) 0) (set w (place + at.signaled) 0) w))
