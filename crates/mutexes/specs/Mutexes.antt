-- The calls on mutexes: what refuses them, their answers, and the words after them. Kind 0 is a mutex; owner 0 is none.
use Rattle.std.specs.Prelude.{Bool, cond, false, not, ℕ, zero, suc, ◌+◌, List, get_or, set, eqb}
use Rattle.words.specs.Layout as at
use Rattle.chains.specs.Chain.{first_of, next_of}
use Rattle.chains.specs.Ready.{waiters_chain}
use Rattle.threads.specs.Thread.{known, count_of, places_at}
use Rattle.objects.specs.declared.Object.{Object}
use Rattle.objects.specs.Objects.{place_of, collides, full, entered}
use Rattle.waits.specs.Object.{exited}
use Rattle.waits.specs.Lists.{has_pair}
use Rattle.wakes.specs.Wake.{awake, waits_on}
use Rattle.answers.specs.declared.Answer.{Answer}
use Rattle.answers.specs.declared.Answer.TheVariants as answer
use Rattle.answers.specs.Outcome.{Outcome, outcome, unless, bit}

unfoldable pub new_mutex : ℕ → Object
new_mutex owner = record { kind = 0; manual = 0; signaled = 0; owner = owner }

-- the owner's number, 0 for none
unfoldable pub owner_of : List ℕ → ℕ → ℕ
owner_of w key = cond (eqb (place_of w 0 key) 0) 0 (get_or w (place_of w 0 key + at.owner) 0)

-- ---- initialize_mutex: 5 key held by another kind; 4 key 0, or a new key at the limit; 6 owned or waited on

unfoldable pub mutex_refusal : List ℕ → ℕ → ℕ
mutex_refusal w key =
    cond (collides w 0 key) 5 (cond (eqb key 0) 4 (cond (full w key) 4 (cond (eqb (owner_of w key) 0) (cond (waits_on w 0 key) 6 0) 6)))

unfoldable pub initialized : List ℕ → ℕ → Outcome
initialized w key = unless (mutex_refusal w key) w (outcome answer.Done (entered w key (new_mutex 0)))

-- ---- adopt_mutex: 10 owner not a live thread; 10 known mutex with another owner; a new key as initialize_mutex

unfoldable pub live : List ℕ → ℕ → Bool
live w id = cond (known w id) (not (exited w id)) false

abbrev pub wanted_owner : Bool → ℕ → ℕ
wanted_owner owned owner = cond owned owner 0

unfoldable pub known_refusal : List ℕ → ℕ → ℕ → ℕ
known_refusal w key owner = cond (eqb (place_of w 0 key) 0) (mutex_refusal w key) (cond (eqb (owner_of w key) owner) 0 10)

unfoldable pub adopt_refusal : List ℕ → ℕ → Bool → ℕ → ℕ
adopt_refusal w key owned owner = cond owned (cond (live w owner) (known_refusal w key owner) 10) (known_refusal w key 0)

-- a known mutex stays as it is
unfoldable pub adopted : List ℕ → ℕ → Bool → ℕ → Outcome
adopted w key owned owner =
    unless (adopt_refusal w key owned owner) w
    (outcome answer.Done (cond (eqb (place_of w 0 key) 0) (entered w key (new_mutex (wanted_owner owned owner))) w))

-- ---- mutex_owner: 2; mutex_waiters

unfoldable pub owner_answer : List ℕ → ℕ → Answer
owner_answer w key =
    cond (eqb (place_of w 0 key) 0) (answer.Refused 2) (cond (eqb (owner_of w key) 0) answer.None (answer.Thread (owner_of w key)))

unfoldable pub waits_for : List ℕ → ℕ → ℕ → ℕ
waits_for w id key = bit (has_pair (count_of w id) w (places_at id) 0 0 key)

-- how many of at most `k` waiting threads from `at` on wait for the mutex
unfoldable pub waiters_in : ℕ → List ℕ → ℕ → ℕ → ℕ
waiters_in zero w at key = 0
waiters_in (suc k) w at key = cond (eqb at 0) 0 (waits_for w at key + waiters_in k w (next_of w waiters_chain at) key)

unfoldable pub waiters_answer : List ℕ → ℕ → Answer
waiters_answer w key = answer.Count (waiters_in 4096 w (first_of w waiters_chain) key)

-- ---- release_mutex: 3 no current thread; 2; 10 not the owner

unfoldable pub release_refusal : List ℕ → ℕ → ℕ
release_refusal w key =
    cond (eqb (get_or w at.current 0) 0) 3 (cond (eqb (place_of w 0 key) 0) 2 (cond (eqb (owner_of w key) (get_or w at.current 0)) 0 10))

unfoldable pub freed : List ℕ → ℕ → List ℕ
freed w key = set w (place_of w 0 key + at.owner) 0

unfoldable pub released : List ℕ → ℕ → Outcome
released w key = unless (release_refusal w key) w (outcome answer.Done (awake (freed w key)))
