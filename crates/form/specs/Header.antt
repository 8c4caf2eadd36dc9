-- The header in form.
use Rattle.std.specs.Prelude.{Bool, cond, false, not, ℕ, List, get_or, length, eqb, leb, ltb}
use Rattle.words.specs.Word.{bit_at}
use Rattle.words.specs.Layout as at
use Rattle.opening.specs.Open.{bad_limits, words_needed}

-- document 01: limits pass their checks
unfoldable pub limits_pass : List ℕ → Bool
limits_pass w = not (bad_limits (get_or w at.thread_limit 0) (get_or w at.object_limit 0) (get_or w at.dpc_limit 0))

-- document 01: long enough
unfoldable pub long_enough : List ℕ → Bool
long_enough w = leb (words_needed (get_or w at.thread_limit 0) (get_or w at.object_limit 0) (get_or w at.dpc_limit 0)) (length w)

-- at least one thread, and no more of each than its limit
unfoldable pub counts_pass : List ℕ → Bool
counts_pass w =
    cond (ltb (get_or w at.threads 0) 1) false
    (cond (ltb (get_or w at.thread_limit 0) (get_or w at.threads 0)) false
    (cond (ltb (get_or w at.object_limit 0) (get_or w at.objects 0)) false (leb (get_or w at.dpcs 0) (get_or w at.dpc_limit 0))))

-- the current thread is 0 for none, or a thread
unfoldable pub current_passes : List ℕ → Bool
current_passes w = leb (get_or w at.current 0) (get_or w at.threads 0)

-- the ready word has 32 bits, and none for 0, which is no priority
unfoldable pub ready_passes : List ℕ → Bool
ready_passes w = cond (ltb 4294967295 (get_or w at.ready 0)) false (eqb (bit_at (get_or w at.ready 0) 0) 0)

-- words that say nothing hold 0: the two timer arguments of no policy
unfoldable pub no_arguments : List ℕ → Bool
no_arguments w = cond (eqb (get_or w at.timer_argument 0) 0) (eqb (get_or w at.timer_argument2 0) 0) false

-- no policy and no arguments, or a policy whose two timer arguments are not 0 and differ
unfoldable pub policy_passes : List ℕ → Bool
policy_passes w =
    let policy = get_or w at.policy 0 in
    let first = get_or w at.timer_argument 0 in
    let second = get_or w at.timer_argument2 0 in
    cond (eqb policy 0) (no_arguments w)
    (cond (eqb policy 1) (cond (eqb first 0) false (cond (eqb second 0) false (not (eqb first second)))) false)

-- how many acceptances of DPC work there can be, and how many initializations of timers and of DPCs
unfoldable pub lifetimes_pass : List ℕ → Bool
lifetimes_pass w =
    cond (ltb 65536 (get_or w at.accepted 0)) false
    (cond (ltb 65536 (get_or w at.timer_initializations 0)) false (leb (get_or w at.dpc_initializations 0) 65536))

-- document 01: stored numbers pass their checks, of the header
unfoldable pub header_numbers : List ℕ → Bool
header_numbers w =
    cond (counts_pass w)
    (cond (current_passes w)
    (cond (ready_passes w) (cond (policy_passes w) (lifetimes_pass w) false) false) false) false
