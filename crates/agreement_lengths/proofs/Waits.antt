-- Objects taken, threads woken, and the wake pass: as many words.
use Prim.Native.Nat.{ℕ, zero, suc, ◌+◌}
use mathlib.Core.List.{List}
use mathlib.Core.Path.{◌≡◌, refl, ◌∙◌}
use lib.ListN.{length, length-set}
use Rattle.chains.specs.Chain.{first_of, next_of}
use Rattle.chains.specs.Ready.{waiters_chain}
use Rattle.waits.specs.Object.{taken}
use Rattle.waits.specs.Lists.{kind_in, key_in, taken_list, taken_own, takes_list, takes_own}
use Rattle.wakes.specs.Wake.{made_ready, awoken, visited, visited_to, passed, awake}
use Rattle.agreement_chains.proofs.Frames.{length-unlinked}
use Rattle.agreement_chains.proofs.Marks.{length-placed}
use Rattle.agreement_lengths.proofs.Lengths.{length-cond, cond_same}
use Rattle.agreement_lengths.proofs.Threads.{length-put-thread}

pub length_taken : (w : List ℕ) (id kind key : ℕ) → length (taken w id kind key) ≡ length w
unfolding taken
length_taken w id kind key = simp (length-cond, cond_same, length-set)

pub length-taken-list : (m : ℕ) (w : List ℕ) (id : ℕ) (src : List ℕ) (i : ℕ) → length (taken_list m w id src i) ≡ length w
unfolding taken_list
length-taken-list zero w id src i = refl
length-taken-list (suc m) w id src i =
    length-taken-list m (taken w id (kind_in src 0 i) (key_in src 0 i)) id src (i + 1) ∙ length_taken w id (kind_in src 0 i) (key_in src 0 i)

pub length-taken-own : (m : ℕ) (w : List ℕ) (id at i : ℕ) → length (taken_own m w id at i) ≡ length w
unfolding taken_own
length-taken-own zero w id at i = refl
length-taken-own (suc m) w id at i =
    length-taken-own m (taken w id (kind_in w at i) (key_in w at i)) id at (i + 1) ∙ length_taken w id (kind_in w at i) (key_in w at i)

pub length-takes-list : (w : List ℕ) (id : ℕ) (src : List ℕ) (n all : ℕ) → length (takes_list w id src n all) ≡ length w
unfolding takes_list
length-takes-list w id src n all = simp (length-cond, cond_same, length_taken, length-taken-list)

pub length-takes-own : (w : List ℕ) (id at n all : ℕ) → length (takes_own w id at n all) ≡ length w
unfolding takes_own
length-takes-own w id at n all = simp (length-cond, cond_same, length_taken, length-taken-own)

-- ---- wakes

pub length-made-ready : (w : List ℕ) (id result : ℕ) → length (made_ready w id result) ≡ length w
unfolding made_ready
length-made-ready w id result = simp (length-placed, length-put-thread)

pub length-awoken : (w : List ℕ) (before id : ℕ) → length (awoken w before id) ≡ length w
unfolding awoken
length-awoken w before id = simp (length-made-ready, length-unlinked, length-takes-own)

pub length-visited : (w : List ℕ) (before id : ℕ) → length (visited w before id) ≡ length w
unfolding visited
length-visited w before id = simp (length-cond, cond_same, length-awoken)

pub length-passed : (k : ℕ) (w : List ℕ) (before at : ℕ) → length (passed k w before at) ≡ length w
unfolding passed
length-passed zero w before at = refl
length-passed (suc k) w before at =
    simp (length-cond, cond_same, length-passed k (visited w before at) (visited_to w before at) (next_of w waiters_chain at), length-visited)

pub length-awake : (w : List ℕ) → length (awake w) ≡ length w
unfolding awake
length-awake w = length-passed 4096 w 0 (first_of w waiters_chain)
