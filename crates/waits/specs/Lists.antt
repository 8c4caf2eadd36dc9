-- Lists of objects: pairs of a kind and a key that stand in `src` from `at` on. Each walk goes from the pair `i` on over `m` pairs.
use Rattle.std.specs.Prelude.{Bool, cond, true, false, ℕ, zero, suc, ◌+◌, ◌*◌, List, get_or, eqb, ltb}
use Rattle.waits.specs.Object.{valid, available, owned_by, taken}

unfoldable pub kind_in : List ℕ → ℕ → ℕ → ℕ
kind_in src at i = get_or src (at + 2 * i) 0

unfoldable pub key_in : List ℕ → ℕ → ℕ → ℕ
key_in src at i = get_or src (at + (2 * i + 1)) 0

-- ---- tests

unfoldable pub is_pair : List ℕ → ℕ → ℕ → ℕ → ℕ → Bool
is_pair src at i kind key = cond (eqb (key_in src at i) key) (eqb (kind_in src at i) kind) false

unfoldable pub has_pair : ℕ → List ℕ → ℕ → ℕ → ℕ → ℕ → Bool
has_pair zero src at i kind key = false
has_pair (suc m) src at i kind key = cond (is_pair src at i kind key) true (has_pair m src at (i + 1) kind key)

unfoldable pub duplicate_in : ℕ → List ℕ → ℕ → ℕ → Bool
duplicate_in zero src at i = false
duplicate_in (suc m) src at i = cond (has_pair m src at (i + 1) (kind_in src at i) (key_in src at i)) true (duplicate_in m src at (i + 1))

unfoldable pub bad_kind_in : ℕ → List ℕ → ℕ → ℕ → Bool
bad_kind_in zero src at i = false
bad_kind_in (suc m) src at i = cond (ltb 3 (kind_in src at i)) true (bad_kind_in m src at (i + 1))

unfoldable pub unknown_in : ℕ → List ℕ → List ℕ → ℕ → ℕ → Bool
unknown_in zero w src at i = false
unknown_in (suc m) w src at i = cond (valid w (kind_in src at i) (key_in src at i)) (unknown_in m w src at (i + 1)) true

unfoldable pub owned_in : ℕ → List ℕ → ℕ → List ℕ → ℕ → ℕ → Bool
owned_in zero w id src at i = false
owned_in (suc m) w id src at i = cond (owned_by w id (kind_in src at i) (key_in src at i)) true (owned_in m w id src at (i + 1))

unfoldable pub every_in : ℕ → List ℕ → List ℕ → ℕ → ℕ → Bool
every_in zero w src at i = true
every_in (suc m) w src at i = cond (available w (kind_in src at i) (key_in src at i)) (every_in m w src at (i + 1)) false

-- the place of the first available one, or the end
unfoldable pub first_in : ℕ → List ℕ → List ℕ → ℕ → ℕ → ℕ
first_in zero w src at i = i
first_in (suc m) w src at i = cond (available w (kind_in src at i) (key_in src at i)) i (first_in m w src at (i + 1))

-- a wait for any (`all` is 0) or all of `n` objects can be granted, and what it then answers
unfoldable pub met_in : List ℕ → List ℕ → ℕ → ℕ → ℕ → Bool
met_in w src at n all = cond (eqb all 0) (ltb (first_in n w src at 0) n) (every_in n w src at 0)

unfoldable pub index_in : List ℕ → List ℕ → ℕ → ℕ → ℕ → ℕ
index_in w src at n all = cond (eqb all 0) (first_in n w src at 0) 0

-- ---- taking, by thread `id`

unfoldable pub taken_list : ℕ → List ℕ → ℕ → List ℕ → ℕ → List ℕ
taken_list zero w id src i = w
taken_list (suc m) w id src i = taken_list m (taken w id (kind_in src 0 i) (key_in src 0 i)) id src (i + 1)

-- of a list that stands in the words
unfoldable pub taken_own : ℕ → List ℕ → ℕ → ℕ → ℕ → List ℕ
taken_own zero w id at i = w
taken_own (suc m) w id at i = taken_own m (taken w id (kind_in w at i) (key_in w at i)) id at (i + 1)

unfoldable pub takes_list : List ℕ → ℕ → List ℕ → ℕ → ℕ → List ℕ
takes_list w id src n all =
    let i = first_in n w src 0 0 in
    cond (eqb all 0) (taken w id (kind_in src 0 i) (key_in src 0 i)) (taken_list n w id src 0)

unfoldable pub takes_own : List ℕ → ℕ → ℕ → ℕ → ℕ → List ℕ
takes_own w id at n all =
    let i = first_in n w w at 0 in
    cond (eqb all 0) (taken w id (kind_in w at i) (key_in w at i)) (taken_own n w id at 0)
