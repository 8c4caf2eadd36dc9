-- The words after each operation on a chain.
use Rattle.std.specs.Prelude.{cond, ℕ, zero, suc, ◌+◌, ◌*◌, List, [], ◌∷◌, get_or, set, eqb, leb}
use Rattle.chains.specs.declared.Chain.{Chain}

-- where the number of the record after `before` stands; after 0 comes the first
unfoldable pub link_at : Chain → ℕ → ℕ
link_at c before = cond (eqb before 0) c.first (cond (leb before 4096) (c.link + c.stride * before) c.first)

unfoldable pub first_of : List ℕ → Chain → ℕ
first_of w c = get_or w c.first 0

unfoldable pub next_of : List ℕ → Chain → ℕ → ℕ
next_of w c n = get_or w (link_at c n) 0

-- the records from `at` on, `k` at most
unfoldable pub members_in : ℕ → List ℕ → Chain → ℕ → List ℕ
members_in zero w c at = []
members_in (suc k) w c at = cond (eqb at 0) [] (at ∷ members_in k w c (next_of w c at))

unfoldable pub members_of : List ℕ → Chain → List ℕ
members_of w c = members_in 4096 w c (first_of w c)

unfoldable pub pushed : List ℕ → Chain → ℕ → List ℕ
pushed w c n = set (set (set w (link_at c n) 0) (link_at c (get_or w c.last 0)) n) c.last n

unfoldable pub unlinked : List ℕ → Chain → ℕ → ℕ → List ℕ
unlinked w c before n =
    let after = next_of w c n in
    let joined = set w (link_at c before) after in
    cond (eqb after 0) (set joined c.last before) joined

-- the record before `n`, of at most `k` records from `at` on, where `before` comes before `at`
unfoldable pub before_in : ℕ → List ℕ → Chain → ℕ → ℕ → ℕ → ℕ
before_in zero w c before at n = before
before_in (suc k) w c before at n = cond (eqb at n) before (before_in k w c at (next_of w c at) n)

unfoldable pub find_before : List ℕ → Chain → ℕ → ℕ
find_before w c n = before_in 4096 w c 0 (first_of w c) n

unfoldable pub removed : List ℕ → Chain → ℕ → List ℕ
removed w c n = unlinked w c (find_before w c n) n
