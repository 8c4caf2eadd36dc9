-- The expiry of an advance, whole.
use Rattle.std.specs.Prelude.{cond, List, ℕ, get_or, eqb}
use Rattle.words.specs.Layout as at
use Rattle.objects.specs.Objects.{objects_base}
use Rattle.expiry_order.specs.Order.{sorted}
use Rattle.expiry.specs.Due.{due_list}
use Rattle.expiry.specs.Check.{list_refusal}
use Rattle.expiry.specs.Expire.{expired_list}

-- document 01: with a policy they go by due, then address; without one, by address
unfoldable pub arranged : List ℕ → ℕ → List ℕ → List ℕ
arranged w base list = cond (eqb (get_or w at.policy 0) 0) list (sorted w base list)

-- document 01: one refusal undoes the whole advance
unfoldable pub ran : List ℕ → ℕ → List ℕ → ℕ → List ℕ
ran w base list time = cond (eqb (list_refusal w base list time) 0) (expired_list w base list time) w

-- the due timers, in the order in which they go
unfoldable pub order : List ℕ → ℕ → List ℕ
order w time = arranged w (objects_base w) (due_list w time)

unfoldable pub expiry_refusal : List ℕ → ℕ → ℕ
expiry_refusal w time = list_refusal w (objects_base w) (order w time) time

unfoldable pub expiry_words : List ℕ → ℕ → List ℕ
expiry_words w time = ran w (objects_base w) (order w time) time
