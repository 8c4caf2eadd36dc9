-- A call on a scheduler's words: its answer, and the words after it.
use Rattle.std.specs.Prelude.{Bool, cond, List, ℕ, eqb}
use Rattle.answers.specs.declared.Answer.{Answer}
use Rattle.answers.specs.declared.Answer.TheVariants.{Refused}

pub record Outcome : Type 0 where
  pub answer : Answer
  pub words : List ℕ

abbrev pub outcome : Answer → List ℕ → Outcome
outcome a w = record { answer = a; words = w }

-- a call whose refusal is `r`, 0 where it is accepted: a refused call changes nothing
abbrev pub unless : ℕ → List ℕ → Outcome → Outcome
unless r w o = cond (eqb r 0) o (outcome (Refused r) w)

-- 1 for true, as words hold a truth value
abbrev pub bit : Bool → ℕ
bit b = cond b 1 0
