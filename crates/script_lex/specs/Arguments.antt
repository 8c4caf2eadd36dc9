-- The arguments of a line: its words behind the name.
use Rattle.std.specs.Prelude.{Bool, cond, true, false, List, ℕ, ◌-◌, ◌^◌, Option, Some, None}
use Rattle.script_lex.specs.declared.command.Command.{Command}
use Rattle.script_lex.specs.Text.{bytes_of}
use Rattle.script_lex.specs.Words.{first, others, none, same}
use Rattle.script_lex.specs.Numbers.{number_of}

abbrev pub most : ℕ
most = 2 ^ 64 - 1

unfoldable pub flag_of : List ℕ → Option Bool
flag_of w = cond (same w (bytes_of "0")) (Some false) (cond (same w (bytes_of "1")) (Some true) None)

-- ---- so many numbers, each within its limit, and no word more

unfoldable pub one_of : ℕ → List (List ℕ) → Option ℕ
one_of limit ws = cond (none (others ws)) (number_of limit (first ws)) None

unfoldable pub join_two : Option ℕ → Option ℕ → Option (ℕ × ℕ)
join_two (Some a) (Some b) = Some (a, b)
join_two (Some a) None = None
join_two None n = None

unfoldable pub two_of : ℕ → ℕ → List (List ℕ) → Option (ℕ × ℕ)
two_of a b ws = join_two (number_of a (first ws)) (one_of b (others ws))

unfoldable pub join_three : Option ℕ → Option (ℕ × ℕ) → Option (ℕ × ℕ × ℕ)
join_three (Some a) (Some (b, c)) = Some (a, b, c)
join_three (Some a) None = None
join_three None t = None

unfoldable pub three_of : List (List ℕ) → Option (ℕ × ℕ × ℕ)
three_of ws = join_three (number_of most (first ws)) (two_of most most (others ws))

-- ---- the command of what was read

unfoldable pub with_one : (ℕ → Option Command) → Option ℕ → Option Command
with_one f None = None
with_one f (Some n) = f n

unfoldable pub with_two : (ℕ → ℕ → Option Command) → Option (ℕ × ℕ) → Option Command
with_two f None = None
with_two f (Some (a, b)) = f a b

unfoldable pub with_three : (ℕ → ℕ → ℕ → Option Command) → Option (ℕ × ℕ × ℕ) → Option Command
with_three f None = None
with_three f (Some (a, b, c)) = f a b c

unfoldable pub bare_line : Command → List (List ℕ) → Option Command
bare_line c ws = cond (none ws) (Some c) None
