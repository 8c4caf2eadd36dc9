-- The reading of a line.
use Rattle.std.specs.Prelude.{cond, List, ℕ, ◌-◌, eqb, ltb, length, get_or, take, None}
use Rattle.script_lex.specs.Names as name
use Rattle.script_lex.specs.Words.{words_of, first, others, same}
use Rattle.script.specs.Wait.{Taken, taken, wait_line}
use Rattle.script.specs.Scheduler.{short_line}

-- how many bytes of a line are read: all but a carriage return, 13, at the end
unfoldable pub text_length : List ℕ → ℕ
text_length s = cond (eqb (get_or s (length s - 1) 0) 13) (length s - 1) (length s)

unfoldable pub text_line : List (List ℕ) → List ℕ → Taken
text_line ws l = cond (same (first ws) name.wait) (wait_line (others ws) l) (taken (short_line ws) l)

-- the command of a line, and the list after: a line of more than 4,096 bytes cannot be read
unfoldable pub read_line : List ℕ → List ℕ → Taken
read_line s l = cond (ltb 4096 (length s)) (taken None l) (text_line (words_of (take (text_length s) s)) l)
