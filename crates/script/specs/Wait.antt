-- The line of a wait, and the list that its pairs go into.
use Rattle.std.specs.Prelude.{Bool, cond, true, false, List, [], ◌∷◌, ℕ, ◌+◌, ◌%◌, eqb, ltb, length, set, Option, Some, None}
use Rattle.script_lex.specs.declared.command.Command.{Command}
use Rattle.script_lex.specs.declared.command.Command.TheVariants as command
use Rattle.script_lex.specs.Names as name
use Rattle.script_lex.specs.Words.{first, others, same}
use Rattle.script_lex.specs.Numbers.{number_of}
use Rattle.script_lex.specs.Arguments.{most}

unfoldable pub kind_of : List ℕ → Option ℕ
kind_of w =
    cond (same w name.mutex) (Some 0)
    (cond (same w name.event) (Some 1)
    (cond (same w name.timer) (Some 2)
    (cond (same w name.thread) (Some 3) None)))

-- number `i` of the pairs: kinds and keys take turns
unfoldable pub item_of : ℕ → List ℕ → Option ℕ
item_of i w = cond (eqb (i % 2) 0) (kind_of w) (number_of most w)

-- how many numbers were read, and the list after
pub record Paired : Type 0 where
  pub count : Option ℕ
  pub list : List ℕ

abbrev pub paired : Option ℕ → List ℕ → Paired
paired p l = record { count = p; list = l }

unfoldable pub is_read : Option ℕ → Bool
is_read None = false
is_read (Some n) = true

unfoldable pub told : Option ℕ → ℕ
told None = 0
told (Some n) = n

-- the words as numbers `i` and on, each put into the list at its place; what is read ends where one cannot be read, or has no place
unfoldable pub pairs_of : List (List ℕ) → ℕ → List ℕ → Paired
pairs_of [] i l = paired (Some i) l
pairs_of (w ∷ ws) i l =
    let n = item_of i w in
    cond (ltb i (length l)) (cond (is_read n) (pairs_of ws (i + 1) (set l i (told n))) (paired None l)) (paired None l)

-- a command, and the list after
pub record Taken : Type 0 where
  pub command : Option Command
  pub list : List ℕ

abbrev pub taken : Option Command → List ℕ → Taken
taken c l = record { command = c; list = l }

unfoldable pub wait_command : Bool → Option ℕ → ℕ → Option ℕ → Option Command
wait_command all deadline irql None = None
wait_command all deadline irql (Some n) = Some (command.Wait all deadline irql n)

unfoldable pub with_irql : Bool → Option ℕ → Option ℕ → List (List ℕ) → List ℕ → Taken
with_irql all deadline None ws l = taken None l
with_irql all deadline (Some irql) ws l =
    taken (wait_command all deadline irql (pairs_of ws 0 l).count) (pairs_of ws 0 l).list

-- the words from the IRQL on
unfoldable pub wait_from : Bool → Option ℕ → List (List ℕ) → List ℕ → Taken
wait_from all deadline ws l = with_irql all deadline (number_of 255 (first ws)) (others ws) l

unfoldable pub with_deadline : Bool → Option ℕ → List (List ℕ) → List ℕ → Taken
with_deadline all None ws l = taken None l
with_deadline all (Some deadline) ws l = wait_from all (Some deadline) ws l

-- the words from the deadline on
unfoldable pub wait_until : Bool → List (List ℕ) → List ℕ → Taken
wait_until all ws l =
    cond (same (first ws) name.never) (wait_from all None (others ws) l) (with_deadline all (number_of most (first ws)) (others ws) l)

unfoldable pub wait_line : List (List ℕ) → List ℕ → Taken
wait_line ws l =
    cond (same (first ws) name.any) (wait_until false (others ws) l)
    (cond (same (first ws) name.all) (wait_until true (others ws) l) (taken None l))
