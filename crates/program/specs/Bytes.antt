-- The bytes of a script, and the bytes of its answers in the words of the log.
use Rattle.std.specs.Prelude.{ℕ, ◌+◌, ◌^◌, ◌%◌, List, [], ◌∷◌, ◌++◌, cond, eqb, replicate, take}
use Rattle.script_lex.specs.Text.{bytes_of}
use Rattle.script.specs.Line.{read_line}
use Rattle.script.specs.Wait.{Taken}
use Rattle.script_print.specs.Print.{decimal, spaced, flag_text}
use Rattle.commands.specs.Commands.{Asked, asked}
use Rattle.script_bytes.specs.Bytes.{Machine, part_taken, ended}
use Rattle.model.specs.Answer.{Answer}
use Rattle.model.specs.Answer as log

-- ---- lines

-- a last line without a newline counts
abbrev pub last_line : List ℕ → List (List ℕ)
last_line [] = []
last_line (b ∷ line) = (b ∷ line) ∷ []

-- the lines of the bytes behind those of a line that has begun: a newline, 10, ends each
unfoldable pub cut : List ℕ → List ℕ → List (List ℕ)
cut line [] = last_line line
cut line (b ∷ bs) = let others = cut [] bs in cond (eqb b 10) (line ∷ others) (cut (line ++ (b ∷ [])) bs)

abbrev pub lines_of : List ℕ → List (List ℕ)
lines_of bs = cut [] bs

-- the parts that a script comes in, put together
abbrev pub joined : List (List ℕ) → List ℕ
joined [] = []
joined (part ∷ parts) = part ++ joined parts

-- what a line means: it is read with as many places for the numbers of a wait as it can have
unfoldable pub meant : List ℕ → Asked
meant line = let t : Taken = read_line line (replicate 2048 0) in asked t.list t.command

abbrev pub meanings : List (List ℕ) → List Asked
meanings [] = []
meanings (l ∷ ls) = meant l ∷ meanings ls

-- ---- answers

-- "Each output line is the input line's number and its answer"; those that answer a record, policy or image have no line
unfoldable pub answer_text : Answer → List ℕ
answer_text (log.Refused n) = bytes_of "refused " ++ decimal n
answer_text log.Done = bytes_of "ok"
answer_text log.None = bytes_of "none"
answer_text (log.ThreadNumber n) = bytes_of "thread " ++ decimal n
answer_text (log.Flag b) = flag_text b
answer_text (log.Number n) = decimal n
answer_text (log.Satisfied n) = bytes_of "satisfied " ++ decimal n
answer_text log.Timeout = bytes_of "timeout"
answer_text log.Blocked = bytes_of "blocked"
answer_text (log.Run n) = bytes_of "run " ++ decimal n
answer_text (log.AdvanceTo n) = bytes_of "advance " ++ decimal n
answer_text (log.Deadlocked ns) = bytes_of "deadlocked" ++ spaced ns
answer_text log.Finished = bytes_of "finished"
answer_text (log.ThreadIs n t) = bytes_of "none"
answer_text (log.ObjectIs n) = bytes_of "none"
answer_text (log.EventIs e) = bytes_of "none"
answer_text (log.TimerIs t) = bytes_of "none"
answer_text (log.DpcIs d) = bytes_of "none"
answer_text (log.WorkIs x) = bytes_of "none"
answer_text (log.PolicyIs p) = bytes_of "none"
answer_text (log.CountersAre c) = bytes_of "none"
answer_text (log.ImageIs size bytes) = bytes_of "none"

-- the line's number, a space, the answer, a newline
abbrev pub answer_line : ℕ → Answer → List ℕ
answer_line number a = decimal number ++ bytes_of " " ++ answer_text a ++ bytes_of "\n"

-- line by line; a number has 64 bits
abbrev pub text_from : ℕ → List Answer → List ℕ
text_from number [] = []
text_from number (a ∷ rest) = answer_line number a ++ text_from ((number + 1) % 2 ^ 64) rest

-- ---- what the program writes

-- after a part of the script, what has been gathered
abbrev pub gathered : Machine → List ℕ
gathered m = take m.place.written m.text

-- after each part, and at the end
abbrev pub writes : Machine → List (List ℕ) → List ℕ
writes m [] = gathered (ended m)
writes m (part ∷ parts) = gathered (part_taken m part) ++ writes (part_taken m part) parts
