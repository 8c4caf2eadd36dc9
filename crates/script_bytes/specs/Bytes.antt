-- What each byte of a script does to the program.
use Rattle.std.specs.Prelude.{◌≡◌, ℕ, ◌+◌, ◌*◌, ◌%◌, ◌^◌, ◌≤◌, cond, List, [], ◌∷◌, length, take, ◌==◌, nat_lt, slice_set}
use Rattle.runner.specs.Session as bench
use Rattle.runner.specs.Line.{Answered, answered}
use Rattle.script_bytes.specs.declared.Place.{Place}

-- ---- what the program lends

-- bytes of a part of a script, so many as are read at once
abbrev pub most_part : ℕ
most_part = 1024

-- no line of an answer is longer: the longest has a number of 20 digits, a space, `deadlocked`, and 16 numbers of 20 digits each behind a space
abbrev pub most_answer : ℕ
most_answer = 400

-- the words of a scheduler with limits 16, 64, 64; the output of a dispatch; the numbers of a wait, of which a line of 4,096 bytes has no more;
-- a line, with a byte more to tell one too long; and a text for as many lines as a part has bytes
abbrev pub Lent : List ℕ → List ℕ → List ℕ → List ℕ → List ℕ → Type 0
Lent w out list line text = (length w ≡ 6912) × (length out ≡ 16) × (length list ≡ 2048) × (length line ≡ 4097) × (length text ≡ most_part * most_answer)

-- the bytes that have come stand in the line, and the answers in the text
abbrev pub Within : Place → List ℕ → List ℕ → Type 0
Within p line text = (p.used ≤ length line) × (p.written ≤ length text)

-- ---- the program between two bytes

pub record Machine : Type 0 where
  pub place : Place
  pub words : List ℕ
  pub waiting : List ℕ  -- the output of a dispatch
  pub list : List ℕ  -- the numbers of a wait
  pub line : List ℕ
  pub text : List ℕ

abbrev pub machine : Place → List ℕ → List ℕ → List ℕ → List ℕ → List ℕ → Machine
machine p w out list line text = record { place = p; words = w; waiting = out; list = list; line = line; text = text }

-- before the first byte
unfoldable pub begun : Place
begun = record { used = 0; number = 1; session = bench.begin; written = 0 }

-- the line that has come, answered; lines are numbered modulo 2^64
unfoldable pub finished : Machine → Machine
finished m =
    let a : Answered = answered m.words m.waiting m.list (take m.place.used m.line) m.text m.place.written m.place.number m.place.session in
    machine (record { used = 0; number = (m.place.number + 1) % 2 ^ 64; session = a.session; written = a.end }) a.words a.waiting a.list m.line a.text

-- a byte of a line, kept where there is room
unfoldable pub kept : Machine → ℕ → Machine
kept m b =
    let p = m.place in
    cond (nat_lt p.used (length m.line))
    (machine (record { used = p.used + 1; number = p.number; session = p.session; written = p.written }) m.words m.waiting m.list (slice_set m.line p.used b) m.text)
    m

-- a newline, 10, ends the line
unfoldable pub byte_taken : Machine → ℕ → Machine
byte_taken m b = cond (b == 10) (finished m) (kept m b)

unfoldable pub bytes_taken : Machine → List ℕ → Machine
bytes_taken m [] = m
bytes_taken m (b ∷ bs) = bytes_taken (byte_taken m b) bs

-- answers stand at the start of the text again
abbrev pub from_start : Machine → Machine
from_start m =
    let p = m.place in
    machine (record { used = p.used; number = p.number; session = p.session; written = 0 }) m.words m.waiting m.list m.line m.text

-- a part of a script
unfoldable pub part_taken : Machine → List ℕ → Machine
part_taken m bs = bytes_taken (from_start m) bs

-- the end of a script: a last line without a newline counts
unfoldable pub ended : Machine → Machine
ended m = cond (m.place.used == 0) (from_start m) (finished (from_start m))
