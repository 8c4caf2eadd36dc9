-- The theorem over every script: for ANY bytes, in whatever parts they come, on ANY words, output, list, line and text of the program's, what
-- the program writes is the text of what the log says of the calls that the lines mean, line by line, each with its number.
use Prim.Native.Nat.{ℕ, zero, suc, ◌+◌, ◌*◌, ◌^◌, ◌%◌, ◌≤◌, ◌<◌}
use mathlib.Core.List.{List, [], ◌∷◌, ◌++◌, append-nil, append_assoc}
use mathlib.Core.Bool.{true, false}
use mathlib.Core.Path.{◌≡◌, refl, sym, ap, ap₂, subst, ◌∙◌}
use native.Mathlib.Numerals.{add-one}
use native.Mathlib.Omega.{arith}
use borrow.Author.Tests.{lt-ltb, ltb-true, ltb-false, eqb-true, eq-eqb, ne_eqb}
use lib.Dec.{eqb, ltb}
use lib.ListN.{length, replicate, length-replicate, length-set, length-take, length-append, set, take}
use lib.Seq.{take_all, take-suc-set, take-append-le, length-take-le}
use Rattle.answers.specs.declared.Answer as code
use Rattle.answers.specs.declared.Answer.TheVariants as answer
use Rattle.script.specs.Wait.{Taken}
use Rattle.script.specs.Line.{read_line}
use Rattle.script_print.specs.Print.{printed}
use Rattle.script_print.specs.Print as print
use Rattle.script_print.proofs.RoomLaws.{printed-end, printed-up-to, line-short}
use Rattle.script_print.proofs.PrintLaws.{printed-length}
use Rattle.script_lex.proofs.Cases.{either}
use Rattle.runner.specs.declared.session.Session.{Session}
use Rattle.runner.specs.Session.{begin, Performed, performed}
use Rattle.runner.specs.Line.{answered}
use Rattle.commands.specs.Commands.{Asked, asked}
use Rattle.script_bytes.specs.Bytes.{most_part, most_answer, Lent, Machine, machine, begun, finished, kept, byte_taken, bytes_taken, from_start, part_taken, ended}
use Rattle.model.specs.State.{State}
use Rattle.model.specs.Fits.{U64s}
use Rattle.call_answers.specs.Told.{told_with}
use Rattle.program.specs.Script.{AskedFits, Logged, logged, log_answers}
use Rattle.program.specs.Bytes.{cut, lines_of, joined, meant, meanings, answer_text, answer_line, text_from, gathered, writes}
use Rattle.program.proofs.Script.{Stands, Same, follows, at_first}
use Rattle.program.proofs.Lines.{read_fits}
use Rattle.program.proofs.WaitList.{means-alike, list-long}

-- ---- the text of an answer is that of the log's

text-is : (a : code.Answer) (out : List ℕ) → print.answer_text a out ≡ answer_text (told_with out a)
unfolding print.answer_text answer_text
text-is (answer.Refused n) out = refl
text-is answer.Done out = refl
text-is answer.None out = refl
text-is (answer.Thread n) out = refl
text-is (answer.Flag b) out = refl
text-is (answer.Count n) out = refl
text-is (answer.Satisfied n) out = refl
text-is answer.Timeout out = refl
text-is answer.Blocked out = refl
text-is (answer.Run n) out = refl
text-is (answer.AdvanceTo n) out = refl
text-is (answer.Deadlocked n) out = refl
text-is answer.Finished out = refl
text-is (answer.Event key manual signaled) out = refl

line-is : (number : ℕ) (a : code.Answer) (out : List ℕ) → print.answer_line number a out ≡ answer_line number (told_with out a)
unfolding print.answer_line
line-is number a out = ap (λ (t : List ℕ). print.decimal number ++ (32 ∷ []) ++ t ++ (10 ∷ [])) (text-is a out)

-- ---- of a line too long, 4,097 bytes tell it

read-cut : (line list : List ℕ) → read_line (take 4097 line) list ≡ read_line line list
unfolding read_line
read-cut line list = either (ltb 4096 (length line)) long short
  where
    long : ltb 4096 (length line) ≡ true → read_line (take 4097 line) list ≡ read_line line list
    long e = let l : 4096 < length (take 4097 line) = omega (arith, length-take 4097 line, ltb-true 4096 (length line) e) in simp (e, lt-ltb _ _ l)

    short : ltb 4096 (length line) ≡ false → read_line (take 4097 line) list ≡ read_line line list
    short e = ap (λ (x : List ℕ). read_line x list) (take_all 4097 line (omega (arith, ltb-false 4096 (length line) e)))

-- ---- what a line means

noughts-fit : (n : ℕ) → U64s (replicate n 0)
noughts-fit zero = tt
noughts-fit (suc n) = (omega arith, noughts-fit n)

meant-fits : (line : List ℕ) → AskedFits (meant line)
unfolding meant
meant-fits line = (read_fits (replicate 2048 0) (noughts-fit 2048) line).0

-- read with the program's list it means the same
means : (line list : List ℕ) → 2048 ≤ length list → asked (read_line (take 4097 line) list).list (read_line (take 4097 line) list).command ≡ meant line
unfolding meant
means line list h =
    ap (λ (t : Taken). asked t.list t.command) (read-cut line list)
    ∙ means-alike line list (replicate 2048 0) h (omega (arith, length-replicate {A = ℕ} 2048 0))

-- ---- the program between two bytes, and the log

record Holds (m : Machine) (l : List ℕ) (s : Session) (st : State) (n : ℕ) : Type 0 where
  stands : Stands m.words m.waiting s st
  session : m.place.session ≡ s
  number : m.place.number ≡ n
  pending : take m.place.used m.line ≡ take 4097 l
  used : m.place.used ≤ 4097
  list : 2048 ≤ length m.list
  line : length m.line ≡ 4097
  text : length m.text ≡ most_part * most_answer

-- a list cut behind its first elements has no more of them
one_more : {A : Type 0} (n : ℕ) (l : List A) (a : A) → n ≤ length l → take n (l ++ (a ∷ [])) ≡ take n l
one_more n l a h = take-append-le n l (a ∷ []) h

used-is : (m : Machine) (line : List ℕ) (s : Session) (st : State) (n : ℕ) → Holds m line s st n → m.place.used ≡ length (take 4097 line)
used-is m line s st n h = sym (length-take-le m.place.used m.line (omega (arith, h.line, h.used))) ∙ ap length h.pending

-- ---- a byte of a line

module _ (m : Machine) (line : List ℕ) (s : Session) (st : State) (n : ℕ) (h : Holds m line s st n) (b : ℕ) where
  -- it is kept, and the text stays
  record Kept (k : Machine) : Type 0 where
    holds : Holds k (line ++ (b ∷ [])) s st n
    text : gathered k ≡ gathered m
    written : k.place.written ≡ m.place.written

  keeps : Kept (kept m b)
  unfolding kept
  keeps = either (ltb m.place.used (length m.line)) there full
    where
      there : ltb m.place.used (length m.line) ≡ true → Kept (kept m b)
      there e =
          let l : m.place.used < length m.line = ltb-true m.place.used (length m.line) e in
          let u : length (take 4097 line) < 4097 = omega (arith, used-is m line s st n h, h.line, l) in
          let short : length line ≤ 4096 = omega (arith, u, length-take 4097 line) in
          let whole : take 4097 line ≡ line = take_all 4097 line (omega arith) in
          simp e
          (record {
            holds = record {
              stands = h.stands;
              session = h.session;
              number = h.number;
              pending =
                  ap (λ (k : ℕ). take k (set m.line m.place.used b)) (add-one m.place.used) ∙ take-suc-set m.line m.place.used b l
                  ∙ ap (λ (x : List ℕ). x ++ (b ∷ [])) (h.pending ∙ whole) ∙ sym (take_all 4097 (line ++ (b ∷ [])) (omega (arith, short, length-append line (b ∷ []))));
              used = omega (arith, l, h.line);
              list = h.list;
              line = length-set m.line m.place.used b ∙ h.line;
              text = h.text;
            };
            text = refl;
            written = refl;
          })

      full : ltb m.place.used (length m.line) ≡ false → Kept (kept m b)
      full e =
          let l : length m.line ≤ m.place.used = ltb-false m.place.used (length m.line) e in
          let long : 4097 ≤ length line = omega (arith, l, h.line, used-is m line s st n h, length-take 4097 line) in
          simp e
          (record {
            holds = record {
              stands = h.stands;
              session = h.session;
              number = h.number;
              pending = h.pending ∙ sym (one_more 4097 line b long);
              used = h.used;
              list = h.list;
              line = h.line;
              text = h.text;
            };
            text = refl;
            written = refl;
          })

-- ---- the end of a line

module _ (m : Machine) (line : List ℕ) (s : Session) (st : State) (n : ℕ) (h : Holds m line s st n) where
  abbrev by-log : Logged
  by-log = logged s st (meant line)

  -- it is answered as the log says, behind what has been gathered, and the next begins
  record Answers (k : Machine) : Type 0 where
    holds : Holds k [] by-log.session by-log.state ((n + 1) % 2 ^ 64)
    text : gathered k ≡ gathered m ++ answer_line n by-log.answer
    written : k.place.written ≤ m.place.written + most_answer

  abbrev read : Taken
  read = read_line (take 4097 line) m.list

  abbrev done : Performed
  done = performed m.words m.waiting read.list s read.command

  same : Same done by-log
  same = subst (λ (x : Asked). Same done (logged s st x)) (means line m.list h.list)
      (follows m.words m.waiting s st h.stands read.list read.command (subst AskedFits (sym (means line m.list h.list)) (meant-fits line)))

  abbrev said : List ℕ
  said = print.answer_line n done.step.answer done.waiting

  answered-is : (m.place.used ≤ length m.line) → answered m.words m.waiting m.list (take m.place.used m.line) m.text m.place.written m.place.number m.place.session
      ≡ record {
        session = done.step.session;
        words = done.words;
        waiting = done.waiting;
        list = read.list;
        text = (printed m.text m.place.written said).text;
        end = (printed m.text m.place.written said).at;
      }
  unfolding answered
  answered-is u =
      ap₂ (λ (x : List ℕ) (y : Session). answered m.words m.waiting m.list x m.text m.place.written m.place.number y) h.pending h.session
      ∙ ap (λ (k : ℕ). answered m.words m.waiting m.list (take 4097 line) m.text m.place.written k s) h.number

  answers : m.place.written + most_answer ≤ length m.text → Answers (finished m)
  unfolding finished
  answers room =
      let short : length said ≤ most_answer = omega (arith, line-short n done.step.answer done.waiting, same.stands.room) in
      let fits : m.place.written + length said ≤ length m.text = omega (arith, room, short) in
      let end = printed-end m.text m.place.written said fits in
      simp (answered-is (omega (arith, h.used, h.line)))
      (record {
        holds = record {
          stands = same.stands;
          session = same.session;
          number = ap (λ (k : ℕ). (k + 1) % 2 ^ 64) h.number;
          pending = refl;
          used = omega arith;
          list = omega (arith, list-long (take 4097 line) m.list h.list, h.list);
          line = h.line;
          text = printed-length m.text m.place.written said ∙ h.text;
        };
        text = ap (λ (k : ℕ). take k (printed m.text m.place.written said).text) end ∙ printed-up-to m.text m.place.written said fits
            ∙ ap (λ (x : List ℕ). gathered m ++ x) (line-is n done.step.answer done.waiting ∙ ap (answer_line n) same.answer);
        written = omega (arith, end, short);
      })

-- ---- bytes

-- what the program still has to write: from a line that has begun, and with the bytes to come
abbrev rest : Session → State → ℕ → List ℕ → List ℕ → List ℕ
rest s st n line bs = text_from n (log_answers s st (meanings (cut line bs)))

rest-newline : (s : Session) (st : State) (n : ℕ) (line bs : List ℕ)
    → rest s st n line (10 ∷ bs) ≡ answer_line n (logged s st (meant line)).answer ++ rest (logged s st (meant line)).session (logged s st (meant line)).state ((n + 1) % 2 ^ 64) [] bs
unfolding cut
rest-newline s st n line bs = refl

rest-letter : (s : Session) (st : State) (n : ℕ) (line bs : List ℕ) (b : ℕ) → eqb b 10 ≡ false → rest s st n line (b ∷ bs) ≡ rest s st n (line ++ (b ∷ [])) bs
unfolding cut
rest-letter s st n line bs b e = simp e

-- after some bytes the program stands at a line, with a log, such that what is gathered and what is still to write are what they were before
record Goes (m : Machine) (line : List ℕ) (s : Session) (st : State) (n : ℕ) (bs more : List ℕ) (k : Machine) : Type 0 where
  line-now : List ℕ
  session-now : Session
  state-now : State
  number-now : ℕ
  holds : Holds k line-now session-now state-now number-now
  text : gathered k ++ rest session-now state-now number-now line-now more ≡ gathered m ++ rest s st n line (bs ++ more)

taken_none : (m : Machine) → bytes_taken m [] ≡ m
unfolding bytes_taken
taken_none m = refl

taken-newline : (m : Machine) (b : ℕ) (bs : List ℕ) → eqb b 10 ≡ true → bytes_taken m (b ∷ bs) ≡ bytes_taken (finished m) bs
unfolding bytes_taken byte_taken
taken-newline m b bs e = simp e

taken-letter : (m : Machine) (b : ℕ) (bs : List ℕ) → eqb b 10 ≡ false → bytes_taken m (b ∷ bs) ≡ bytes_taken (kept m b) bs
unfolding bytes_taken byte_taken
taken-letter m b bs e = simp e

module _ (b : ℕ) (bs more : List ℕ) (m : Machine) (line : List ℕ) (s : Session) (st : State) (n : ℕ) (h : Holds m line s st n) (k : Machine) where
  goes-newline : eqb b 10 ≡ true → Answers m line s st n h (finished m)
      → let l = by-log m line s st n h in Goes (finished m) [] l.session l.state ((n + 1) % 2 ^ 64) bs more k → Goes m line s st n (b ∷ bs) more k
  goes-newline e a g =
      let l = by-log m line s st n h in
      record {
        line-now = g.line-now;
        session-now = g.session-now;
        state-now = g.state-now;
        number-now = g.number-now;
        holds = g.holds;
        text =
            g.text ∙ ap (λ (x : List ℕ). x ++ rest l.session l.state ((n + 1) % 2 ^ 64) [] (bs ++ more)) a.text
            ∙ append_assoc (gathered m) (answer_line n l.answer) (rest l.session l.state ((n + 1) % 2 ^ 64) [] (bs ++ more))
            ∙ ap (λ (x : List ℕ). gathered m ++ x) (sym (rest-newline s st n line (bs ++ more)))
            ∙ ap (λ (x : ℕ). gathered m ++ rest s st n line (x ∷ bs ++ more)) (sym (eqb-true b 10 e));
      }

  goes-letter : eqb b 10 ≡ false → Kept m line s st n h b (kept m b) → Goes (kept m b) (line ++ (b ∷ [])) s st n bs more k → Goes m line s st n (b ∷ bs) more k
  goes-letter e x g =
      record {
        line-now = g.line-now;
        session-now = g.session-now;
        state-now = g.state-now;
        number-now = g.number-now;
        holds = g.holds;
        text = g.text ∙ ap (λ (y : List ℕ). y ++ rest s st n (line ++ (b ∷ [])) (bs ++ more)) x.text ∙ ap (λ (y : List ℕ). gathered m ++ y) (sym (rest-letter s st n line (bs ++ more) b e));
      }

goes : (bs more : List ℕ) (m : Machine) (line : List ℕ) (s : Session) (st : State) (n : ℕ) → Holds m line s st n → m.place.written + most_answer * length bs ≤ length m.text
    → Goes m line s st n bs more (bytes_taken m bs)
goes [] more m line s st n h room =
    subst (Goes m line s st n [] more) (sym (taken_none m)) (record { line-now = line; session-now = s; state-now = st; number-now = n; holds = h; text = refl })
goes (b ∷ bs) more m line s st n h room =
    either (eqb b 10)
    (λ e.
    let l = by-log m line s st n h in
    let a = answers m line s st n h (omega (arith, room)) in
    subst (Goes m line s st n (b ∷ bs) more) (sym (taken-newline m b bs e)) (goes-newline b bs more m line s st n h (bytes_taken (finished m) bs) e a
    (goes bs more (finished m) [] l.session l.state ((n + 1) % 2 ^ 64) a.holds (omega (arith, room, a.written, a.holds.text, h.text)))))
    (λ e.
    let k = keeps m line s st n h b in
    subst (Goes m line s st n (b ∷ bs) more) (sym (taken-letter m b bs e)) (goes-letter b bs more m line s st n h (bytes_taken (kept m b) bs) e k
    (goes bs more (kept m b) (line ++ (b ∷ [])) s st n k.holds (omega (arith, room, k.written, k.holds.text, h.text)))))

-- ---- parts

-- parts of a script, each of at most as many bytes as are read at once
abbrev pub Parts : List (List ℕ) → Type 0
Parts [] = Unit
Parts (part ∷ parts) = (length part ≤ most_part) × Parts parts

anew : (m : Machine) (line : List ℕ) (s : Session) (st : State) (n : ℕ) → Holds m line s st n → Holds (from_start m) line s st n
anew m line s st n h = record { stands = h.stands; session = h.session; number = h.number; pending = h.pending; used = h.used; list = h.list; line = h.line; text = h.text }

-- at the end a line that has begun counts
ends : (m : Machine) (line : List ℕ) (s : Session) (st : State) (n : ℕ) → Holds m line s st n → gathered (ended m) ≡ rest s st n line []
unfolding ended cut
ends m [] s st n h =
    let u : m.place.used ≡ 0 = used-is m [] s st n h in
    simp (eq-eqb m.place.used 0 u)
ends m (b ∷ line) s st n h =
    let u : m.place.used ≡ 0 → ⊥ = λ e. not-zero (sym (used-is m (b ∷ line) s st n h) ∙ e) in
    let a = answers (from_start m) (b ∷ line) s st n (anew m (b ∷ line) s st n h) (omega (arith, h.text)) in
    simp (ne_eqb m.place.used 0 u) (a.text ∙ sym (append-nil (answer_line n (logged s st (meant (b ∷ line))).answer)))
  where
    not-zero : length (take 4097 (b ∷ line)) ≡ 0 → ⊥
    not-zero e = absurd (omega (arith, e, length-take 4097 (b ∷ line)))

parts-write : (parts : List (List ℕ)) (m : Machine) (line : List ℕ) (s : Session) (st : State) (n : ℕ) → Holds m line s st n → Parts parts → writes m parts ≡ rest s st n line (joined parts)
unfolding part_taken
parts-write [] m line s st n h p = ends m line s st n h
parts-write (part ∷ parts) m line s st n h p =
    let g = goes part (joined parts) (from_start m) line s st n (anew m line s st n h) (omega (arith, p.0, h.text)) in
    ap (λ (x : List ℕ). gathered (bytes_taken (from_start m) part) ++ x) (parts-write parts (bytes_taken (from_start m) part) g.line-now g.session-now g.state-now g.number-now g.holds p.1) ∙ g.text

pub script-bytes : (w out list line text : List ℕ) → Lent w out list line text → (parts : List (List ℕ)) → Parts parts → (st : State)
    → writes (machine begun w out list line text) parts ≡ text_from 1 (log_answers begin st (meanings (lines_of (joined parts))))
unfolding begun
script-bytes w out list line text lent parts p st =
    parts-write parts (machine begun w out list line text) [] begin st 1
    (record {
      stands = at_first w out st lent.0 lent.1;
      session = refl;
      number = refl;
      pending = refl;
      used = omega arith;
      list = omega (arith, lent.2);
      line = lent.3;
      text = lent.4;
    })
    p
