use borrow.Author.Rules.{rules}
use borrow.Author.Tests.{ne_eqb}
use Rattle.refusal_text.specs.Sentences.{sentence, sentence8, sentence15, sentence22}
use Rattle.refusal_text.proofs.put_sentence.Goals as goal

pub returns-in_default : goal.returns-in_default
unfolding sentence sentence8 sentence15 sentence22
returns-in_default c = let n = c.args.number in
    simp (ne_eqb n 1 (search rules), ne_eqb n 2 (search rules), ne_eqb n 3 (search rules), ne_eqb n 4 (search rules), ne_eqb n 5 (search rules), ne_eqb n 6 (search rules), ne_eqb n 7 (search rules), ne_eqb n 8 (search rules), ne_eqb n 9 (search rules), ne_eqb n 10 (search rules), ne_eqb n 11 (search rules), ne_eqb n 12 (search rules), ne_eqb n 13 (search rules), ne_eqb n 14 (search rules), ne_eqb n 15 (search rules), ne_eqb n 16 (search rules), ne_eqb n 17 (search rules), ne_eqb n 18 (search rules), ne_eqb n 19 (search rules), ne_eqb n 20 (search rules), ne_eqb n 21 (search rules), ne_eqb n 22 (search rules), ne_eqb n 23 (search rules), ne_eqb n 24 (search rules), ne_eqb n 25 (search rules), ne_eqb n 26 (search rules), ne_eqb n 27 (search rules), ne_eqb n 28 (search rules)) c.push_bytes-in_default.ensures
