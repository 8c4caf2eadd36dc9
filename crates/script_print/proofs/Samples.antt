-- Answers written, among them those of document 01's script.
use mathlib.Core.Path.{◌≡◌, refl}
use mathlib.Core.Bool.{false}
use mathlib.Core.List.{[], ◌∷◌}
use Rattle.answers.specs.declared.Answer.TheVariants as answer
use Rattle.script_lex.specs.Text.{bytes_of}
use Rattle.script_print.specs.Print.{decimal_in, spaced, flag_text, answer_text, answer_line, bare_answer}

writes :
    (answer_line 1 answer.Done ([]) ≡ bytes_of "1 ok\n")
    × (answer_line 3 (answer.Thread 2) ([]) ≡ bytes_of "3 thread 2\n")
    × (answer_line 4 answer.Blocked ([]) ≡ bytes_of "4 blocked\n")
    × (answer_line 5 (answer.Run 2) ([]) ≡ bytes_of "5 run 2\n")
    × (answer_line 6 (answer.Flag false) ([]) ≡ bytes_of "6 no\n")
    × (answer_line 10 (bare_answer (answer.Thread 2)) ([]) ≡ bytes_of "10 2\n")
    × (answer_line 120 (answer.Deadlocked 2) (2 ∷ 15 ∷ 9 ∷ []) ≡ bytes_of "120 deadlocked 2 15\n")
    × (answer_line 7 (answer.Refused 28) ([]) ≡ bytes_of "7 refused 28\n")
    × (answer_line 8 (answer.Count 18446744073709551615) ([]) ≡ bytes_of "8 18446744073709551615\n")
unfolding decimal_in spaced flag_text answer_text answer_line bare_answer
writes = (refl, refl, refl, refl, refl, refl, refl, refl, refl)
