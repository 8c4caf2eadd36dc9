-- The list that the numbers of a wait go into never decides how a line is read: a line of 4,096 bytes has no more than 2,048 words.
use Prim.Native.Nat.{ℕ, ◌+◌, ◌≤◌, ◌<◌}
use mathlib.Core.List.{List, [], ◌∷◌, ◌++◌}
use mathlib.Core.Bool.{Bool, true, false, cond}
use mathlib.Core.Path.{◌≡◌, refl, sym, ap, ◌∙◌}
use native.Mathlib.Numerals.{add-one}
use native.Mathlib.Omega.{arith}
use borrow.Author.Tests.{lt-ltb, le-ltb, ltb-false}
use lib.Dec.{ltb}
use Rattle.std.specs.Prelude.{Option, Some, None}
use lib.ListN.{length, length-set, length-take, set, take}
use lib.Seq.{take-suc-set}
use Rattle.script_lex.specs.declared.command.Command.{Command}
use Rattle.script_lex.specs.Names as name
use Rattle.script_lex.specs.Words.{words_of, first, others, same}
use Rattle.script_lex.specs.Numbers.{number_of}
use Rattle.script_lex.specs.Arguments.{most}
use Rattle.script.specs.Scheduler.{short_line}
use Rattle.script.specs.Wait.{Paired, paired, item_of, is_read, told, pairs_of, Taken, taken, wait_command, with_irql, wait_from, with_deadline, wait_until, wait_line}
use Rattle.script.specs.Line.{text_length, text_line, read_line}
use Rattle.script_lex.proofs.Cases as Cases
use Rattle.script_lex.proofs.WordLaws.{words-few}
use Rattle.model.specs.Call as call
use Rattle.commands.specs.Commands.{argument, calls, asked}
use Rattle.program.proofs.Lines.{Ok, unread, short_ok}

fewer-others : (ws : List (List ℕ)) → length (others ws) ≤ length ws
unfolding others
fewer-others [] = omega arith
fewer-others (w ∷ ws) = omega arith

-- ---- pairs read into two lists with room for them

-- none can be read in either, or in both the same numbers
abbrev Alike : Option ℕ → List ℕ → Option ℕ → List ℕ → Type 0
Alike None l None m = Unit
Alike None l (Some k) m = ⊥
Alike (Some n) l None m = ⊥
Alike (Some n) l (Some k) m = (n ≡ k) × (n ≤ length l) × (n ≤ length m) × (take n l ≡ take n m)

abbrev AlikeIn : Paired → Paired → Type 0
AlikeIn a b = Alike a.count a.list b.count b.list

put-alike : (i n : ℕ) (l m : List ℕ) → i < length l → i < length m → take i l ≡ take i m → take (i + 1) (set l i n) ≡ take (i + 1) (set m i n)
put-alike i n l m h k e = simp (add-one i) (take-suc-set l i n h ∙ ap (λ (x : List ℕ). x ++ (n ∷ [])) e ∙ sym (take-suc-set m i n k))

pairs-alike : (ws : List (List ℕ)) (i : ℕ) (l m : List ℕ) → i + length ws ≤ length l → i + length ws ≤ length m → take i l ≡ take i m → AlikeIn (pairs_of ws i l) (pairs_of ws i m)
unfolding pairs_of
pairs-alike [] i l m h k e = (refl, omega arith, omega arith, e)
pairs-alike (w ∷ ws) i l m h k e =
    let p : i < length l = omega arith in
    let q : i < length m = omega arith in
    let n = told (item_of i w) in
    simp (lt-ltb _ _ p, lt-ltb _ _ q)
    (go (is_read (item_of i w))
    (pairs-alike ws (i + 1) (set l i n) (set m i n) (omega (arith, length-set l i n)) (omega (arith, length-set m i n)) (put-alike i n l m p q e)))
  where
    go : (b : Bool) → AlikeIn (pairs_of ws (i + 1) (set l i (told (item_of i w)))) (pairs_of ws (i + 1) (set m i (told (item_of i w))))
        → AlikeIn (cond b (pairs_of ws (i + 1) (set l i (told (item_of i w)))) (paired None l)) (cond b (pairs_of ws (i + 1) (set m i (told (item_of i w)))) (paired None m))
    go true x = x
    go false x = tt

length_pairs : (ws : List (List ℕ)) (i : ℕ) (l : List ℕ) → length (pairs_of ws i l).list ≡ length l
unfolding pairs_of
length_pairs [] i l = refl
length_pairs (w ∷ ws) i l = go (ltb i (length l)) (is_read (item_of i w)) (length_pairs ws (i + 1) (set l i (told (item_of i w))) ∙ length-set l i (told (item_of i w)))
  where
    go : (a b : Bool) → length (pairs_of ws (i + 1) (set l i (told (item_of i w)))).list ≡ length l
        → length (cond a (cond b (pairs_of ws (i + 1) (set l i (told (item_of i w)))) (paired None l)) (paired None l)).list ≡ length l
    go true true e = e
    go true false e = refl
    go false b e = refl

-- ---- a line read with two lists

module _ (l m : List ℕ) where
  -- it means the same call, and leaves the first list as long as it was
  record TakenAlike (t u : Taken) : Type 0 where
    means : asked t.list t.command ≡ asked u.list u.command
    long : length t.list ≡ length l

  -- a command that takes nothing from the list
  listless : (c : Option Command) → Ok c → TakenAlike (taken c l) (taken c m)
  listless c h = record { means = h.alike l m; long = refl }

  unread-alike : TakenAlike (taken None l) (taken None m)
  unread-alike = listless None unread

  one_of : (b : Bool) {t u t' u' : Taken} → TakenAlike t u → TakenAlike t' u' → TakenAlike (cond b t t') (cond b u u')
  one_of true h k = h
  one_of false h k = k

  wait-means : (all : Bool) (deadline : Option ℕ) (irql : ℕ) (p q : Option ℕ) (a b : List ℕ) → Alike p a q b → asked a (wait_command all deadline irql p) ≡ asked b (wait_command all deadline irql q)
  unfolding wait_command asked
  wait-means all deadline irql None None a b h = refl
  wait-means all deadline irql None (Some k) a b h = absurd h
  wait-means all deadline irql (Some n) None a b h = absurd h
  wait-means all deadline irql (Some n) (Some k) a b h =
      simp (sym h.0, le-ltb _ _ h.1, le-ltb _ _ h.2) (ap (λ (ns : List ℕ). calls (call.Wait ns all (argument deadline) irql) tt) h.3)

  module _ (room : 2048 ≤ length l) (room' : 2048 ≤ length m) where
    irql-alike : (all : Bool) (deadline : Option ℕ) (x : Option ℕ) (ws : List (List ℕ)) → length ws ≤ 2048 → TakenAlike (with_irql all deadline x ws l) (with_irql all deadline x ws m)
    unfolding with_irql
    irql-alike all deadline None ws h = unread-alike
    irql-alike all deadline (Some irql) ws h =
        record {
          means = wait-means all deadline irql _ _ _ _ (pairs-alike ws 0 l m (omega arith) (omega arith) refl);
          long = length_pairs ws 0 l;
        }

    from-alike : (all : Bool) (deadline : Option ℕ) (ws : List (List ℕ)) → length ws ≤ 2048 → TakenAlike (wait_from all deadline ws l) (wait_from all deadline ws m)
    unfolding wait_from
    from-alike all deadline ws h = irql-alike all deadline (number_of 255 (first ws)) (others ws) (omega (arith, fewer-others ws))

    deadline-alike : (all : Bool) (x : Option ℕ) (ws : List (List ℕ)) → length ws ≤ 2048 → TakenAlike (with_deadline all x ws l) (with_deadline all x ws m)
    unfolding with_deadline
    deadline-alike all None ws h = unread-alike
    deadline-alike all (Some n) ws h = from-alike all (Some n) ws h

    until-alike : (all : Bool) (ws : List (List ℕ)) → length ws ≤ 2048 → TakenAlike (wait_until all ws l) (wait_until all ws m)
    unfolding wait_until
    until-alike all ws h =
        let k : length (others ws) ≤ 2048 = omega (arith, fewer-others ws) in
        one_of (same (first ws) name.never) (from-alike all None (others ws) k) (deadline-alike all (number_of most (first ws)) (others ws) k)

    line-alike : (ws : List (List ℕ)) → length ws ≤ 2048 → TakenAlike (wait_line ws l) (wait_line ws m)
    unfolding wait_line
    line-alike ws h =
        let k : length (others ws) ≤ 2048 = omega (arith, fewer-others ws) in
        one_of (same (first ws) name.any) (until-alike false (others ws) k) (one_of (same (first ws) name.all) (until-alike true (others ws) k) unread-alike)

    text-alike : (ws : List (List ℕ)) → length ws ≤ 2048 → TakenAlike (text_line ws l) (text_line ws m)
    unfolding text_line
    text-alike ws h = one_of (same (first ws) name.wait) (line-alike (others ws) (omega (arith, fewer-others ws))) (listless (short_line ws) (short_ok ws))

    read_alike : (s : List ℕ) → TakenAlike (read_line s l) (read_line s m)
    unfolding read_line
    read_alike s =
        Cases.either (ltb 4096 (length s)) (λ e. simp e unread-alike)
        (λ e. simp e (text-alike (words_of (take (text_length s) s)) (omega (arith, ltb-false 4096 (length s) e, length-take (text_length s) s, words-few (take (text_length s) s)))))

-- whatever list of 2,048 numbers or more is lent, a line means the same call
pub means-alike : (s l m : List ℕ) → 2048 ≤ length l → 2048 ≤ length m → asked (read_line s l).list (read_line s l).command ≡ asked (read_line s m).list (read_line s m).command
means-alike s l m h k = (read_alike l m h k s).means

pub list-long : (s l : List ℕ) → 2048 ≤ length l → length (read_line s l).list ≡ length l
list-long s l h = (read_alike l l h h s).long
