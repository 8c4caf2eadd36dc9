-- The length of a choice of two words, and of the words that one of two outcomes leaves.
use Prim.Native.Nat.{ℕ}
use mathlib.Core.List.{List}
use mathlib.Core.Bool.{Bool, true, false, cond}
use mathlib.Core.Path.{◌≡◌, refl}
use lib.ListN.{length}
use Rattle.answers.specs.Outcome.{Outcome}

pub length-cond : (b : Bool) (x y : List ℕ) → length (cond b x y) ≡ cond b (length x) (length y)
length-cond true x y = refl
length-cond false x y = refl

pub cond_same : (b : Bool) (n : ℕ) → cond b n n ≡ n
cond_same true n = refl
cond_same false n = refl

pub words-cond : (b : Bool) (o p : Outcome) → length (cond b o p).words ≡ cond b (length o.words) (length p.words)
words-cond true o p = refl
words-cond false o p = refl
