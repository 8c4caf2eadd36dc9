-- The first available place is at most the end; a thread waits for at most 64 objects; a list is read where it stands
-- as it is read from its place on.
use Prim.Native.Nat.{ℕ, zero, suc, ◌+◌, ◌*◌, ◌≤◌}
use native.Mathlib.Omega.{arith}
use mathlib.Core.List.{List}
use mathlib.Core.Bool.{Bool, cond, true, false}
use mathlib.Core.Path.{◌≡◌, refl, ap, ◌∙◌}
use lib.ListN.{get_or, drop}
use lib.Dec.{leb}
use lib.Seq.{get_or-drop}
use borrow.Author.Tests.{leb-true}
use Rattle.words.specs.Layout as at
use Rattle.words.specs.Layout.{thread_at}
use Rattle.threads.specs.Thread.{count_of}
use Rattle.waits.specs.Object.{available}
use Rattle.waits.specs.Lists.{kind_in, key_in, first_in, index_in}

pub first-within : (m : ℕ) (w src : List ℕ) (at i : ℕ) → first_in m w src at i ≤ i + m
unfolding first_in
first-within zero w src at i = omega arith
first-within (suc m) w src at i = go (available w (kind_in src at i) (key_in src at i)) (first-within m w src at (i + 1))
  where
    go : (b : Bool) → first_in m w src at (i + 1) ≤ i + 1 + m → cond b i (first_in m w src at (i + 1)) ≤ i + suc m
    go true h = omega arith
    go false h = omega arith

pub count_most : (w : List ℕ) (id : ℕ) → count_of w id ≤ 64
unfolding count_of
count_most w id = go (leb (get_or w (thread_at id + at.wait_count) 0) 64) refl
  where
    go : (b : Bool) → leb (get_or w (thread_at id + at.wait_count) 0) 64 ≡ b → cond b (get_or w (thread_at id + at.wait_count) 0) 64 ≤ 64
    go true e = leb-true _ _ e
    go false e = omega arith

pub kind-drop : (src : List ℕ) (at i : ℕ) → kind_in (drop at src) 0 i ≡ kind_in src at i
unfolding kind_in
kind-drop src at i = ap (λ j. get_or (drop at src) j 0) (omega arith) ∙ get_or-drop at src (2 * i) 0

pub key-drop : (src : List ℕ) (at i : ℕ) → key_in (drop at src) 0 i ≡ key_in src at i
unfolding key_in
key-drop src at i = ap (λ j. get_or (drop at src) j 0) (omega arith) ∙ get_or-drop at src (2 * i + 1) 0

pub first-drop : (m : ℕ) (w src : List ℕ) (at i : ℕ) → first_in m w (drop at src) 0 i ≡ first_in m w src at i
unfolding first_in
first-drop zero w src at i = refl
first-drop (suc m) w src at i = simp (kind-drop src at i, key-drop src at i, first-drop m w src at (i + 1))

pub index-drop : (w src : List ℕ) (at n all : ℕ) → index_in w (drop at src) 0 n all ≡ index_in w src at n all
unfolding index_in
index-drop w src at n all = simp (first-drop n w src at 0)
