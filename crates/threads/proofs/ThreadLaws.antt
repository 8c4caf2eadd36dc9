-- The laws of filling and writing places, as the code counts.
use Prim.Native.Nat.{ℕ, zero, suc, ◌+◌, ◌-◌, ◌≤◌, ◌<◌}
use native.Mathlib.Omega.{arith}
use native.Mathlib.Numerals.{add-one}
use mathlib.Core.List.{List}
use mathlib.Core.Bool.{Bool, cond, true, false}
use mathlib.Core.Path.{◌≡◌, refl, ap, ◌∙◌}
use lib.Seq.{get_or-take}
use Rattle.words.proofs.Walks.{walk-more, walk-done}
use lib.Dec.{leb}
use borrow.Author.Tests.{leb-true}
use lib.ListN.{get_or, set, length, length-set, replicate, take}
use Rattle.words.specs.Layout as at
use Rattle.threads.specs.Thread.{thread_count, filled, put_places}

pub filled_next : (k : ℕ) (list : List ℕ) → filled (k + 1) list ≡ set (filled k list) k (get_or list k 0)
unfolding filled
filled_next k list = rw add-one

pub filled-length : (k : ℕ) (list : List ℕ) → length (filled k list) ≡ 128
unfolding filled
filled-length zero list = refl
filled-length (suc k) list = simp (length-set, filled-length k list)

-- one turn
pub put-more : (n : ℕ) (w : List ℕ) (place : ℕ) (places : List ℕ) (i : ℕ) → i < n
    → put_places (n - i) w place places i ≡ put_places (n - (i + 1)) (set w (place + i) (get_or places i 0)) place places (i + 1)
unfolding put_places
put-more n w place places i h = walk-more (λ i w. set w (place + i) (get_or places i 0)) (λ m i w. put_places m w place places i) (λ m i w. refl) n i w h

pub put-done : (n : ℕ) (w : List ℕ) (place : ℕ) (places : List ℕ) (i : ℕ) → n ≤ i → put_places (n - i) w place places i ≡ w
unfolding put_places
put-done n w place places i h = walk-done (λ m i w. put_places m w place places i) (λ i w. refl) n i w h

-- only the places written are read
pub put-taken : (k : ℕ) (w : List ℕ) (place : ℕ) (places : List ℕ) (n i : ℕ) → i + k ≤ n → put_places k w place (take n places) i ≡ put_places k w place places i
unfolding put_places
put-taken zero w place places n i h = refl
put-taken (suc k) w place places n i h =
    ap (λ v. put_places k (set w (place + i) v) place (take n places) (i + 1)) (get_or-take n places i 0 (omega arith))
    ∙ put-taken k (set w (place + i) (get_or places i 0)) place places n (i + 1) (omega arith)

pub filled_none : (list : List ℕ) → replicate 128 0 ≡ filled 0 list
unfolding filled
filled_none list = refl

pub count_small : (w : List ℕ) → thread_count w ≤ at.most_threads
unfolding thread_count
count_small w = go (leb (get_or w at.threads 0) at.most_threads) refl
  where
    go : (b : Bool) → leb (get_or w at.threads 0) at.most_threads ≡ b → cond b (get_or w at.threads 0) at.most_threads ≤ at.most_threads
    go true e = leb-true _ _ e
    go false e = omega arith
