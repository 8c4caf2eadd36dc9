-- A thread's record and its wait written: as many words.
use Prim.Native.Nat.{ℕ, zero, suc, ◌+◌}
use mathlib.Core.List.{List}
use mathlib.Core.Path.{◌≡◌, refl, ◌∙◌}
use lib.ListN.{get_or, set, length, length-set}
use Rattle.threads.specs.declared.Thread.{Thread}
use Rattle.threads.specs.declared.Wait.{Wait}
use Rattle.threads.specs.Thread.{put_thread, put_places, put_terms, put_wait}

pub length-put-thread : (w : List ℕ) (id : ℕ) (t : Thread) → length (put_thread w id t) ≡ length w
unfolding put_thread
length-put-thread w id t = simp length-set

pub length-put-places : (k : ℕ) (w : List ℕ) (place : ℕ) (places : List ℕ) (i : ℕ) → length (put_places k w place places i) ≡ length w
unfolding put_places
length-put-places zero w place places i = refl
length-put-places (suc k) w place places i = length-put-places k (set w (place + i) (get_or places i 0)) place places (i + 1) ∙ length-set w (place + i) (get_or places i 0)

pub length-put-terms : (w : List ℕ) (id : ℕ) (x : Wait) → length (put_terms w id x) ≡ length w
unfolding put_terms
length-put-terms w id x = simp length-set

pub length-put-wait : (w : List ℕ) (id : ℕ) (x : Wait) → length (put_wait w id x) ≡ length w
unfolding put_wait
length-put-wait w id x = simp (length-put-places, length-put-terms)
