-- Where the timer at a position and the last timer stand, said of lists of places.
use Prim.Native.Nat.{ℕ, zero, suc, ◌+◌, ◌-◌, ◌<◌}
use native.Mathlib.Omega.{arith}
use mathlib.Core.Bool.{Bool, cond, true, false}
use mathlib.Core.List.{List, [], ◌∷◌}
use mathlib.Core.Path.{◌≡◌, ◌∙◌, refl, sym, subst, ap}
use borrow.Author.Tests.{ne_eqb}
use lib.Dec.{eqb}
use lib.ListN.{length, set}
use Rattle.std.specs.declared.ops.Range.{Range}
use Rattle.std.specs.List.{slice_get, filter, find, range_with_len}
use Rattle.std.specs.Option.{MatchOption, option_map, unwrap_or}
use Rattle.std.specs.Prelude.{Option, Some}
use Rattle.std.proofs.lemmas.Iterator.{YieldsList}
use Rattle.std.proofs.lemmas.Iterator.Consumers.{YieldsList-from_shown}
use Rattle.words.specs.Layout.{entry_at}
use Rattle.timers.specs.Record.{is_timer}
use Rattle.timers.specs.Release.{marked}
use Rattle.timers.specs.Reads.{is_nth, passed_to, nth_in, last_below}

-- the timer at a position, said of the list of the places
pub nth-filter : (w : List ℕ) (base m i n : ℕ)
    → unwrap_or (option_map (entry_at base) (slice_get (filter (λ k. is_timer w (entry_at base k)) (range_with_len i m)) n)) 0 ≡ nth_in m w base i n
unfolding nth_in is_nth passed_to
nth-filter w base zero i n = refl
nth-filter w base (suc m) i n = go (is_timer w (entry_at base i)) n (λ k. nth-filter w base m (i + 1) k)
  where
    go : (b : Bool) (n : ℕ)
        → ((k : ℕ) → unwrap_or (option_map (entry_at base) (slice_get (filter (λ k. is_timer w (entry_at base k)) (range_with_len (i + 1) m)) k)) 0 ≡ nth_in m w base (i + 1) k)
        → unwrap_or (option_map (entry_at base) (slice_get (cond b (i ∷ filter (λ k. is_timer w (entry_at base k)) (range_with_len (i + 1) m)) (filter (λ k. is_timer w (entry_at base k)) (range_with_len (i + 1) m))) n)) 0
        ≡ cond (cond b (eqb n 0) false) (entry_at base i) (nth_in m w base (i + 1) (cond b (n - 1) n))
    go true zero h = refl
    go true (suc n) h = let e : suc n - 1 ≡ n = omega arith in simp (e, ne_eqb (suc n) 0 (omega arith)) (h n)
    go false n h = h n

-- ---- a range from its end down

abbrev steps_back : Range ℕ → Option ℕ → Range ℕ → Type 0
steps_back s r t = (t.start ≡ s.start) × MatchOption r ((s.end - s.start ≡ 0) × (t.end ≡ s.end)) (λ x. (0 < s.end - s.start) × (x ≡ t.end) × (s.end ≡ t.end + 1))

-- the `n` places from `a` on, the last first
abbrev down : ℕ → ℕ → List ℕ
down zero a = []
down (suc n) a = (a + n) ∷ down n a

down_more : (s : Range ℕ) (x : ℕ) (t : Range ℕ) → steps_back s (Some x) t → down (s.end - s.start) s.start ≡ x ∷ down (t.end - t.start) t.start
down_more s x t p =
    let m : s.end - s.start ≡ suc (t.end - t.start) = omega (arith, p.0, p.1.0, p.1.2) in
    let h : s.start + (t.end - t.start) ≡ x = omega (arith, p.0, p.1.0, p.1.1, p.1.2) in
    let q : t.start ≡ s.start = p.0 in
    ap (λ k. down k s.start) m ∙ ap (λ y. y ∷ down (t.end - t.start) s.start) h ∙ ap (λ a. x ∷ down (t.end - t.start) a) (sym q)

pub YieldsList-from_back : {s : Range ℕ} (n : ℕ) → s ≡ record { start = 0; end = n } → YieldsList steps_back (λ x. x) s (down n 0)
YieldsList-from_back {s} n e =
    let l : s.end - s.start ≡ n = ap (λ (u : Range ℕ). u.end - u.start) e ∙ omega arith in
    let z : s.start ≡ 0 = ap (λ (u : Range ℕ). u.start) e in
    subst (λ k. YieldsList steps_back (λ x. x) s k) (ap (λ k. down k s.start) l ∙ ap (λ a. down n a) z)
    (YieldsList-from_shown steps_back (λ x. x) (λ u. down (u.end - u.start) u.start) (λ u t p. ap (λ k. length (down k u.start)) p.1.0) down_more s)

-- the last timer
pub find-down : (w : List ℕ) (base n : ℕ) → unwrap_or (option_map (entry_at base) (find (λ k. is_timer w (entry_at base k)) (down n 0))) 0 ≡ last_below n w base
unfolding last_below
find-down w base zero = refl
find-down w base (suc n) = let e : 0 + n ≡ n = omega arith in rw e (go (is_timer w (entry_at base n)) (find-down w base n))
  where
    go : (b : Bool)
        → unwrap_or (option_map (entry_at base) (find (λ k. is_timer w (entry_at base k)) (down n 0))) 0 ≡ last_below n w base
        → unwrap_or (option_map (entry_at base) (cond b (Some n) (find (λ k. is_timer w (entry_at base k)) (down n 0)))) 0 ≡ cond b (entry_at base n) (last_below n w base)
    go true h = refl
    go false h = h

-- ---- a record that goes is marked

pub marked-goes : (test : List ℕ → ℕ → Bool) (word : ℕ) (w : List ℕ) (place : ℕ) → test w place ≡ true → marked test word w place ≡ set w (place + word) 9
unfolding marked
marked-goes test word w place e = simp e

pub marked-stays : (test : List ℕ → ℕ → Bool) (word : ℕ) (w : List ℕ) (place : ℕ) → test w place ≡ false → marked test word w place ≡ w
unfolding marked
marked-stays test word w place e = simp e
