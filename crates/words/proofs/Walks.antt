-- A definition that walks from a place on, one place a step, is what `any`, `all`, `find` or `fold` over a range answers, and what a
-- `for` over the range has made.
use Prim.Native.Nat.{ℕ, zero, suc, ◌+◌, ◌-◌, ◌<◌, ◌≤◌}
use native.Mathlib.Omega.{arith}
use mathlib.Core.Bool.{Bool, true, false, cond, not, ◌&&◌, ◌||◌}
use mathlib.Core.List.{List}
use mathlib.Core.Path.{◌≡◌, refl, sym, ap, ◌∙◌}
use denote.Ref.{Bor}
use denote.Param.Members.{Mut}
use Rattle.std.specs.declared.ops.Range.{Range}
use Rattle.std.proofs.iter.Yields.{nat_range_steps}
use Rattle.std.proofs.lemmas.Iterator.{YieldsList-from_range}
use Rattle.std.proofs.lemmas.Iterator.Adapters.{option_map_id}
use Rattle.std.proofs.lemmas.Iterator.Consumers.{fold_from_yields_List}
use Rattle.std.proofs.lemmas.Iterator.Search.{any_from_yields_List, all_from_yields_List, find_from_yields_List}
use Rattle.std.specs.Bool.{⊤}
use Rattle.std.specs.Fn.{Called, CalledAt}
use Rattle.std.specs.Iterator.{YieldsThen, Drains}
use Rattle.std.specs.List.{FoldsTo, list_any, list_all, find, fold, range_with_len}
use Rattle.std.specs.Option.{MatchOption, option_map, unwrap_or}
use Rattle.std.specs.Prelude.{Option, None, Some}

-- a test turned about
pub cond-not : {X : Type 0} (b : Bool) (x y : X) → cond b x y ≡ cond (not b) y x
cond-not true x y = refl
cond-not false x y = refl

-- ---- over the list of the places; a step may know where the walk ends

any_step : (b r : Bool) → (b || r) ≡ cond b true r
any_step true r = refl
any_step false r = refl

all_step : (b r : Bool) → (b && r) ≡ cond b r false
all_step true r = refl
all_step false r = refl

any_places : (p : ℕ → Bool) (walk : ℕ → ℕ → Bool) (end : ℕ) → ((i : ℕ) → walk zero i ≡ false)
    → ((m i : ℕ) → i + suc m ≡ end → walk (suc m) i ≡ cond (p i) true (walk m (i + 1)))
    → (m i : ℕ) → i + m ≡ end → list_any p (range_with_len i m) ≡ walk m i
any_places p walk end none step zero i e = sym (none i)
any_places p walk end none step (suc m) i e =
    ap (λ r. p i || r) (any_places p walk end none step m (i + 1) (omega (arith, e))) ∙ any_step (p i) (walk m (i + 1)) ∙ sym (step m i e)

all_places : (p : ℕ → Bool) (walk : ℕ → ℕ → Bool) → ((i : ℕ) → walk zero i ≡ true)
    → ((m i : ℕ) → walk (suc m) i ≡ cond (p i) (walk m (i + 1)) false)
    → (m i : ℕ) → list_all p (range_with_len i m) ≡ walk m i
all_places p walk none step zero i = sym (none i)
all_places p walk none step (suc m) i =
    ap (λ r. p i && r) (all_places p walk none step m (i + 1)) ∙ all_step (p i) (walk m (i + 1)) ∙ sym (step m i)

-- the first place that passes, read by `hit`; `miss` of the end where none does
find_step : {Y : Type 0} (hit : ℕ → Y) (y : Y) (b : Bool) (i : ℕ) (o : Option ℕ) → unwrap_or (option_map hit (cond b (Some i) o)) y ≡ cond b (hit i) (unwrap_or (option_map hit o) y)
find_step hit y true i o = refl
find_step hit y false i o = refl

find_places : {Y : Type 0} (p : ℕ → Bool) (walk : ℕ → ℕ → Y) (hit miss : ℕ → Y) → ((i : ℕ) → walk zero i ≡ miss i)
    → ((m i : ℕ) → walk (suc m) i ≡ cond (p i) (hit i) (walk m (i + 1)))
    → (m i : ℕ) → unwrap_or (option_map hit (find p (range_with_len i m))) (miss (i + m)) ≡ walk m i
find_places p walk hit miss none step zero i = ap miss (omega arith) ∙ sym (none i)
find_places p walk hit miss none step (suc m) i =
    find_step hit (miss (i + suc m)) (p i) i (find p (range_with_len (i + 1) m))
    ∙ ap (λ y. cond (p i) (hit i) y) (ap (λ n. unwrap_or (option_map hit (find p (range_with_len (i + 1) m))) (miss n)) (omega arith) ∙ find_places p walk hit miss none step m (i + 1))
    ∙ sym (step m i)

fold_places : {X : Type 0} (h : X → ℕ → X) (walk : ℕ → ℕ → X → X) → ((i : ℕ) (x : X) → walk zero i x ≡ x)
    → ((m i : ℕ) (x : X) → walk (suc m) i x ≡ walk m (i + 1) (h x i))
    → (m i : ℕ) (x : X) → fold h x (range_with_len i m) ≡ walk m i x
fold_places h walk none step zero i x = sym (none i x)
fold_places h walk none step (suc m) i x = fold_places h walk none step m (i + 1) (h x i) ∙ sym (step m i x)

-- ---- over a range from `a` to `b`, with `n` places: `ran` is the call's clause, `k` what the closure computes

module _ {F : Type 0} {g : Mut F (ℕ × Unit {0}) Bool} {s : Range ℕ} (p : ℕ → Bool) (walk : ℕ → ℕ → Bool) where
  pub any_by_walk : ((i : ℕ) → walk zero i ≡ false)
      → (u : Range ℕ) (f : F) (r : Bool) (a b n : ℕ)
      → ((m i : ℕ) → i + suc m ≡ a + n → walk (suc m) i ≡ cond (p i) true (walk m (i + 1)))
      → (xs : List ℕ) × (o : Option ℕ) × (j : F) × YieldsThen nat_range_steps s xs o u × FoldsTo (λ p x q. Called g p (x, tt) false q) f xs j × MatchOption o (r ≡ false) (λ x. (r ≡ true) × ((h : F) × Called g j (x, tt) true h))
      → s ≡ record { start = a; end = b } → b - a ≡ n → ((x : ℕ) (b : Bool) (q : F) → Called g f (x, tt) b q → (q ≡ f) × (b ≡ p x)) → r ≡ walk n a
  any_by_walk none u f r a b n step ran e l k = any_from_yields_List p u f r ran (YieldsList-from_range a b n e l) k ∙ any_places p walk (a + n) none step n a refl

  pub any_from_walk : ((i : ℕ) → walk zero i ≡ false) → ((m i : ℕ) → walk (suc m) i ≡ cond (p i) true (walk m (i + 1)))
      → (u : Range ℕ) (f : F) (r : Bool) (a b n : ℕ)
      → (xs : List ℕ) × (o : Option ℕ) × (j : F) × YieldsThen nat_range_steps s xs o u × FoldsTo (λ p x q. Called g p (x, tt) false q) f xs j × MatchOption o (r ≡ false) (λ x. (r ≡ true) × ((h : F) × Called g j (x, tt) true h))
      → s ≡ record { start = a; end = b } → b - a ≡ n → ((x : ℕ) (b : Bool) (q : F) → Called g f (x, tt) b q → (q ≡ f) × (b ≡ p x)) → r ≡ walk n a
  any_from_walk none step u f r a b n ran e l k = any_by_walk none u f r a b n (λ m i _. step m i) ran e l k

  pub all_from_walk : ((i : ℕ) → walk zero i ≡ true) → ((m i : ℕ) → walk (suc m) i ≡ cond (p i) (walk m (i + 1)) false)
      → (u : Range ℕ) (f : F) (r : Bool) (a b n : ℕ)
      → (xs : List ℕ) × (o : Option ℕ) × (j : F) × YieldsThen nat_range_steps s xs o u × FoldsTo (λ p x q. Called g p (x, tt) true q) f xs j × MatchOption o (r ≡ true) (λ x. (r ≡ false) × ((h : F) × Called g j (x, tt) false h))
      → s ≡ record { start = a; end = b } → b - a ≡ n → ((x : ℕ) (b : Bool) (q : F) → Called g f (x, tt) b q → (q ≡ f) × (b ≡ p x)) → r ≡ walk n a
  all_from_walk none step u f r a b n ran e l k = all_from_yields_List p u f r ran (YieldsList-from_range a b n e l) k ∙ all_places p walk none step n a

-- `find`, where the definition answers an Option
pub find_from_walk : {F : Type 0} {g : Mut F (Bor ℕ × Unit {0}) Bool} {s : Range ℕ} (p : ℕ → Bool) (walk : ℕ → ℕ → Option ℕ)
    → ((i : ℕ) → walk zero i ≡ None) → ((m i : ℕ) → walk (suc m) i ≡ cond (p i) (Some i) (walk m (i + 1)))
    → (u : Range ℕ) (f : F) (r : Option ℕ) (a b n : ℕ)
    → (xs : List ℕ) × (j : F) × YieldsThen nat_range_steps s xs r u × FoldsTo (λ p x q. CalledAt g p x false q) f xs j × MatchOption r ⊤ (λ x. (h : F) × CalledAt g j x true h)
    → s ≡ record { start = a; end = b } → b - a ≡ n → ((x : ℕ) (b : Bool) (q : F) → CalledAt g f x b q → (q ≡ f) × (b ≡ p x)) → r ≡ walk n a
find_from_walk p walk none step u f r a b n ran e l k = sym (option_map_id r) ∙ find_from_yields_List p u f r ran (YieldsList-from_range a b n e l) k ∙ places n a
  where
    places : (m i : ℕ) → find p (range_with_len i m) ≡ walk m i
    places zero i = sym (none i)
    places (suc m) i = ap (λ o. cond (p i) (Some i) o) (places m (i + 1)) ∙ sym (step m i)

-- `find` and what is read of it, where the definition answers `hit` of the first place that passes, and else `miss` of the end
pub found_from_walk : {F Y : Type 0} {g : Mut F (Bor ℕ × Unit {0}) Bool} {s : Range ℕ} (p : ℕ → Bool) (walk : ℕ → ℕ → Y) (hit miss : ℕ → Y)
    → ((i : ℕ) → walk zero i ≡ miss i) → ((m i : ℕ) → walk (suc m) i ≡ cond (p i) (hit i) (walk m (i + 1)))
    → (u : Range ℕ) (f : F) (r : Option ℕ) (a b n : ℕ)
    → (xs : List ℕ) × (j : F) × YieldsThen nat_range_steps s xs r u × FoldsTo (λ p x q. CalledAt g p x false q) f xs j × MatchOption r ⊤ (λ x. (h : F) × CalledAt g j x true h)
    → s ≡ record { start = a; end = b } → b - a ≡ n → ((x : ℕ) (b : Bool) (q : F) → CalledAt g f x b q → (q ≡ f) × (b ≡ p x)) → unwrap_or (option_map hit r) (miss (a + n)) ≡ walk n a
found_from_walk p walk hit miss none step u f r a b n ran e l k =
    ap (λ o. unwrap_or (option_map hit o) (miss (a + n))) (sym (option_map_id r) ∙ find_from_yields_List p u f r ran (YieldsList-from_range a b n e l) k)
    ∙ find_places p walk hit miss none step n a

-- `find` and `unwrap_or`, where the definition answers the first place that passes, and else the end
pub place_from_walk : {F : Type 0} {g : Mut F (Bor ℕ × Unit {0}) Bool} {s : Range ℕ} (p : ℕ → Bool) (walk : ℕ → ℕ → ℕ)
    → ((i : ℕ) → walk zero i ≡ i) → ((m i : ℕ) → walk (suc m) i ≡ cond (p i) i (walk m (i + 1)))
    → (u : Range ℕ) (f : F) (r : Option ℕ) (a b n end : ℕ)
    → (xs : List ℕ) × (j : F) × YieldsThen nat_range_steps s xs r u × FoldsTo (λ p x q. CalledAt g p x false q) f xs j × MatchOption r ⊤ (λ x. (h : F) × CalledAt g j x true h)
    → s ≡ record { start = a; end = b } → b - a ≡ n → a + n ≡ end → ((x : ℕ) (b : Bool) (q : F) → CalledAt g f x b q → (q ≡ f) × (b ≡ p x)) → unwrap_or r end ≡ walk n a
place_from_walk p walk none step u f r a b n end ran e l t k =
    ap (λ o. unwrap_or o end) (sym (option_map_id r)) ∙ ap (λ i. unwrap_or (option_map (λ x. x) r) i) (sym t)
    ∙ found_from_walk p walk (λ i. i) (λ i. i) none step u f r a b n ran e l k

-- `fold`
pub fold_from_walk : {F X : Type 0} {g : Mut F (X × (ℕ × Unit {0})) X} {s : Range ℕ} (h : X → ℕ → X) (walk : ℕ → ℕ → X → X)
    → ((i : ℕ) (x : X) → walk zero i x ≡ x) → ((m i : ℕ) (x : X) → walk (suc m) i x ≡ walk m (i + 1) (h x i))
    → {f : F} (init r : X) (a b n : ℕ)
    → (xs : List ℕ) × (q : F) × Drains nat_range_steps s xs × FoldsTo {P = F × X} (λ a x b. Called g a.0 (a.1, (x, tt)) b.1 b.0) (f, init) xs (q, r)
    → s ≡ record { start = a; end = b } → b - a ≡ n → ((y : X) (x : ℕ) (z : X) (q : F) → Called g f (y, (x, tt)) z q → (q ≡ f) × (z ≡ h y x)) → r ≡ walk n a init
fold_from_walk {g = g} h walk none step init r a b n ran e l k = fold_from_yields_List g h init r ran (YieldsList-from_range a b n e l) k ∙ fold_places h walk none step n a init

-- ---- a `for i in a..n` that changes a state, whose invariant says `walk (n - i) i x` of the state x

suc-less : (n i : ℕ) → i < n → suc (n - (i + 1)) ≡ n - i
suc-less n i h = omega (arith, h)

-- one turn
pub walk-more : {X : Type 0} (h : ℕ → X → X) (walk : ℕ → ℕ → X → X) → ((m i : ℕ) (x : X) → walk (suc m) i x ≡ walk m (i + 1) (h i x))
    → (n i : ℕ) (x : X) → i < n → walk (n - i) i x ≡ walk (n - (i + 1)) (i + 1) (h i x)
walk-more h walk step n i x l = ap (λ m. walk m i x) (sym (suc-less n i l)) ∙ step (n - (i + 1)) i x

-- the end
pub walk-done : {X : Type 0} (walk : ℕ → ℕ → X → X) → ((i : ℕ) (x : X) → walk zero i x ≡ x) → (n i : ℕ) (x : X) → n ≤ i → walk (n - i) i x ≡ x
walk-done walk none n i x l = ap (λ m. walk m i x) (omega (arith, l)) ∙ none i x
