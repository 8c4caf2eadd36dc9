-- A walk of a table's records asks what a walk of the log's list asks.
use Prim.Native.Nat.{ℕ, suc, ◌+◌, ◌*◌, ◌≤◌}
use mathlib.Core.List.{List, [], ◌∷◌}
use mathlib.Core.Bool.{Bool, true, cond}
use mathlib.Core.Option.{some}
use mathlib.Core.Path.{◌≡◌, refl, ap, ◌∙◌}
use native.Mathlib.Omega.{arith}
use lib.ListN.{length}
use Rattle.timers.specs.Record.{some_in}
use Rattle.model.specs.Lists.{nth, any}
use Rattle.agreement.proofs.Places.{entry_place}

-- one of the records passes the test
pub some_is : {A : Type 0} (test : ℕ → Bool) (f : A → Bool) (base : ℕ) → base ≤ 1000000 → (ys : List A) (i : ℕ) → i + length ys ≤ 8192
    → ((t : ℕ) (x : A) → nth ys t ≡ some x → test (base + 32 * (i + t)) ≡ f x) → some_in (length ys) test base i ≡ any f ys
unfolding some_in
some_is test f base low [] i few same = refl
some_is {A} test f base low (y ∷ ys) i few same =
    ap (λ (p : ℕ). cond (test p) true (some_in (length ys) test base (i + 1))) (entry_place base i low (omega arith) ∙ (let z : base + 32 * i ≡ base + 32 * (i + 0) = omega arith in z))
    ∙ ap (λ (b : Bool). cond b true (some_in (length ys) test base (i + 1))) (same 0 y refl)
    ∙ ap (λ (b : Bool). cond (f y) true b) (some_is test f base low ys (i + 1) (omega arith)
    (λ t x e. ap (λ (p : ℕ). test p) (let z : base + 32 * (i + 1 + t) ≡ base + 32 * (i + suc t) = omega arith in z) ∙ same (suc t) x e))
