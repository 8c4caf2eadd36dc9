-- The record at a place of a chain, as an Option.
use Prim.Native.Nat.{ℕ, zero, suc, ◌<◌}
use mathlib.Core.Bool.{Bool, cond, true, false}
use mathlib.Core.List.{List, [], ◌∷◌}
use mathlib.Core.Path.{◌≡◌, ◌∙◌, refl, sym, ap}
use lib.Dec.{eqb}
use lib.ListN.{get_or}
use Rattle.std.specs.List.{slice_get}
use Rattle.objects.specs.Found.{nonzero}
use Rattle.chains.specs.declared.Chain.{Chain}
use Rattle.chains.specs.Chain.{next_of, members_in}
use Rattle.chains.proofs.WalkLaws.{nth-members}
use Rattle.dpc_reads.specs.Reads.{stepped}

-- no record of a chain has number 0
members-some : (w : List ℕ) (c : Chain) (k at i : ℕ) → slice_get (members_in k w c at) i ≡ nonzero (get_or (members_in k w c at) i 0)
unfolding members_in
members-some w c zero at i = refl
members-some w c (suc k) at i = go (eqb at 0) refl i (members-some w c k (next_of w c at))
  where
    go : (b : Bool) → eqb at 0 ≡ b → (i : ℕ) → ((i : ℕ) → slice_get (members_in k w c (next_of w c at)) i ≡ nonzero (get_or (members_in k w c (next_of w c at)) i 0))
        → slice_get (cond b [] (at ∷ members_in k w c (next_of w c at))) i ≡ nonzero (get_or (cond b [] (at ∷ members_in k w c (next_of w c at))) i 0)
    go true e i h = refl
    go false e zero h = simp e
    go false e (suc i) h = h i

pub stepped-get : (w : List ℕ) (c : Chain) (i k at : ℕ) → i < k → slice_get (members_in k w c at) i ≡ nonzero (stepped i w c at)
unfolding stepped
stepped-get w c i k at h = members-some w c k at i ∙ ap nonzero (sym (nth-members w c (λ i at. stepped i w c at) (λ at. refl) (λ i at. refl) i k at h))
