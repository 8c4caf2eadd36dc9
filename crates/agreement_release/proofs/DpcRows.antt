-- What the closing of the DPC table asks: which words a DPC's row speaks of, the queue as a chain, and its numbers after.
use Prim.Native.Nat.{ℕ, ◌≤◌}
use mathlib.Core.List.{List, [], ◌∷◌, map}
use mathlib.Core.Bool.{Bool, true}
use mathlib.Core.Option.{Option, none, some}
use mathlib.Core.Logic.{inl, inr}
use mathlib.Core.Path.{◌≡◌, refl, sym, ap, ap₂, ◌∙◌}
use native.Mathlib.Omega.{arith}
use lib.ListN.{get_or, length}
use Rattle.images.specs.declared.Dpc.{Dpc}
use Rattle.images.specs.declared.DpcWork.{DpcWork}
use Rattle.images.specs.declared.DpcOrigin.{DpcOrigin}
use Rattle.images.specs.declared.DpcOrigin.TheVariants as origin
use Rattle.chains.specs.declared.Chain.{Chain}
use Rattle.model.specs.Lists.{keep, Mem}
use Rattle.model.specs.Table.{Rising}
use Rattle.model.specs.Dpcs.{address_of, dpc_at, work_of}
use Rattle.model.proofs.TableLaws.{none-some}
use Rattle.agreement_chains.specs.Chains as chains
use Rattle.agreement_tables.specs.Tables as tables
use Rattle.agreement_tables.specs.Tables.{NoNumber, new_number_of}
use Rattle.agreement_tables.proofs.Holds.{row-local}
use Rattle.agreement_tables.proofs.Numbers.{number-keep}
use Rattle.agreement.specs.Row.{Row}
use Rattle.agreement.specs.Records.{dpc_row, origin_row, work_row, numbers_in}
use Rattle.agreement.proofs.Rows.{says-short}

-- ---- a DPC's row says nothing of its link, nor of words from 21 on

dpc-length : (holder : ℕ) (d : Dpc) → length (dpc_row holder d) ≤ 21
dpc-length holder d = omega (arith, go (work_of d.phase))
  where
    from : (o : DpcOrigin) → length (origin_row o) ≡ 7
    from origin.Caller = refl
    from (origin.Timer a b c d e f) = refl

    go : (x : Option DpcWork) → length (work_row x) ≤ 10
    go none = omega arith
    go (some x) = omega (arith, from x.origin)

pub dpcs-local : (holder : ℕ → ℕ) → tables.Local NoNumber (λ w place (d : Dpc). Row w place (dpc_row (holder d.address) d))
dpcs-local holder = row-local NoNumber (λ (d : Dpc). dpc_row (holder d.address) d) (λ d k n e.
    let h = says-short (dpc_row (holder d.address) d) k n e in
    (omega (arith, dpc-length (holder d.address) d), (λ q. none-some n (sym (ap (λ (j : ℕ). get_or (dpc_row (holder d.address) d) j none) q) ∙ e), λ q. omega (arith, dpc-length (holder d.address) d))))

-- ---- the two ways to say that a chain follows a list

pub linked-queued : (w : List ℕ) (c : Chain) (b : ℕ) (ns : List ℕ) → chains.Linked w c b ns → tables.Queued w c b ns
linked-queued w c b [] l = l
linked-queued w c b (n ∷ ns) l = (l.0, linked-queued w c n ns l.1)

-- the numbers of those that stay
pub numbers_keep : (g : Dpc → Bool) (table : List Dpc) → Rising address_of table → (queue : List ℕ) → ((b : ℕ) → Mem b queue → (d : Dpc) × (dpc_at table b ≡ some d) × (g d ≡ true))
    → map (new_number_of g table) (numbers_in table queue) ≡ numbers_in (keep g table) queue
numbers_keep g table r [] known = refl
numbers_keep g table r (b ∷ bs) known =
    let k = known b (inl refl) in
    ap₂ (λ (n : ℕ) (ns : List ℕ). n ∷ ns) (sym (number-keep g address_of table r b k.0 k.1 k.2)) (numbers_keep g table r bs (λ c m. known c (inr m)))
