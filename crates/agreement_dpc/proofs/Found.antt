-- What the words say of a DPC by its address: whether it is known, and the words of its record.
use Prim.Native.Nat.{ℕ, ◌+◌, ◌*◌, ◌≤◌}
use mathlib.Core.List.{List}
use mathlib.Core.Bool.{not}
use mathlib.Core.Option.{Option, none, some}
use mathlib.Core.Path.{◌≡◌, refl, ap, ◌∙◌}
use native.Mathlib.Omega.{arith}
use borrow.Author.Tests.{ne_eqb}
use lib.Dec.{eqb}
use lib.ListN.{get_or, length}
use Rattle.words.specs.Layout as at
use Rattle.images.specs.declared.Dpc.{Dpc}
use Rattle.objects.specs.Objects.{dpc_found}
use Rattle.dpcs.specs.Record.{place_at, number_of}
use Rattle.dpcs.specs.Record as words
use Rattle.model.specs.Lists.{present}
use Rattle.model.specs.State.{State, Policy, unselected, cpu0_dispatch}
use Rattle.model.specs.Dpcs.{address_of, dpc_at}
use Rattle.model.specs.Refusal.{is_unselected}
use Rattle.agreement_tables.specs.Tables.{below}
use Rattle.agreement_tables.proofs.Lookups as tables
use Rattle.agreement.specs.Records.{dpc_row, policy_number}
use Rattle.agreement.specs.Agree.{dpcs_from, Agreeing}
use Rattle.agreement.proofs.Headers.{dpcs-few}
use Rattle.agreement.proofs.Lookups.{dpcs-base-is, dpc-keys, dpc-number, dpc-row}
use Rattle.agreement.proofs.Records.{dpc-read}
use Rattle.agreement_work.proofs.Counts.{place-numbered}

module _ (w : List ℕ) (s : State) (holder : ℕ → ℕ) (active : ℕ) (a : Agreeing w s holder active) where
  low : dpcs_from s.limits ≤ 1000000
  low = omega (arith, a.shape.sizes.limits.threads, a.shape.sizes.limits.objects)

  -- whether there is a policy
  pub policy-is : eqb (get_or w at.policy 0) 0 ≡ is_unselected s.policy
  policy-is = ap (λ (n : ℕ). eqb n 0) (a.numbers at.policy (policy_number s.policy) refl) ∙ go s.policy
    where
      go : (p : Policy) → eqb (policy_number p) 0 ≡ is_unselected p
      go unselected = refl
      go (cpu0_dispatch first second) = refl

  module _ (k : ℕ) where
    pub number-none : dpc_at s.dpcs.table k ≡ none → number_of w k ≡ 0
    number-none e =
        tables.number-missing address_of w (dpcs_from s.limits) s.dpcs.table low (omega arith) (dpcs-base-is w s holder active a)
        (a.numbers at.dpcs (length s.dpcs.table) refl) (dpcs-few w s holder active a) a.shape.dpcs.rising (dpc-keys w s holder active a) k e

    pub place_none : dpc_at s.dpcs.table k ≡ none → dpc_found w k ≡ 0
    place_none e =
        tables.dpc-missing address_of w (dpcs_from s.limits) s.dpcs.table low (omega arith) (dpcs-base-is w s holder active a)
        (a.numbers at.dpcs (length s.dpcs.table) refl) (dpcs-few w s holder active a) a.shape.dpcs.rising (dpc-keys w s holder active a) k e

    -- the number is 0 where it is not known
    pub number-known : eqb (number_of w k) 0 ≡ not (present (dpc_at s.dpcs.table k))
    number-known = go (dpc_at s.dpcs.table k) refl
      where
        go : (o : Option Dpc) → dpc_at s.dpcs.table k ≡ o → eqb (number_of w k) 0 ≡ not (present o)
        go none e = ap (λ (n : ℕ). eqb n 0) (number-none e)
        go (some d) e = ap (λ (n : ℕ). eqb n 0) (dpc-number w s holder active a k d e) ∙ ne_eqb (below address_of k s.dpcs.table + 1) 0 (λ q. omega arith)

    module _ (d : Dpc) (e : dpc_at s.dpcs.table k ≡ some d) where
      -- word `j` of the record
      pub dpc-word : (j n : ℕ) → get_or (dpc_row (holder d.address) d) j none ≡ some n → get_or w (place_at w (number_of w k) + j) 0 ≡ n
      dpc-word j n q = ap (λ (p : ℕ). get_or w (p + j) 0) (place-numbered w s holder active a k d e) ∙ dpc-row w s holder active a k d e j n q

      -- the record, read whole
      pub dpc-whole : words.dpc_at w (place_at w (number_of w k)) ≡ d
      dpc-whole = ap (words.dpc_at w) (place-numbered w s holder active a k d e) ∙ dpc-read w (dpcs_from s.limits + 32 * below address_of k s.dpcs.table) (holder d.address) d (dpc-row w s holder active a k d e)
