-- The queue by position, on the words by numbers and in the log by addresses; its first; the active DPC.
use Prim.Native.Nat.{ℕ, zero, suc, ◌≤◌}
use mathlib.Core.List.{List, [], ◌∷◌, map}
use mathlib.Core.Bool.{not}
use mathlib.Core.Option.{none, some}
use mathlib.Core.Path.{◌≡◌, refl, sym, ap, ◌∙◌}
use native.Mathlib.Omega.{arith}
use lib.Dec.{eqb}
use lib.ListN.{get_or, length, length-map}
use Rattle.words.specs.Layout as at
use Rattle.chains.specs.declared.Chain.{Chain}
use Rattle.chains.specs.Chain.{first_of}
use Rattle.images.specs.declared.Dpc.{Dpc}
use Rattle.dpcs.specs.Record.{number_of, queue_chain}
use Rattle.dpc_reads.specs.Reads as words
use Rattle.model.specs.Lists.{nth, first, present}
use Rattle.model.specs.State.{State}
use Rattle.model.specs.Dpcs.{dpc_at, active_dpc}
use Rattle.model.proofs.TableLaws.{none-some, some_same}
use Rattle.agreement_chains.specs.Chains.{Standing}
use Rattle.agreement_chains.proofs.Frames.{first-is, standing-length}
use Rattle.agreement_chains.proofs.Walks.{stepped-is}
use Rattle.agreement.specs.Records.{number_in, numbers_in, active_address}
use Rattle.agreement.specs.Chains.{queue_from}
use Rattle.agreement.specs.Agree.{dpcs_from, Agreeing}
use Rattle.agreement.proofs.Headers.{dpcs-few}
use Rattle.agreement.proofs.Frames.{numbers-standing}
use Rattle.agreement.proofs.Lookups.{queue-chain-is}
use Rattle.agreement_work.proofs.Counts.{number_is}
use Rattle.agreement_work.proofs.Active.{active-none}

-- ---- lists

pub map_at : (f : ℕ → ℕ) (xs : List ℕ) (i x : ℕ) → nth xs i ≡ some x → get_or (map f xs) i 0 ≡ f x
map_at f [] i x e = absurd (none-some x e)
map_at f (y ∷ xs) zero x e = ap f (some_same y x e)
map_at f (y ∷ xs) (suc i) x e = map_at f xs i x e

pub map-past : (f : ℕ → ℕ) (xs : List ℕ) (i : ℕ) → nth xs i ≡ none → get_or (map f xs) i 0 ≡ 0
map-past f [] i e = refl
map-past f (y ∷ xs) zero e = absurd (none-some y (sym e))
map-past f (y ∷ xs) (suc i) e = map-past f xs i e

module _ (w : List ℕ) (s : State) (holder : ℕ → ℕ) (active : ℕ) (a : Agreeing w s holder active) where
  standing : Standing (length s.dpcs.table) (numbers_in s.dpcs.table s.dpcs.queue)
  standing = numbers-standing s.dpcs.table s.dpcs.queue a.shape.dpcs

  -- ---- the queue

  pub queue-few : length s.dpcs.queue ≤ 4096
  queue-few = omega (arith, standing-length (length s.dpcs.table) (numbers_in s.dpcs.table s.dpcs.queue) standing, length-map s.dpcs.queue (number_in s.dpcs.table), dpcs-few w s holder active a)

  pub first-number : first_of w (queue_chain w) ≡ first (numbers_in s.dpcs.table s.dpcs.queue)
  first-number = ap (first_of w) (queue-chain-is w s holder active a) ∙ first-is w (queue_from (dpcs_from s.limits)) (numbers_in s.dpcs.table s.dpcs.queue) a.work

  pub none_first : s.dpcs.queue ≡ [] → first_of w (queue_chain w) ≡ 0
  none_first e = first-number ∙ ap (λ (q : List ℕ). first (numbers_in s.dpcs.table q)) e

  pub head_first : (k : ℕ) (rest : List ℕ) → s.dpcs.queue ≡ k ∷ rest → (d : Dpc) → dpc_at s.dpcs.table k ≡ some d → first_of w (queue_chain w) ≡ number_of w k
  head_first k rest e d f = first-number ∙ ap (λ (q : List ℕ). first (numbers_in s.dpcs.table q)) e ∙ sym (number_is w s holder active a k d f)

  pub number-queued : (i : ℕ) → words.queued_number w i ≡ get_or (numbers_in s.dpcs.table s.dpcs.queue) i 0
  unfolding words.queued_number
  number-queued i =
      ap (λ (c : Chain). words.stepped i w c (first_of w c)) (queue-chain-is w s holder active a)
      ∙ stepped-is (length s.dpcs.table) i w (queue_from (dpcs_from s.limits)) (numbers_in s.dpcs.table s.dpcs.queue) standing a.work

-- ---- the active DPC

module _ (w : List ℕ) (s : State) (holder : ℕ → ℕ) (a : Agreeing w s holder (active_address s.dpcs.table)) where
  pub active-word : eqb (get_or w at.active 0) 0 ≡ not (present (active_dpc s.dpcs.table))
  active-word = ap (λ (n : ℕ). eqb n 0) (a.numbers at.active (active_address s.dpcs.table) refl) ∙ active-none s.dpcs.table a.shape.dpcs.placed
