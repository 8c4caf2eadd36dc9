-- What the walk over the ready queues says of each queue of words in form.
use Prim.Native.Nat.{ℕ, zero, suc, ◌+◌, ◌-◌, ◌≤◌, ◌<◌}
use mathlib.Core.List.{List}
use mathlib.Core.Bool.{Bool, cond, true, false}
use mathlib.Core.Path.{◌≡◌, refl, sym, ap, ◌∙◌, subst}
use native.Mathlib.Omega.{arith}
use native.Mathlib.Decide.{ℕ_discrete}
use borrow.Author.Tests.{ne_eqb, eqb-true, eqb-false}
use lib.ListN.{get_or, length}
use lib.Dec.{eqb}
use Rattle.words.specs.Word.{bit_at}
use Rattle.words.specs.Layout as at
use Rattle.chains.specs.Ready.{ready_chain}
use Rattle.form_chains.specs.Chain.{flag, bit_passes, queue_size, queues_in, has_priority, member_passes, chain_size}
use Rattle.model.specs.Lists.{Mem, Distinct}
use Rattle.model.specs.Threads.{thread_at}
use Rattle.agreement_chains.specs.Chains.{Holds, last_from}
use Rattle.agreement_chains.specs.Ready.{some_one}
use Rattle.agreement.proofs.Places.{thread-place}
use Rattle.agreement_form.specs.Decoded.{chain_of, threads_of}
use Rattle.agreement_form.proofs.Clauses.{if-not}
use Rattle.agreement_form.proofs.HeaderForm.{Counted}
use Rattle.agreement_form.proofs.ChainForm.{Walked, walked_once, chain-walk}
use Rattle.agreement_form.proofs.Members.{Member, member-form}
use Rattle.agreement_form.proofs.DecodedThreads.{thread-at}

pub record QueueIs (w : List ℕ) (p : ℕ) : Type 0 where
  pub sized : queue_size w p ≡ 0 → ⊥
  pub bit : bit_passes w p ≡ true

-- how many stand in the `k` queues from `p` on
unfoldable pub sizes : List ℕ → ℕ → ℕ → ℕ
sizes w zero p = 0
sizes w (suc k) p = (queue_size w p - 1) + sizes w k (p + 1)

module _ (w : List ℕ) where
  pub queues-each : (k p n : ℕ) → (queues_in k w p n ≡ 0 → ⊥) → ((q : ℕ) → p ≤ q → q < p + k → QueueIs w q) × (queues_in k w p n ≡ n + sizes w k p)
  unfolding queues_in sizes
  queues-each zero p n h = (λ q a b. absurd (omega arith), omega arith)
  queues-each (suc k) p n h = first (eqb (queue_size w p) 0) refl h (queues-each k (p + 1) (n + (queue_size w p - 1)))
    where
      rest : ℕ
      rest = queues_in k w (p + 1) (n + (queue_size w p - 1))

      second : (queue_size w p ≡ 0 → ⊥) → (b : Bool) → bit_passes w p ≡ b → (cond b rest 0 ≡ 0 → ⊥)
          → ((rest ≡ 0 → ⊥) → ((q : ℕ) → p + 1 ≤ q → q < p + 1 + k → QueueIs w q) × (rest ≡ n + (queue_size w p - 1) + sizes w k (p + 1)))
          → ((q : ℕ) → p ≤ q → q < p + suc k → QueueIs w q) × (cond b rest 0 ≡ n + ((queue_size w p - 1) + sizes w k (p + 1)))
      second z false e h ih = absurd (h refl)
      second z true e h ih = (each_of, omega (arith, (ih h).1))
        where
          each_of : (q : ℕ) → p ≤ q → q < p + suc k → QueueIs w q
          each_of q a b = go (ℕ_discrete p q)
            where
              go : Dec (p ≡ q) → QueueIs w q
              go (yes r) = subst (QueueIs w) r (record { sized = z; bit = e })
              go (no r) = (ih h).0 q (omega arith) (omega arith)

      first : (b : Bool) → eqb (queue_size w p) 0 ≡ b → (cond b 0 (cond (bit_passes w p) rest 0) ≡ 0 → ⊥)
          → ((rest ≡ 0 → ⊥) → ((q : ℕ) → p + 1 ≤ q → q < p + 1 + k → QueueIs w q) × (rest ≡ n + (queue_size w p - 1) + sizes w k (p + 1)))
          → ((q : ℕ) → p ≤ q → q < p + suc k → QueueIs w q) × (cond b 0 (cond (bit_passes w p) rest 0) ≡ n + ((queue_size w p - 1) + sizes w k (p + 1)))
      first true e h ih = absurd (h refl)
      first false e h ih = second (eqb-false (queue_size w p) 0 e) (bit_passes w p) refl h ih

-- the sizes, the last queue apart
pub sizes-last : (w : List ℕ) (k p : ℕ) → sizes w (suc k) p ≡ sizes w k p + (queue_size w (p + k) - 1)
unfolding sizes
sizes-last w zero p = ap (λ (q : ℕ). (queue_size w q - 1) + 0) (let z : p ≡ p + 0 = omega arith in z) ∙ (let z : (queue_size w (p + 0) - 1) + 0 ≡ 0 + (queue_size w (p + 0) - 1) = omega arith in z)
sizes-last w (suc k) p =
    let e = ap (queue_size w) (let z : p + 1 + k ≡ p + suc k = omega arith in z) in
    omega (arith, sizes-last w k (p + 1), e)

-- ---- each queue

module _ (w : List ℕ) (p : ℕ) (is : QueueIs w p) (one : 1 ≤ p) where
  unfolded : chain_size w (ready_chain p) 2 p ≡ queue_size w p
  unfolding queue_size
  unfolded = refl

  pub queue-walk : Walked w (ready_chain p) (λ y. member_passes w y 2 p) 0 (chain_of w 4096 (ready_chain p)) 1 (queue_size w p)
  queue-walk = subst (Walked w (ready_chain p) (λ y. member_passes w y 2 p) 0 (chain_of w 4096 (ready_chain p)) 1) unfolded (chain-walk w (ready_chain p) 2 p (λ q. is.sized (sym unfolded ∙ q)))

  pub queue-holds : Holds w (ready_chain p) (chain_of w 4096 (ready_chain p))
  queue-holds = record { chain = queue-walk.links; last = queue-walk.last }

  pub queue-member : (y : ℕ) → Mem y (chain_of w 4096 (ready_chain p)) → Member w y 2 p
  queue-member y m = member-form w y 2 p (queue-walk.each-passes y m).1

  pub queue-once : Distinct (chain_of w 4096 (ready_chain p))
  queue-once = walked_once w (ready_chain p) (λ y. member_passes w y 2 p) 0 1 (queue_size w p) (chain_of w 4096 (ready_chain p)) queue-walk

  pub queue-length : queue_size w p ≡ 1 + length (chain_of w 4096 (ready_chain p))
  queue-length = queue-walk.counts

  -- a member has the queue's priority
  pub queue-priority : Counted w → (y : ℕ) → Mem y (chain_of w 4096 (ready_chain p)) → (thread_at (threads_of w) y).priority ≡ p
  unfolding has_priority
  queue-priority c y m =
      let k = queue-member y m in
      let e = if-not (eqb p 0) (eqb (get_or w (at.thread_at y + at.priority) 0) p) k.priority-is (ne_eqb p 0 (λ q. omega (arith, q, one))) in
      ap (λ t. t.priority) (thread-at w y k.one k.le)
      ∙ ap (λ (i : ℕ). get_or w i 0) (let z : at.thread_from y ≡ at.thread_at y + at.priority = omega (arith, thread-place y (omega (arith, k.le, c.threads_fit, c.limits.threads))) in z)
      ∙ eqb-true (get_or w (at.thread_at y + at.priority) 0) p e

  pub queue-bit : bit_at (get_or w at.ready 0) p ≡ some_one (last_from 0 (chain_of w 4096 (ready_chain p)))
  unfolding bit_passes flag
  queue-bit =
      eqb-true (bit_at (get_or w at.ready 0) p) (flag (get_or w (ready_chain p).last 0)) is.bit ∙ ap flag queue-walk.last ∙ go (last_from 0 (chain_of w 4096 (ready_chain p)))
    where
      go : (n : ℕ) → flag n ≡ some_one n
      go zero = refl
      go (suc n) = ap (λ (b : Bool). cond b 0 1) (ne_eqb (suc n) 0 (λ q. omega arith))
