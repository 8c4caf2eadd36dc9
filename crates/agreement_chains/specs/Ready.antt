-- The ready queues with the ready word, for any lists, one for each priority.
use Rattle.std.specs.Prelude.{ℕ, zero, suc, ◌+◌, ◌*◌, ◌^◌, ◌≤◌, ◌<◌, List, ◌≡◌, ◌⊎◌, get_or, eqb}
use Rattle.words.specs.Word.{bit_at}
use Rattle.words.specs.Layout as at
use Rattle.chains.specs.Ready.{ready_chain}
use Rattle.model.specs.Lists.{Mem, keep}
use Rattle.agreement_chains.specs.Chains.{last_from, Holds, Standing, Places}

-- 1 for a number, 0 for none
abbrev pub some_one : ℕ → ℕ
some_one zero = 0
some_one (suc n) = 1

-- priorities are 1 to 31; bit p of the ready word says whether queue p has a thread
pub record ReadyQueues (w : List ℕ) (lists : ℕ → List ℕ) : Type 0 where
  pub small : get_or w at.ready 0 < 2 ^ 32
  pub no_zero : bit_at (get_or w at.ready 0) 0 ≡ 0
  pub bits : (p : ℕ) → 1 ≤ p → p ≤ 31 → bit_at (get_or w at.ready 0) p ≡ some_one (last_from 0 (lists p))
  pub queues : (p : ℕ) → 1 ≤ p → p ≤ 31 → Holds w (ready_chain p) (lists p)

-- threads of 1 to `n`, none twice and none in two lists
pub record Sorted (n : ℕ) (lists : ℕ → List ℕ) : Type 0 where
  pub standing : (p : ℕ) → Standing n (lists p)
  pub apart : (p q y : ℕ) → Mem y (lists p) → Mem y (lists q) → p ≡ q

-- the placed threads of a priority, in the order of their placing
abbrev pub by_priority : (ℕ → ℕ) → List ℕ → ℕ → List ℕ
by_priority prio placed p = keep (λ x. eqb (prio x) p) placed

-- words enough for `n` threads
pub record Room (n m : ℕ) : Type 0 where
  pub few : n ≤ at.most_threads
  pub long : at.header_size + at.thread_size * n ≤ m

-- the places of all ready queues: the ready word, and those of the 31 chains
abbrev pub ReadyPlace : ℕ → ℕ → Type 0
ReadyPlace n j = (j ≡ at.ready) ⊎ ((p : ℕ) × (1 ≤ p) × (p ≤ 31) × Places (ready_chain p) n j)
