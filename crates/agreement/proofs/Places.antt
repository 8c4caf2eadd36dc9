-- The places of records and links, and the regions that the components of agreement hold. No two regions have a place in common.
use Prim.Native.Nat.{ℕ, ◌+◌, ◌-◌, ◌*◌, ◌≤◌, ◌<◌}
use mathlib.Core.Logic.{◌⊎◌, inl, inr}
use mathlib.Core.Path.{◌≡◌, refl}
use native.Mathlib.Omega.{arith}
use borrow.Author.Tests.{le-leb}
use Rattle.words.specs.Layout as at
use Rattle.words.specs.Layout.{objects_at, entry_at}
use Rattle.chains.specs.declared.Chain.{Chain}
use Rattle.chains.specs.Ready.{waiters_chain}
use Rattle.agreement_chains.specs.Chains.{Places}
use Rattle.agreement_chains.specs.Ready.{ReadyPlace}
use Rattle.agreement_chains.proofs.Places as chains
use Rattle.agreement_chains.proofs.Places.{place-cases}
use Rattle.agreement.specs.Chains.{queue_from}

-- ---- where the code's places stand

pub thread-place : (id : ℕ) → id ≤ at.most_threads → at.thread_at id ≡ at.thread_from id
unfolding at.thread_at
thread-place id h = simp (le-leb id at.most_threads h)

pub objects-place : (t : ℕ) → t ≤ at.most_threads → objects_at t ≡ at.header_size + at.thread_size * t
unfolding objects_at
objects-place t h = simp (le-leb t at.most_threads h)

pub entry_place : (base i : ℕ) → base ≤ 1000000 → i ≤ 8192 → entry_at base i ≡ base + 32 * i
unfolding entry_at
entry_place base i h k = simp (le-leb base 1000000 h, le-leb i 8192 k)

-- ---- regions

-- the header's numbers: all but the ready word and the ends of chains
pub record Numbers (j : ℕ) : Type 0 where
  pub small : j ≤ 25
  pub no-ready : j ≡ at.ready → ⊥
  pub no_end : 21 ≤ j → j ≤ 24 → ⊥

-- the words `d` of the records of threads 1 to `n`, for `d` with a property
pub record Field (n : ℕ) (D : ℕ → Type 0) (j : ℕ) : Type 0 where
  pub id : ℕ
  pub word : ℕ
  pub one : 1 ≤ id
  pub le : id ≤ n
  pub has : D word
  pub here : j ≡ at.thread_from id + word

-- priority, state, result and exit status; words 2 and 3 are links
pub record Scalar (d : ℕ) : Type 0 where
  pub small : d ≤ 5
  pub no-next : d ≡ 2 → ⊥
  pub no-waiter : d ≡ 3 → ⊥

-- the wait
pub record Waiting (d : ℕ) : Type 0 where
  pub from : at.wait_all ≤ d
  pub to : d < at.thread_size

-- what is not a link of the record of one thread
pub record Own (d : ℕ) : Type 0 where
  pub small : d < 160
  pub no-next : d ≡ 2 → ⊥
  pub no-waiter : d ≡ 3 → ⊥

-- the words `d` of one record that begins at a place, for `d` with a property
pub record Inner (place : ℕ) (D : ℕ → Type 0) (j : ℕ) : Type 0 where
  pub word : ℕ
  pub has : D word
  pub here : j ≡ place + word

-- the records of a table of `n`, its words `d` with a property
pub record Entry (base n : ℕ) (D : ℕ → Type 0) (j : ℕ) : Type 0 where
  pub number : ℕ
  pub word : ℕ
  pub below : number < n
  pub has : D word
  pub here : j ≡ base + 32 * number + word

abbrev pub Any : ℕ → Type 0
Any d = d < 32

-- a DPC's words but its link
pub record Unlinked (d : ℕ) : Type 0 where
  pub small : d < 32
  pub no-link : d ≡ 2 → ⊥

-- the links of records 1 to `n`
pub record Link (place stride n : ℕ) (j : ℕ) : Type 0 where
  pub number : ℕ
  pub one : 1 ≤ number
  pub le : number ≤ n
  pub here : j ≡ place + stride * number

-- a chain over records 1 to `n`
abbrev pub ChainWords : Chain → ℕ → ℕ → Type 0
ChainWords c n j = (j ≡ c.first) ⊎ ((j ≡ c.last) ⊎ Link c.link c.stride n j)

-- the ready word, first and last of each priority, and word 2 of thread records
abbrev pub ReadyWords : ℕ → ℕ → Type 0
ReadyWords n j = (j ≡ at.ready) ⊎ (((32 ≤ j) × (j < at.unused)) ⊎ Link at.ready_link at.thread_size n j)

abbrev pub WaiterWords : ℕ → ℕ → Type 0
WaiterWords n j = ChainWords waiters_chain n j

abbrev pub QueueWords : ℕ → ℕ → ℕ → Type 0
QueueWords base n j = ChainWords (queue_from base) n j

-- ---- the places of the ready queues are these words

pub ready-place : (n j : ℕ) → n ≤ at.most_threads → ReadyPlace n j → ReadyWords n j
ready-place n j few (inl e) = inl e
ready-place n j few (inr (p, one, h, m)) = go (chains.ready-cases n j few p h m)
  where
    go : (j ≡ 64 + p) ⊎ ((j ≡ 32 + p) ⊎ ((y : ℕ) × (1 ≤ y) × (y ≤ n) × (j ≡ at.thread_word at.next_ready y))) → ReadyWords n j
    go (inl e) = inr (inl (omega arith, omega arith))
    go (inr (inl e)) = inr (inl (omega arith, omega arith))
    go (inr (inr (y, a, b, e))) = inr (inr (record { number = y; one = a; le = b; here = e }))

-- and those of any chain, which has a link in each record
pub chain-place : (c : Chain) (n j : ℕ) → n ≤ 4096 → Places c n j → ChainWords c n j
chain-place c n j few m = go (place-cases c n j few m)
  where
    go : (j ≡ c.last) ⊎ ((j ≡ c.first) ⊎ ((y : ℕ) × (1 ≤ y) × (y ≤ n) × (j ≡ c.link + c.stride * y))) → ChainWords c n j
    go (inl e) = inr (inl e)
    go (inr (inl e)) = inl e
    go (inr (inr (y, a, b, e))) = inr (inr (record { number = y; one = a; le = b; here = e }))

pub waiters-chain : waiters_chain ≡ record { first = at.waiters_first; last = at.waiters_last; link = at.waiters_link; stride = at.thread_size }
unfolding waiters_chain
waiters-chain = refl

-- ---- regions apart, each pair by the bounds of its places

-- a region that has no place of the header's numbers, nor of the records of threads, objects and DPCs said by words
pub waiter-cases : (P : Type 0) (n j : ℕ) → WaiterWords n j → (j ≡ at.waiters_first → P) → (j ≡ at.waiters_last → P) → (Link at.waiters_link at.thread_size n j → P) → P
unfolding waiters_chain
waiter-cases P n j (inl e) a b c = a e
waiter-cases P n j (inr (inl e)) a b c = b e
waiter-cases P n j (inr (inr l)) a b c = c l

pub ready-cases : (P : Type 0) (n j : ℕ) → ReadyWords n j → (j ≡ at.ready → P) → (32 ≤ j → j < at.unused → P) → (Link at.ready_link at.thread_size n j → P) → P
ready-cases P n j (inl e) a b c = a e
ready-cases P n j (inr (inl h)) a b c = b h.0 h.1
ready-cases P n j (inr (inr l)) a b c = c l

pub queue-cases : (P : Type 0) (base n j : ℕ) → QueueWords base n j → (j ≡ at.queue_first → P) → (j ≡ at.queue_last → P) → (Link (base - at.queue_link_before) 32 n j → P) → P
queue-cases P base n j (inl e) a b c = a e
queue-cases P base n j (inr (inl e)) a b c = b e
queue-cases P base n j (inr (inr l)) a b c = c l
