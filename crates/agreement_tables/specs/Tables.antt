-- A table in the words: records of 32 words one behind another from `base` on, as the log's list of them, which rises by key.
use Rattle.std.specs.Prelude.{ℕ, zero, suc, ◌+◌, ◌-◌, ◌*◌, ◌≤◌, ◌<◌, List, [], ◌∷◌, Bool, true, cond, ◌≡◌, ltb, get_or}
use Rattle.std.proofs.Math.Option.{some}
use Rattle.words.specs.Layout as at
use Rattle.chains.specs.declared.Chain.{Chain}
use Rattle.chains.specs.Chain.{link_at}
use Rattle.objects.specs.declared.Object.{Object}
use Rattle.dpc_table.specs.declared.NewDpc.{NewDpc}
use Rattle.model.specs.Lists.{nth}

-- words that hold the same at every place of a region
abbrev pub Same : (ℕ → Type 0) → List ℕ → List ℕ → Type 0
Same R w w' = (j : ℕ) → R j → get_or w' j 0 ≡ get_or w j 0

-- ---- records

-- every word of a record
abbrev pub Whole : ℕ → Type 0
Whole k = Unit

-- every word but the link of a queue
abbrev pub NoLink : ℕ → Type 0
NoLink k = k ≡ at.next_queued → ⊥

-- every word but the link and the new number
abbrev pub NoNumber : ℕ → Type 0
NoNumber k = (k ≡ at.next_queued → ⊥) × (k ≡ at.new_number → ⊥)

-- the record at place `b` of `w'` has the words `D` of the one at place `a` of `w`
abbrev pub Copied : (ℕ → Type 0) → List ℕ → ℕ → List ℕ → ℕ → Type 0
Copied D w a w' b = (k : ℕ) → k < 32 → D k → get_or w' (b + k) 0 ≡ get_or w (a + k) 0

module _ {A : Type 0} where
  -- what `P` says of a record depends on its words `D` alone
  abbrev pub Local : (ℕ → Type 0) → (List ℕ → ℕ → A → Type 0) → Type 0
  Local D P = (w w' : List ℕ) (a b : ℕ) (x : A) → Copied D w a w' b → P w a x → P w' b x

  -- the records from `base` on are those of the list, each as `P` says
  abbrev pub Holds : (List ℕ → ℕ → A → Type 0) → List ℕ → ℕ → List A → Type 0
  Holds P w base xs = (i : ℕ) (x : A) → nth xs i ≡ some x → P w (base + 32 * i) x

-- ---- keys

module _ {A : Type 0} (key : A → ℕ) where
  -- a record's first word is its key
  abbrev pub Keyed : List ℕ → ℕ → A → Type 0
  Keyed w place x = get_or w place 0 ≡ key x

  -- how many records of a rising list have a key below `k`
  abbrev pub below : ℕ → List A → ℕ
  below k [] = 0
  below k (x ∷ xs) = cond (ltb (key x) k) (suc (below k xs)) 0

-- ---- positions of those that stay

module _ {A : Type 0} (f : A → Bool) where
  -- how many of the first `i` pass the test
  abbrev pub kept_before : List A → ℕ → ℕ
  kept_before [] i = 0
  kept_before (x ∷ xs) zero = 0
  kept_before (x ∷ xs) (suc i) = cond (f x) 1 0 + kept_before xs i

  -- the number of record `n` (its position and one more, 0 for none) among those that stay
  abbrev pub new_number_of : List A → ℕ → ℕ
  new_number_of xs zero = 0
  new_number_of xs (suc i) = suc (kept_before xs i)

-- record number `y` is one that stays
pub record Stays {A : Type 0} (f : A → Bool) (xs : List A) (y : ℕ) : Type 0 where
  pub position : ℕ
  pub one : A
  pub number : y ≡ suc position
  pub here : nth xs position ≡ some one
  pub passes : f one ≡ true

-- ---- the queue of DPCs

abbrev pub queue_of : ℕ → Chain
queue_of base = record { first = at.queue_first; last = at.queue_last; link = base - at.queue_link_before; stride = at.record_size }

-- after `before` come the DPCs of the list, and then none
abbrev pub Queued : List ℕ → Chain → ℕ → List ℕ → Type 0
Queued w c before [] = get_or w (link_at c before) 0 ≡ 0
Queued w c before (x ∷ xs) = (get_or w (link_at c before) 0 ≡ x) × Queued w c x xs

-- ---- what a change does to the records of a table of `n`

-- one more at position `b`: those before it stay, those from it on move up
pub record Grown (D : ℕ → Type 0) (w : List ℕ) (base n b : ℕ) (w' : List ℕ) : Type 0 where
  pub before : (j : ℕ) → j < b → Copied D w (base + 32 * j) w' (base + 32 * j)
  pub behind : (j : ℕ) → b ≤ j → j < n → Copied D w (base + 32 * j) w' (base + 32 * suc j)

-- all but the one at position `b` stay
abbrev pub Others : (ℕ → Type 0) → List ℕ → ℕ → ℕ → ℕ → List ℕ → Type 0
Others D w base n b w' = (j : ℕ) → j < n → (j ≡ b → ⊥) → Copied D w (base + 32 * j) w' (base + 32 * j)

-- ---- records as the code writes them

-- the five words of an object
pub record ObjectAt (w : List ℕ) (place key : ℕ) (o : Object) : Type 0 where
  pub key_word : get_or w place 0 ≡ key
  pub kind_word : get_or w (place + at.kind) 0 ≡ o.kind
  pub manual_word : get_or w (place + at.manual) 0 ≡ o.manual
  pub signaled_word : get_or w (place + at.signaled) 0 ≡ o.signaled
  pub owner_word : get_or w (place + at.owner) 0 ≡ o.owner

-- the eleven words of a new DPC: idle, in no queue, with no timer
pub record DpcAt (w : List ℕ) (place address : ℕ) (d : NewDpc) : Type 0 where
  pub address_word : get_or w place 0 ≡ address
  pub phase_word : get_or w (place + at.phase) 0 ≡ 0
  pub link_word : get_or w (place + at.next_queued) 0 ≡ 0
  pub timer_word : get_or w (place + at.named_by) 0 ≡ 0
  pub architecture_word : get_or w (place + at.dpc_architecture) 0 ≡ d.architecture
  pub backing_word : get_or w (place + at.dpc_backing) 0 ≡ d.backing
  pub base_word : get_or w (place + at.dpc_base) 0 ≡ d.base
  pub size_word : get_or w (place + at.dpc_size) 0 ≡ d.size
  pub mapped_word : get_or w (place + at.dpc_mapped) 0 ≡ d.mapped
  pub routine_word : get_or w (place + at.routine) 0 ≡ d.routine
  pub context_word : get_or w (place + at.context) 0 ≡ d.context
