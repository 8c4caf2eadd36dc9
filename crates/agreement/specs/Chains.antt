-- The lists that the chains of the words hold.
use Rattle.std.specs.Prelude.{ℕ, ◌-◌, List}
use Rattle.words.specs.Layout as at
use Rattle.chains.specs.declared.Chain.{Chain}
use Rattle.model.specs.State.{Thread}
use Rattle.model.specs.Threads.{thread_at}
use Rattle.agreement_chains.specs.Ready.{by_priority}

-- the placed threads of each priority
abbrev pub queues_of : List Thread → List ℕ → ℕ → List ℕ
queues_of threads placed = by_priority (λ x. (thread_at threads x).priority) placed

-- the DPC queue, whose links stand in the records from `base` on, by the numbers of DPCs
abbrev pub queue_from : ℕ → Chain
queue_from base = record { first = at.queue_first; last = at.queue_last; link = base - at.queue_link_before; stride = at.record_size }
