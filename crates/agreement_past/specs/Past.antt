-- The words that a scheduler's limits do not need.
use Rattle.std.specs.Prelude.{ℕ, ◌+◌, ◌*◌, ◌≤◌, ◌≡◌}
use Rattle.words.specs.Layout as at
use Rattle.model.specs.State.{Limits}
use Rattle.model.specs.Call.{Call}
use Rattle.model.specs.Call as call

abbrev pub Beyond : Limits → ℕ → Type 0
Beyond l j = at.header_size + at.thread_size * l.threads + at.record_size * (l.objects + l.dpcs) ≤ j

-- an `open` goes by its own limits, and is said of alone
abbrev pub NoOpen : Call → Type 0
NoOpen c = (words p t o d : ℕ) → c ≡ call.Open words p t o d → ⊥
