-- After an advance that is not refused the newly queued work stands behind the old, by due, then address, as the reads show it.
use Prim.Native.Nat.{ℕ, ◌<◌}
use mathlib.Core.List.{List}
use mathlib.Core.Bool.{false}
use mathlib.Core.Path.{◌≡◌, sym, ◌∙◌}
use lib.ListN.{length}
use Rattle.images.specs.declared.Timer.{Timer}
use Rattle.calls.specs.Run.{answered, left}
use Rattle.model.specs.State.{State}
use Rattle.model.specs.Call.{Call, AdvanceTo}
use Rattle.model.specs.Call as call
use Rattle.model.specs.Step.{step, refusal}
use Rattle.model.specs.Start.{Start, Accepted}
use Rattle.model.specs.Fits.{Fits}
use Rattle.model.specs.Acceptance.{Reached}
use Rattle.model.specs.Behind.{InDueOrder}
use Rattle.model.proofs.Told.{asked}
use Rattle.model.proofs.Asking.{SameReads, same-reached, same-order}
use Rattle.model.proofs.BehindLaws as log
use Rattle.theorem.specs.History.{Proper}
use Rattle.theorem.specs.Theorem.{logged, end}
use Rattle.corollaries.specs.Reads.{QueueRead}
use Rattle.corollaries.specs.Refusals.{is_refused}
use Rattle.corollaries.proofs.Next.{next, next-but-one, valid}
use Rattle.corollaries.proofs.Refusals.{passed-by}

module _ (w : List ℕ) (start : Start) (calls : List Call) (accepted : Accepted (length w) start) (proper : Proper (length w) calls)
    (time : ℕ) (fit : Fits (AdvanceTo time)) (advances : is_refused (answered (end w start calls) (AdvanceTo time)) ≡ false) where
  abbrev words : List ℕ
  words = end w start calls

  -- the words after the advance
  abbrev later : List ℕ
  later = left words (AdvanceTo time)

  abbrev s : State
  s = logged w start calls

  abbrev s₁ : State
  s₁ = (step (AdvanceTo time) s).state

  passed : refusal (AdvanceTo time) s ≡ 0
  passed = passed-by w start calls accepted proper (AdvanceTo time) fit tt advances

  before : SameReads (asked s) (answered words)
  before r = (next w start calls accepted proper (call.Reads r) tt tt).answers

  after : SameReads (asked s₁) (answered later)
  after r = (next-but-one w start calls accepted proper (AdvanceTo time) (call.Reads r) fit tt tt tt).answers

  -- old work keeps its place
  pub keeps-place : (n a : ℕ) → QueueRead words n a → QueueRead later n a
  keeps-place n a h = after (call.QueuedDpcs n) ∙ log.keeps-place s (valid w start calls accepted proper) time passed n a (sym (before (call.QueuedDpcs n)) ∙ h)

  -- and stands first: what stands before old work is old, and stood there
  pub old-first : (m n a b i : ℕ) → m < n → QueueRead later m a → QueueRead later n b → QueueRead words i b → QueueRead words m a
  old-first m n a b i l p q h =
      before (call.QueuedDpcs m)
      ∙ log.old-first s (valid w start calls accepted proper) time passed m n a b i l (sym (after (call.QueuedDpcs m)) ∙ p) (sym (after (call.QueuedDpcs n)) ∙ q) (sym (before (call.QueuedDpcs i)) ∙ h)

  -- of two where the first is new, so that both are, two timers queued them, the one with the earlier due first, and of equal dues the lower
  pub new-by-due : (m n a b : ℕ) → m < n → QueueRead later m a → QueueRead later n b → ((i : ℕ) → QueueRead words i a → ⊥) → InDueOrder (answered words) (answered later) time a b
  new-by-due m n a b l p q new =
      same-order (asked s) (answered words) (asked s₁) (answered later) before after time a b
      (log.new-by-due s (valid w start calls accepted proper) time passed m n a b l (sym (after (call.QueuedDpcs m)) ∙ p) (sym (after (call.QueuedDpcs n)) ∙ q)
      (λ i h. new i (before (call.QueuedDpcs i) ∙ h)))

  -- the DPC of every timer that the advance reached stands in the queue
  pub reached-stands : (a : ℕ) (t : Timer) → (a ≡ 0 → ⊥) → Reached (answered words) time a t → (n : ℕ) × QueueRead later n a
  reached-stands a t n h =
      let r = log.reached-stands s (valid w start calls accepted proper) time passed a t n (same-reached (answered words) (asked s) (λ x. sym (before x)) time a t h) in
      (r.0, after (call.QueuedDpcs r.0) ∙ r.1)
