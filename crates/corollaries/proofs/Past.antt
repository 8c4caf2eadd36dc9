-- No call writes past the words that the limits need; an `open` goes by its own limits, whatever the words.
use Prim.Native.Nat.{ℕ, ◌≤◌}
use mathlib.Core.List.{List}
use mathlib.Core.Path.{◌≡◌}
use lib.ListN.{get_or, length}
use Rattle.calls.specs.Called.{called}
use Rattle.calls.specs.Run.{left}
use Rattle.model.specs.State.{State}
use Rattle.model.specs.Refusal.{words_needed}
use Rattle.model.specs.Call.{Call, Open}
use Rattle.model.specs.Start.{Start, Accepted}
use Rattle.agreement_past.specs.Past.{NoOpen}
use Rattle.agreement_past.proofs.Threads.{opened-kept}
use Rattle.agreement_past.proofs.Calls.{keeps-past}
use Rattle.theorem.specs.History.{Proper}
use Rattle.theorem.specs.Theorem.{logged, end}
use Rattle.corollaries.proofs.Next.{agree, valid}

pub open-leaves-past : (words : List ℕ) (m p t o d j : ℕ) → words_needed t o d ≤ j → get_or (left words (Open m p t o d)) j 0 ≡ get_or words j 0
unfolding called
open-leaves-past words m p t o d j h = opened-kept words p t o d j h

module _ (w : List ℕ) (start : Start) (calls : List Call) (accepted : Accepted (length w) start) (proper : Proper (length w) calls) where
  abbrev words : List ℕ
  words = end w start calls

  abbrev log : State
  log = logged w start calls

  pub leaves-past : (c : Call) → NoOpen c → (j : ℕ) → words_needed log.limits.threads log.limits.objects log.limits.dpcs ≤ j → get_or (left words c) j 0 ≡ get_or words j 0
  leaves-past c h j p = keeps-past words log (agree w start calls accepted proper) (valid w start calls accepted proper) c h j p
