-- What the code never does: an advance answers neither 21 nor 2, and no two inserted timers have one DPC. (A queued DPC is never missing
-- from the queue: Queue.queued-stands.)
use Prim.Native.Nat.{ℕ}
use mathlib.Core.List.{List}
use mathlib.Core.Bool.{true}
use mathlib.Core.Option.{some}
use mathlib.Core.Path.{◌≡◌, sym, ◌∙◌}
use lib.ListN.{length}
use Rattle.images.specs.declared.Timer.{Timer}
use Rattle.calls.specs.Run.{answered}
use Rattle.model.specs.State.{State, timer}
use Rattle.model.specs.Waits.{key_of, object_at, timer_at}
use Rattle.model.specs.Answer.{Refused}
use Rattle.model.specs.Call.{Call, AdvanceTo}
use Rattle.model.specs.Call as call
use Rattle.model.specs.Step.{refusal}
use Rattle.model.specs.Start.{Start, Accepted}
use Rattle.model.specs.Fits.{Fits}
use Rattle.model.proofs.TableLaws.{found}
use Rattle.model.proofs.ObjectLaws.{timer-found}
use Rattle.model.proofs.NeverLaws.{advance-never-21, advance-never-2, one-timer-a-dpc}
use Rattle.model.proofs.Told.{timer-told}
use Rattle.theorem.specs.History.{Proper}
use Rattle.theorem.specs.Theorem.{logged, end}
use Rattle.corollaries.specs.Reads.{TimerRead}
use Rattle.corollaries.proofs.Next.{next, valid}
use Rattle.corollaries.proofs.Refusals.{refused-by}

module _ (w : List ℕ) (start : Start) (calls : List Call) (accepted : Accepted (length w) start) (proper : Proper (length w) calls) where
  abbrev words : List ℕ
  words = end w start calls

  abbrev log : State
  log = logged w start calls

  -- "other queued work 21, which no call sequence reaches"
  pub advance-not-21 : (time : ℕ) → Fits (AdvanceTo time) → answered words (AdvanceTo time) ≡ Refused 21 → ⊥
  unfolding refusal
  advance-not-21 time fit e = advance-never-21 log (valid w start calls accepted proper) time (refused-by w start calls accepted proper (AdvanceTo time) fit tt 21 e)

  -- nor does an advance meet a DPC that is not there
  pub advance-not-2 : (time : ℕ) → Fits (AdvanceTo time) → answered words (AdvanceTo time) ≡ Refused 2 → ⊥
  unfolding refusal
  advance-not-2 time fit e = advance-never-2 log (valid w start calls accepted proper) time (refused-by w start calls accepted proper (AdvanceTo time) fit tt 2 e)

  known : (k : ℕ) (x : Timer) → TimerRead words k x → timer_at log.dispatcher.objects k ≡ some x
  known k x e = timer-told log k x (sym (next w start calls accepted proper (call.Reads (call.TimerAt k)) tt tt).answers ∙ e)

  stands_at : (k : ℕ) (x : Timer) → TimerRead words k x → x.address ≡ k
  stands_at k x e = (found key_of log.dispatcher.objects k (timer x) (timer-found (object_at log.dispatcher.objects k) x (known k x e))).1

  -- two inserted timers on one DPC are one
  pub one-timer : (k j : ℕ) (x y : Timer) → TimerRead words k x → TimerRead words j y → x.inserted ≡ true → y.inserted ≡ true → (x.dpc ≡ 0 → ⊥) → x.dpc ≡ y.dpc → k ≡ j
  one-timer k j x y e f a b n q =
      sym (stands_at k x e) ∙ one-timer-a-dpc log (valid w start calls accepted proper) k j x y (known k x e) (known j y f) a b n q ∙ stands_at j y f
