-- `retire_event_backing` and `require_event_release` on the words and in the log.
use Prim.Native.Nat.{ℕ, ◌+◌, ◌*◌, ◌≤◌}
use mathlib.Core.List.{List}
use mathlib.Core.Bool.{Bool, true, false, cond, not, ◌&&◌}
use mathlib.Core.Path.{◌≡◌, refl, sym, ap, ◌∙◌, subst}
use native.Mathlib.Omega.{arith}
use lib.Dec.{eqb, ltb}
use lib.ListN.{get_or, length}
use Rattle.words.specs.Layout as at
use Rattle.answers.specs.declared.Answer.TheVariants as answer
use Rattle.call_answers.specs.Told.{told}
use Rattle.event_release.specs.Release.{is_event, is_retired, retired, release_refusal, release_answer, events_retired}
use Rattle.objects.specs.Objects.{objects_base}
use Rattle.model.specs.Lists.{keep}
use Rattle.model.specs.State.{State, Object}
use Rattle.model.specs.Waits.{key_of, kind_of}
use Rattle.model.specs.Refusal.{event_release_refusal}
use Rattle.model.specs.Valid.{Valid}
use Rattle.model.specs.Reads.{read_refusal, read_answer}
use Rattle.model.specs.Answer.{Done, Refused, gives}
use Rattle.model.specs.Call as call
use Rattle.model.specs.Step as log
use Rattle.model.specs.Step.{step, refusal, effect, with_table, is_retired_event}
use Rattle.model.proofs.ListLaws.{not-both, length-keep}
use Rattle.model.proofs.TableLaws.{rising-keep, each_keep}
use Rattle.model.proofs.ObjectLaws.{on-event, on-timer}
use Rattle.agreement_tables.specs.Tables as tables
use Rattle.agreement_tables.proofs.Holds.{row-local}
use Rattle.agreement_tables.proofs.Retired.{Goes, length-retired, retired-outside, retired-holds, retired-count}
use Rattle.agreement.specs.Row.{Row}
use Rattle.agreement.specs.Records.{object_row, holder_of, active_address}
use Rattle.agreement.specs.Shape.{ObjectFits}
use Rattle.agreement.specs.Agree.{objects_from, Agree}
use Rattle.agreement.specs.Matches.{Plainly}
use Rattle.agreement.proofs.Rows.{says-short}
use Rattle.agreement.proofs.Frames.{object-short}
use Rattle.agreement.proofs.Headers.{objects-few}
use Rattle.agreement.proofs.Lookups.{base-is, row-kind}
use Rattle.agreement.proofs.Matches.{plainly-unless}
use Rattle.agreement_wakes.proofs.Waiters.{waits-on-is}
use Rattle.agreement_work.proofs.Holders.{has, holder-keep}
use Rattle.agreement.proofs.Written.{Elsewhere, sim-objects}
use Rattle.agreement_release.proofs.Fewer.{same-named}
use Rattle.agreement_release.proofs.EventRefusal.{leb-not, event-release-is}

-- those that stay
abbrev stays : ℕ → ℕ → Object → Bool
stays lo hi x = not (is_retired_event lo hi x)

-- an object's row speaks of words of its record
pub objects-local : tables.Local tables.Whole (λ w place (x : Object). Row w place (object_row x))
objects-local = row-local tables.Whole object_row (λ x k n e. let h = says-short (object_row x) k n e in (omega (arith, object-short x), tt))

-- the words of a record tell whether it goes
goes-is : (w : List ℕ) (lo hi place : ℕ) (x : Object) → Row w place (object_row x) → Goes (stays lo hi) lo hi w place x
unfolding is_retired is_event
goes-is w lo hi place x r = on-event (λ b. is_retired w place lo hi ≡ not (not b)) x (λ n. simp (r 1 (kind_of x) (row-kind x), n))
    (λ e q. let z = subst (λ (y : Object). Row w place (object_row y)) q r in simp (z 1 1 refl, z 0 e.key refl, leb-not lo e.key, by (ltb e.key lo) (ltb e.key hi)))
  where
    by : (a b : Bool) → cond a false b ≡ not (not (not a && b))
    by true b = refl
    by false true = refl
    by false false = refl

-- no timer goes
timers-stay : (lo hi b : ℕ) (x : Object) → stays lo hi x ≡ false → has b x ≡ false
timers-stay lo hi b x e = on-timer (λ c. c ≡ false) x (λ n. refl) (λ t q. absurd (not-both (sym (ap (stays lo hi) q) ∙ e)))

module _ (w : List ℕ) (s : State) (a : Agree w s) where
  -- the events in a range go
  sim-retired : (lo hi : ℕ) → Agree (retired w lo hi) (with_table s (keep (stays lo hi) s.dispatcher.objects))
  sim-retired lo hi =
      same-named (retired w lo hi) (with_table s l) (holder_of s.dispatcher.objects) (active_address s.dpcs.table)
      (sim-objects w s (holder_of s.dispatcher.objects) (active_address s.dpcs.table) a (retired w lo hi) l
      (length-retired tables.Whole P objects-local f lo hi base low high w xs based count few long)
      (retired-outside tables.Whole P objects-local f lo hi base low high w xs based count few long Else (λ e. e.no-count refl) (λ p x y e. e.no-object x (omega (arith, a.shape.sizes.objects_fit))))
      (retired-count tables.Whole P objects-local f lo hi base low high w xs based count few long a.objects goes)
      (retired-holds tables.Whole P objects-local f lo hi base low high w xs based count few long a.objects goes)
      (omega (arith, length-keep f xs, a.shape.sizes.objects_fit))
      (rising-keep key_of f xs a.shape.rising) (each_keep key_of ObjectFits f xs a.shape.rising a.shape.bounded))
      (holder_of l) (active_address s.dpcs.table) (λ d m. holder-keep f xs d.address (λ x i. timers-stay lo hi d.address x)) refl
    where
      xs : List Object
      xs = s.dispatcher.objects

      l : List Object
      l = keep (stays lo hi) s.dispatcher.objects

      f : Object → Bool
      f = stays lo hi

      P : List ℕ → ℕ → Object → Type 0
      P = λ v place (x : Object). Row v place (object_row x)

      Else : ℕ → Type 0
      Else = Elsewhere w s (holder_of s.dispatcher.objects) (active_address s.dpcs.table) a

      base : ℕ
      base = objects_from s.limits

      low : objects_from s.limits ≤ 1000000
      low = omega (arith, a.shape.sizes.limits.threads)

      high : at.header_size ≤ objects_from s.limits
      high = omega arith

      based : objects_base w ≡ objects_from s.limits
      based = base-is w s (holder_of s.dispatcher.objects) (active_address s.dpcs.table) a

      count : get_or w at.objects 0 ≡ length s.dispatcher.objects
      count = a.numbers at.objects (length s.dispatcher.objects) refl

      few : length s.dispatcher.objects ≤ 4096
      few = objects-few w s (holder_of s.dispatcher.objects) (active_address s.dpcs.table) a

      long : objects_from s.limits + 32 * length s.dispatcher.objects ≤ length w
      long = omega (arith, a.enough, a.shape.sizes.objects_fit)

      goes : tables.Holds (Goes (stays lo hi) lo hi) w (objects_from s.limits) s.dispatcher.objects
      goes i x e = goes-is w lo hi (objects_from s.limits + 32 * i) x (a.objects i x e)

module _ (w : List ℕ) (s : State) (a : Agree w s) (v : Valid s) where
  refused-alike : (base size layout : ℕ) → release_refusal w base size layout ≡ event_release_refusal s base size layout
  refused-alike = event-release-is w s holder active a (waits-on-is w s holder active a v.sound.standing.waiters_waiting)
    where
      holder : ℕ → ℕ
      holder = holder_of s.dispatcher.objects

      active : ℕ
      active = active_address s.dpcs.table

  pub agree-retire-events : (base size layout : ℕ) → Plainly (events_retired w base size layout) (step (call.RetireEventBacking base size layout) s)
  unfolding events_retired refusal effect log.events_retired
  agree-retire-events base size layout =
      plainly-unless w s a (call.RetireEventBacking base size layout) (release_refusal w base size layout) _ (refused-alike base size layout)
      (λ e. record { answers = refl; agree = sim-retired w s a base (base + size) })

  pub require-event-release : (base size layout : ℕ) → told (release_answer w base size layout) ≡ (step (call.Reads (call.RequireEventRelease base size layout)) s).answer
  unfolding release_answer step refusal effect read_refusal read_answer
  require-event-release base size layout =
      ap (λ (n : ℕ). told (cond (eqb n 0) answer.Done (answer.Refused n))) (refused-alike base size layout)
      ∙ by (eqb (event_release_refusal s base size layout) 0) (event_release_refusal s base size layout)
    where
      by : (b : Bool) (n : ℕ) → told (cond b answer.Done (answer.Refused n)) ≡ (cond b (gives Done s) (gives (Refused n) s)).answer
      by true n = refl
      by false n = refl
