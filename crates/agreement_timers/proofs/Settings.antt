-- A timer set, in the words and in the log: its former DPC had by none, its record written, its new DPC had by it.
use Prim.Native.Nat.{ℕ, ◌+◌, ◌*◌, ◌≤◌}
use mathlib.Core.List.{List, [], ◌∷◌}
use mathlib.Core.Bool.{Bool, true, false, cond}
use mathlib.Core.Option.{some}
use mathlib.Core.Path.{◌≡◌, refl, sym, ap, ◌∙◌, subst}
use native.Mathlib.Omega.{arith}
use lib.Dec.{eqb}
use borrow.Author.Tests.{eqb-true, eqb-false}
use Rattle.words.specs.Layout as at
use Rattle.images.specs.declared.Timer.{Timer}
use Rattle.arming.specs.declared.Setting.{Setting}
use Rattle.arming.specs.Arm as words
use Rattle.model.specs.State.{State, timer}
use Rattle.model.specs.Waits.{key_of, object_at, put_object}
use Rattle.model.specs.Timers.{most, armed, is_named_by_other}
use Rattle.model.specs.Step.{with_table}
use Rattle.model.specs.Valid.{Valid}
use Rattle.model.proofs.TableLaws.{found}
use Rattle.agreement_tables.specs.Tables.{below}
use Rattle.agreement.specs.Records.{flag, holds, holder_of, active_address}
use Rattle.agreement.specs.Agree.{objects_from, Agreeing, Agree}
use Rattle.agreement.proofs.Rows.{Store, store, written, In}
use Rattle.agreement.proofs.Places.{Any}
use Rattle.agreement.proofs.Objects.{sim-put-object}
use Rattle.agreement_work.proofs.Puts.{holder-timer}
use Rattle.agreement_work.proofs.Named.{other-holds}
use Rattle.agreement_work.proofs.Armed.{holder-armed, holder-gone}
use Rattle.agreement_timers.proofs.Naming.{sim-named, sim-unnamed}

-- ---- the record

abbrev stores : Setting → List Store
stores x = store at.signaled 0 ∷ store at.inserted 1 ∷ store at.due x.due ∷ store at.period x.period ∷ store at.timer_dpc x.dpc ∷ store at.absolute x.absolute ∷ store at.arm x.arm ∷ []

put-setting : (w : List ℕ) (place : ℕ) (x : Setting) → words.setting_put w place x ≡ written w place (stores x)
unfolding words.setting_put
put-setting w place x = refl

in-record : (x : Setting) → In Any (stores x)
in-record x = (omega arith, (omega arith, (omega arith, (omega arith, (omega arith, (omega arith, (omega arith, tt)))))))

-- what the log's timer is set to
abbrev pub setting_of : Timer → ℕ → Bool → ℕ → ℕ → Setting
setting_of t due absolute period dpc = record { due = due; absolute = flag absolute; period = period; dpc = dpc; arm = t.arm_generation + 1 }

module _ (w : List ℕ) (s : State) (holder : ℕ → ℕ) (active : ℕ) (a : Agreeing w s holder active) (k : ℕ) (t : Timer) (e : object_at s.dispatcher.objects k ≡ some (timer t))
    (due : ℕ) (absolute : Bool) (period dpc : ℕ) where
  pub sim-setting : t.arm_generation + 1 ≤ most → due ≤ most
      → Agreeing (words.setting_put w (objects_from s.limits + 32 * below key_of k s.dispatcher.objects) (setting_of t due absolute period dpc))
      (with_table s (put_object (timer (armed t due absolute period dpc)) s.dispatcher.objects)) holder active
  unfolding armed
  sim-setting few fits =
      let named : t.address ≡ k = (found key_of s.dispatcher.objects k (timer t) e).1 in
      subst (λ (v : List ℕ). Agreeing v (with_table s (put_object (timer (armed t due absolute period dpc)) s.dispatcher.objects)) holder active)
      (sym (put-setting w (objects_from s.limits + 32 * below key_of k s.dispatcher.objects) (setting_of t due absolute period dpc)))
      (subst (λ (n : ℕ). Agreeing (written w (objects_from s.limits + 32 * below key_of n s.dispatcher.objects) (stores (setting_of t due absolute period dpc)))
      (with_table s (put_object (timer (armed t due absolute period dpc)) s.dispatcher.objects)) holder active) named
      (sim-put-object w s holder active a (timer t) (timer (armed t due absolute period dpc)) (stores (setting_of t due absolute period dpc))
      (ap (object_at s.dispatcher.objects) named ∙ e) (few, fits) (in-record (setting_of t due absolute period dpc)) refl))

-- ---- all of it

module _ (w : List ℕ) (s : State) (a : Agree w s) (v : Valid s) (k : ℕ) (t : Timer) (e : object_at s.dispatcher.objects k ≡ some (timer t))
    (due : ℕ) (absolute : Bool) (period dpc : ℕ) where
  named : t.address ≡ k
  named = (found key_of s.dispatcher.objects k (timer t) e).1

  -- who has a DPC afterwards
  after : ((dpc ≡ 0 → ⊥) → is_named_by_other s.dispatcher.objects k dpc ≡ false) → (b : ℕ) → (b ≡ 0 → ⊥)
      → holder_of (put_object (timer (armed t due absolute period dpc)) s.dispatcher.objects) b ≡ cond (eqb b dpc) k (cond (holds b t) 0 (holder_of s.dispatcher.objects b))
  unfolding armed
  after alone b z = by (eqb b dpc) refl
    where
      u : Timer
      u = armed t due absolute period dpc

      there : object_at s.dispatcher.objects t.address ≡ some (timer t)
      there = ap (object_at s.dispatcher.objects) named ∙ e

      other : holds b u ≡ false → (c : Bool) → holds b t ≡ c → holder_of (put_object (timer u) s.dispatcher.objects) b ≡ cond c 0 (holder_of s.dispatcher.objects b)
      other f true q = holder-gone s.dispatcher.objects a.shape.rising v.linked.alone b z u t there q f
      other f false q = holder-timer s.dispatcher.objects a.shape.rising u t there b (f ∙ sym q)

      by : (c : Bool) → eqb b dpc ≡ c → holder_of (put_object (timer u) s.dispatcher.objects) b ≡ cond c k (cond (holds b t) 0 (holder_of s.dispatcher.objects b))
      by true q =
          let d : b ≡ dpc = eqb-true b dpc q in
          ap (holder_of (put_object (timer u) s.dispatcher.objects)) d
          ∙ holder-armed s.dispatcher.objects a.shape.rising u refl
          (ap (λ (n : ℕ). is_named_by_other s.dispatcher.objects n dpc) named ∙ alone (λ y. z (d ∙ y)))
          ∙ named
      by false q = other (other-holds b u (eqb-false b dpc q)) (holds b t) refl

  pub agree-armed : t.arm_generation + 1 ≤ most → due ≤ most → ((dpc ≡ 0 → ⊥) → is_named_by_other s.dispatcher.objects k dpc ≡ false)
      → Agree (words.armed w (objects_from s.limits + 32 * below key_of k s.dispatcher.objects) k (setting_of t due absolute period dpc))
      (with_table s (put_object (timer (armed t due absolute period dpc)) s.dispatcher.objects))
  unfolding words.armed
  agree-armed few fits alone =
      let place = objects_from s.limits + 32 * below key_of k s.dispatcher.objects in
      let without : ℕ → ℕ = λ b. cond (holds b t) 0 (holder_of s.dispatcher.objects b) in
      let active = active_address s.dpcs.table in
      let s' = with_table s (put_object (timer (armed t due absolute period dpc)) s.dispatcher.objects) in
      sim-named (words.setting_put (words.unnamed w place) place (setting_of t due absolute period dpc)) s' without active
      (sim-setting (words.unnamed w place) s without active (sim-unnamed w s (holder_of s.dispatcher.objects) active a k t e) k t e due absolute period dpc few fits)
      dpc k (holder_of (put_object (timer (armed t due absolute period dpc)) s.dispatcher.objects)) (after alone)
