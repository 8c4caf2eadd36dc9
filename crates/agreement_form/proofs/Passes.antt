-- Words that agree with a state in form are in form; a valid state whose numbers pass their checks is in form.
use Prim.Native.Nat.{ℕ}
use mathlib.Core.List.{List}
use mathlib.Core.Bool.{true}
use mathlib.Core.Path.{◌≡◌}
use Rattle.form.specs.Form.{in_form}
use Rattle.model.specs.State.{State}
use Rattle.model.specs.Valid.{Valid}
use Rattle.model.specs.Fits.{Numbers}
use Rattle.model.proofs.ObjectLaws.{map-timer}
use Rattle.agreement.specs.Agree.{Agree}
use Rattle.agreement_form.specs.Form.{Form}
use Rattle.agreement_form.proofs.Header.{limits-pass, long-enough, header-numbers}
use Rattle.agreement_form.proofs.ThreadWaits.{threads-pass}
use Rattle.agreement_form.proofs.ObjectRecords.{objects-pass}
use Rattle.agreement_form.proofs.DpcRecords.{dpcs-pass}
use Rattle.agreement_form.proofs.Waiters.{sequences-rise, waiters-stand-once}
use Rattle.agreement_form.proofs.ReadyThreads.{ready-stand-once}
use Rattle.agreement_form.proofs.DpcCounts.{queue-stands-once, sum-holds, starts-pass, returns-pass}

pub form-passes : (w : List ℕ) (s : State) → Agree w s → Form s → in_form w ≡ true
unfolding in_form
form-passes w s a v =
    simp (
      limits-pass w s a v,
      long-enough w s a v,
      header-numbers w s a v,
      threads-pass w s a v,
      objects-pass w s a v,
      dpcs-pass w s a v,
      sequences-rise w s a v,
      waiters-stand-once w s a v,
      ready-stand-once w s a v,
      queue-stands-once w s a v,
      sum-holds w s a v,
      starts-pass w s a v,
      returns-pass w s a v,
    )

pub valid-form : (s : State) → Valid s → Numbers s → Form s
valid-form s v n =
    record {
      limits = v.limits;
      sound = v.sound;
      queueing = record {
        rising = v.queueing.rising;
        room = v.queueing.room;
        places = v.queueing.places;
        queued = v.queueing.queued;
        once = v.queueing.once;
        given_out = v.queueing.given_out;
        lived = v.queueing.lived;
        sum = v.queueing.sum;
        starts = v.queueing.starts;
        one_active = v.queueing.one_active;
        returns = v.queueing.returns;
      };
      linked = record { served = λ k x e. map-timer (λ t h i d. (h i d).0) x (v.linked.served k x e); alone = v.linked.alone; apart = v.linked.apart };
      policy = v.policy;
      timers_lived = v.timers_lived;
      dpcs_lived = v.dpcs_lived;
      numbers = n;
    }

pub passes : (w : List ℕ) (s : State) → Agree w s → Valid s → Numbers s → in_form w ≡ true
passes w s a v n = form-passes w s a (valid-form s v n)
