-- On words in form a guarded call is the call itself.
use Prim.Native.Nat.{ℕ}
use mathlib.Core.List.{List}
use mathlib.Core.Bool.{Bool, true, cond}
use mathlib.Core.Path.{◌≡◌, ap}
use Rattle.answers.specs.declared.Answer.TheVariants.{Refused}
use Rattle.answers.specs.Outcome.{Outcome, outcome}
use Rattle.dispatcher.specs.Dispatch.{told}
use Rattle.dispatcher.specs.Dispatched.{dispatched}
use Rattle.dpc_work.specs.Work.{Started, start_outcome}
use Rattle.dpc_work.specs.WorkAnswer as work
use Rattle.form.specs.Form.{in_form}
use Rattle.calls.specs.Guard.{Kind, Code, refusing, guarded, guarded_dispatch, guarded_start, readable}

module _ (w : List ℕ) (f : in_form w ≡ true) where
  pub guarded-is : (o : Outcome) → guarded w o ≡ o
  unfolding guarded
  guarded-is o = ap (λ (b : Bool). cond b o (outcome (Refused 27) w)) f

  pub dispatch-is : (out : List ℕ) → guarded_dispatch w out ≡ dispatched w out
  unfolding guarded_dispatch
  dispatch-is out = ap (λ (b : Bool). cond b (dispatched w out) (told (Refused 27) w out)) f

  pub start_is : (o : Started) → guarded_start w o ≡ o
  unfolding guarded_start
  start_is o = ap (λ (b : Bool). cond b o (start_outcome (work.Refused 27) w)) f

  pub readable-is : (k : Kind) (a : Code k) → readable w k a ≡ a
  unfolding readable
  readable-is k a = ap (λ (b : Bool). cond b a (refusing k 27)) f
