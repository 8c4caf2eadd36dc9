-- On words in form a call without the check gives what the checked call gives: its answer, the words, and every output.
use Prim.Native.Nat.{ℕ}
use mathlib.Core.List.{List}
use mathlib.Core.Bool.{Bool, true, cond}
use mathlib.Core.Path.{◌≡◌, refl, sym, ap}
use lib.Dec.{ltb}
use lib.ListN.{length}
use Rattle.answers.specs.declared.Answer.TheVariants.{Refused}
use Rattle.answers.specs.Outcome.{outcome}
use Rattle.dispatcher.specs.Dispatch.{told}
use Rattle.dispatcher.specs.Dispatched.{dispatched}
use Rattle.dpc_work.specs.Work.{start_outcome}
use Rattle.dpc_work.specs.WorkAnswer as work
use Rattle.form.specs.Form.{in_form}
use Rattle.model.specs.Call.{Call}
use Rattle.calls.specs.Images.{imaged}
use Rattle.calls.specs.Guard.{refusing, guarded, guarded_dispatch, guarded_start, readable, image_refused, guarded_image}
use Rattle.calls.specs.Called.{Reading, tells, images, Meaning, opens, acts, starts, dispatches, reads, meaning, run_read, run, called}
use Rattle.unchecked.specs.Unchecked.{fitting, reads_bare, runs_bare, unchecked}

module _ (w : List ℕ) (f : in_form w ≡ true) where
  same_read : (r : Reading) → reads_bare w r ≡ run_read w r
  unfolding readable guarded_image image_refused fitting
  same_read (tells k g) = sym (ap (λ (b : Bool). cond b (g w) (refusing k 27)) f)
  same_read (images n g) = sym (ap (λ (b : Bool). (λ (out : List ℕ). cond (cond b (ltb (length out) 64) true) (imaged (Refused 27) out) (g w out))) f)

  same-run : (m : Meaning) → runs_bare w m ≡ run w m
  unfolding guarded guarded_dispatch guarded_start
  same-run (opens n g) = refl
  same-run (acts g) = sym (ap (λ (b : Bool). cond b (g w) (outcome (Refused 27) w)) f)
  same-run (starts g) = sym (ap (λ (b : Bool). cond b (g w) (start_outcome (work.Refused 27) w)) f)
  same-run (dispatches n) = sym (ap (λ (b : Bool). (λ (out : List ℕ). cond b (dispatched w out) (told (Refused 27) w out))) f)
  same-run (reads r) = same_read r

  pub same : (c : Call) → unchecked w c ≡ called w c
  unfolding unchecked called
  same c = same-run (meaning c)
