-- What the check's clauses say of words in form, part by part.
use Prim.Native.Nat.{ℕ, ◌≤◌}
use mathlib.Core.List.{List}
use mathlib.Core.Bool.{cond, true, false}
use mathlib.Core.Path.{◌≡◌}
use lib.ListN.{get_or}
use Rattle.words.specs.Layout as at
use Rattle.form_dpc.specs.Dpc.{dpcs_pass}
use Rattle.form_dpc.specs.Queue.{queue_stands_once}
use Rattle.form_dpc.specs.Counts.{sum_holds, starts_pass, returns_pass}
use Rattle.form.specs.Header.{limits_pass, long_enough, header_numbers}
use Rattle.form_threads.specs.Thread.{threads_pass}
use Rattle.form.specs.Object.{objects_pass}
use Rattle.form_chains.specs.Chain.{sequences_rise, waiters_stand_once, ready_stand_once}
use Rattle.form.specs.Form.{in_form}
use Rattle.agreement_form.proofs.Clauses.{both}
use Rattle.agreement_form.proofs.HeaderForm.{Counted, counted}
use Rattle.agreement_form.proofs.ThreadForm.{ThreadForm, threads-form}
use Rattle.agreement_form.proofs.ObjectForm.{ObjectsForm, objects-form}
use Rattle.agreement_form.proofs.DpcForm.{DpcsForm, dpcs-form}
use Rattle.agreement_form.proofs.Members.{WaitersForm, waiters-form}
use Rattle.agreement_form.proofs.ReadyForm.{ReadyForm, ready-form}
use Rattle.agreement_form.proofs.DecodedQueue.{QueueIs, queue-is}

pub record Parts (w : List ℕ) : Type 0 where
  pub header : Counted w
  pub threads : (i : ℕ) → 1 ≤ i → i ≤ get_or w at.threads 0 → ThreadForm w i
  pub objects : ObjectsForm w
  pub dpcs : DpcsForm w
  pub rise : sequences_rise w ≡ true
  pub waiters : WaitersForm w
  pub ready : ReadyForm w
  pub queue : QueueIs w
  pub sum : sum_holds w ≡ true
  pub starts : starts_pass w ≡ true
  pub returns : returns_pass w ≡ true

pub parts : (w : List ℕ) → in_form w ≡ true → Parts w
unfolding in_form
parts w e =
    let r₁₂ = returns_pass w in
    let r₁₁ = cond (starts_pass w) r₁₂ false in
    let r₁₀ = cond (sum_holds w) r₁₁ false in
    let r₉ = cond (queue_stands_once w) r₁₀ false in
    let r₈ = cond (ready_stand_once w) r₉ false in
    let r₇ = cond (waiters_stand_once w) r₈ false in
    let r₆ = cond (sequences_rise w) r₇ false in
    let r₅ = cond (dpcs_pass w) r₆ false in
    let r₄ = cond (objects_pass w) r₅ false in
    let r₃ = cond (threads_pass w) r₄ false in
    let r₂ = cond (header_numbers w) r₃ false in
    let r₁ = cond (long_enough w) r₂ false in
    let limits = both (limits_pass w) r₁ e in
    let long = both (long_enough w) r₂ limits.1 in
    let numbers = both (header_numbers w) r₃ long.1 in
    let threads = both (threads_pass w) r₄ numbers.1 in
    let objects = both (objects_pass w) r₅ threads.1 in
    let dpcs = both (dpcs_pass w) r₆ objects.1 in
    let rise = both (sequences_rise w) r₇ dpcs.1 in
    let waiters = both (waiters_stand_once w) r₈ rise.1 in
    let ready = both (ready_stand_once w) r₉ waiters.1 in
    let queue = both (queue_stands_once w) r₁₀ ready.1 in
    let sum = both (sum_holds w) r₁₁ queue.1 in
    let starts = both (starts_pass w) r₁₂ sum.1 in
    let c = counted w limits.0 long.0 numbers.0 in
    record {
      header = c;
      threads = threads-form w c threads.0;
      objects = objects-form w c objects.0;
      dpcs = dpcs-form w c dpcs.0;
      rise = rise.0;
      waiters = waiters-form w c waiters.0;
      ready = ready-form w c ready.0;
      queue = queue-is w c queue.0;
      sum = sum.0;
      starts = starts.0;
      returns = starts.1;
    }
