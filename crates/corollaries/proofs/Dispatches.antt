-- A dispatch with none current and some thread ready runs the right one, and the words say that it is current.
use Prim.Native.Nat.{ℕ, ◌≤◌}
use mathlib.Core.List.{List, [], ◌∷◌}
use mathlib.Core.Bool.{false}
use mathlib.Core.Path.{◌≡◌, refl, sym, ap, ◌∙◌, subst}
use native.Mathlib.Omega.{arith}
use borrow.Author.Tests.{ltb-false}
use lib.Dec.{ltb}
use lib.ListN.{length}
use Rattle.calls.specs.Run.{answered, left}
use Rattle.model.specs.Lists.{Mem, is_empty}
use Rattle.model.specs.State.{State, Thread, ready, running}
use Rattle.model.specs.Threads as threads
use Rattle.model.specs.Threads.{becomes, ran, thread_of, is_ready}
use Rattle.model.specs.Choice.{Right}
use Rattle.model.specs.Refusal.{dispatch_refusal}
use Rattle.model.specs.Answer.{Outcome, Run, None}
use Rattle.model.specs.Call.{Call, Dispatch}
use Rattle.model.specs.Call as call
use Rattle.model.specs.Step.{step, refusal}
use Rattle.model.specs.Start.{Start, Accepted}
use Rattle.model.proofs.ListLaws.{member-mem}
use Rattle.model.proofs.ThreadLaws.{stands-somewhere}
use Rattle.model.proofs.SoundLaws.{is-thread}
use Rattle.model.proofs.RowLaws.{passes}
use Rattle.model.proofs.ChoiceLaws.{right-next}
use Rattle.model.proofs.PutLaws.{thread-put}
use Rattle.model.proofs.Told.{thread-told, told-thread, current-none-told, told-current}
use Rattle.theorem.specs.History.{Proper}
use Rattle.theorem.specs.Theorem.{logged, end}
use Rattle.theorem.proofs.Runs.{runs-next}
use Rattle.corollaries.specs.Reads.{ThreadRead}
use Rattle.corollaries.specs.Refusals.{is_refused}
use Rattle.corollaries.specs.Dispatches.{MadeCurrent}
use Rattle.corollaries.proofs.Next.{next, valid}
use Rattle.corollaries.proofs.Refusals.{passed-by}
use Rattle.corollaries.proofs.LeavingReads.{tells, tells-after, all-objects-read, all-dpcs-read, thread-left}

some_in : (l : List ℕ) (j : ℕ) → Mem j l → is_empty l ≡ false
some_in [] j m = absurd m
some_in (x ∷ l) j m = refl

module _ (w : List ℕ) (start : Start) (calls : List Call) (accepted : Accepted (length w) start) (proper : Proper (length w) calls) where
  abbrev words : List ℕ
  words = end w start calls

  abbrev log : State
  log = logged w start calls

  reads : (r : call.Read) → answered words (call.Reads r) ≡ (step (call.Reads r) log).answer
  reads r = (next w start calls accepted proper (call.Reads r) tt tt).answers

  ready-placed : (j : ℕ) (y : Thread) → ThreadRead words j y → y.status ≡ ready → Mem j log.dispatcher.placed
  ready-placed j y read q =
      member-mem j log.dispatcher.placed ((valid w start calls accepted proper).sound.standing.placed_ready j
      ∙ ap is_ready (ap (λ (z : Thread). z.status) (thread-told log j y (sym (reads (call.Thread j)) ∙ read)).1 ∙ q))

  -- by what the reads answer: none is current, some thread is ready, and the dispatch is not refused
  pub dispatch_runs : (n : ℕ) → is_refused (answered words (Dispatch n)) ≡ false → answered words (call.Reads call.Current) ≡ None
      → (j : ℕ) (y : Thread) → ThreadRead words j y → y.status ≡ ready
      → (i : ℕ) × (answered words (Dispatch n) ≡ Run i) × MadeCurrent words (left words (Dispatch n)) i × Right log.dispatcher i
  unfolding refusal dispatch_refusal ran becomes
  dispatch_runs n e none j y read q =
      let d₀ = log.dispatcher in
      let i = threads.next d₀ in
      let h = ltb-false n log.limits.threads (passes (ltb n log.limits.threads) 26 0 (passed-by w start calls accepted proper (Dispatch n) tt tt e)).0 in
      let some = some_in d₀.placed j (ready-placed j y read q) in
      let r = right-next log (valid w start calls accepted proper) some in
      let z = runs-next log n h (current-none-told log (sym (reads call.Current) ∙ none)) some in
      let s₁ = (step (Dispatch n) log).state in
      let b = stands-somewhere d₀.threads i is_ready refl (ap is_ready r.is-ready) in
      let x : Thread = record { priority = (thread_of d₀ i).priority; status = running; result = (thread_of d₀ i).result } in
      let before = tells w start calls accepted proper in
      let after = tells-after w start calls accepted proper (Dispatch n) tt tt in (
        i,
        (next w start calls accepted proper (Dispatch n) tt tt).answers ∙ ap (λ (o : Outcome). o.answer) z,
        record {
          thread = thread_of d₀ i;
          read = reads (call.Thread i) ∙ told-thread log i (is-thread d₀ i b.0 b.1);
          was = r.is-ready;
          highest = λ k u f g. subst (λ (v : Thread). v.priority ≤ (thread_of d₀ i).priority) (thread-told log k u (sym (reads (call.Thread k)) ∙ f)).1 (r.highest k (ready-placed k u f g));
          current = after call.Current ∙ told-current s₁ i (ap (λ (o : Outcome). o.state.dispatcher.current) z) (λ a. omega (arith, b.0));
          runs = thread-left words (left words (Dispatch n)) log s₁ before after i x (thread-put log s₁ i x (is-thread d₀ i b.0 b.1) (ap (λ (o : Outcome). o.state.dispatcher.threads) z));
          objects = all-objects-read words (left words (Dispatch n)) log s₁ before after (ap (λ (o : Outcome). o.state.dispatcher.objects) z);
          dpcs = all-dpcs-read words (left words (Dispatch n)) log s₁ before after (ap (λ (o : Outcome). o.state.dpcs) z);
        },
        r,
      )
