-- The result of a wait that did not block: one word of a thread's record, on the words and in the log.
use Prim.Native.Nat.{ℕ, ◌+◌, ◌≤◌}
use mathlib.Core.List.{List}
use mathlib.Core.Option.{Option}
use mathlib.Core.Path.{◌≡◌, refl, sym, ap, ◌∙◌, subst}
use native.Mathlib.Omega.{arith}
use lib.ListN.{set, length}
use lib.Seq.{set-get_or}
use Rattle.words.specs.Layout as at
use Rattle.threads.specs.Thread.{put_thread}
use Rattle.model.specs.State.{State, Thread, WaitResult}
use Rattle.model.specs.Threads.{thread_of, with_thread, with_result}
use Rattle.model.specs.Step.{with_dispatcher}
use Rattle.agreement_chains.proofs.Frames.{read-other}
use Rattle.agreement.specs.Records.{status_number, exit_status, result_number}
use Rattle.agreement.specs.Agree.{Agreeing}
use Rattle.agreement.proofs.Threads.{stored_of, sim-thread}
use Rattle.agreement.proofs.Lookups.{thread-word-is}

module _ (w : List ℕ) (s : State) (holder : ℕ → ℕ) (active : ℕ) (a : Agreeing w s holder active) (id : ℕ) (r : Option WaitResult) (one : 1 ≤ id) (le : id ≤ length s.dispatcher.threads) where
  abbrev t : Thread
  t = thread_of s.dispatcher id

  abbrev p : ℕ
  p = at.thread_at id

  -- the words of the record that stay are written as they were
  result-alone : put_thread w id (stored_of (with_result (thread_of s.dispatcher id) r)) ≡ set w (at.thread_at id + at.result) (result_number r)
  unfolding put_thread
  result-alone =
      ap (λ (v : List ℕ). set (set (set v (p + at.state) (status_number t.status)) (p + at.result) (result_number r)) (p + at.status) (exit_status t.status))
      (ap (set w (p + at.priority)) (sym (thread-word-is w s holder active a id one le 0 t.priority refl)) ∙ set-get_or w (p + at.priority) 0)
      ∙ ap (λ (v : List ℕ). set (set v (p + at.result) (result_number r)) (p + at.status) (exit_status t.status))
      (ap (set w (p + at.state)) (sym (thread-word-is w s holder active a id one le 1 (status_number t.status) refl)) ∙ set-get_or w (p + at.state) 0)
      ∙ ap (set (set w (p + at.result) (result_number r)) (p + at.status))
      (sym (read-other w (p + at.result) (p + at.status) (result_number r) (λ e. omega arith) ∙ thread-word-is w s holder active a id one le 5 (exit_status t.status) refl))
      ∙ set-get_or (set w (p + at.result) (result_number r)) (p + at.status) 0

  pub sim-result : Agreeing (set w (at.thread_at id + at.result) (result_number r)) (with_dispatcher s (with_thread s.dispatcher id (with_result (thread_of s.dispatcher id) r))) holder active
  sim-result =
      subst (λ (v : List ℕ). Agreeing v (with_dispatcher s (with_thread s.dispatcher id (with_result t r))) holder active) result-alone
      (sim-thread w s holder active a id (with_result t r) one le
      (record { one = (a.shape.fit id one le).one; small = (a.shape.fit id one le).small; wait = (a.shape.fit id one le).wait }) (λ m. refl) (a.waits.current id one le))
