-- A wait that nothing grants: it times out at once, is refused, or blocks; on the words and on the log.
use Prim.Native.Nat.{ℕ, ◌-◌, ◌^◌, ◌<◌}
use mathlib.Core.List.{List}
use mathlib.Core.Bool.{Bool, true, false, cond}
use mathlib.Core.Option.{Option, some}
use mathlib.Core.Path.{◌≡◌, refl, sym, ap, ◌∙◌, subst}
use native.Mathlib.Omega.{arith}
use borrow.Author.Tests.{leb-false}
use lib.Dec.{leb, ltb}
use Rattle.words.specs.Layout as at
use Rattle.answers.specs.Outcome.{outcome, unless}
use Rattle.answers.specs.declared.Answer.TheVariants as answer
use Rattle.threads.specs.declared.Wait as stored-wait
use Rattle.waiting.specs.Wait as words
use Rattle.model.specs.Lists.{Mem}
use Rattle.model.specs.State.{State, timeout, Named}
use Rattle.model.specs.Threads.{is_ready, is_waiting, becomes, blocked}
use Rattle.model.specs.Waits.{reached}
use Rattle.model.specs.Timers.{most}
use Rattle.model.specs.Valid.{Valid}
use Rattle.model.specs.Refusal.{sequence_refusal}
use Rattle.model.specs.Answer.{Outcome}
use Rattle.model.specs.Call.{Call}
use Rattle.model.specs.Step.{step, refusal, effect, timed_out, blocks}
use Rattle.model.proofs.ListLaws.{member-not}
use Rattle.model.proofs.KeepLaws.{current-known}
use Rattle.agreement.specs.Shape.{WaitFits}
use Rattle.agreement.specs.Agree.{Agree}
use Rattle.agreement.specs.Matches.{Plainly}
use Rattle.agreement.proofs.Matches.{plainly-unless, plainly-accepted}
use Rattle.agreement.proofs.Waits.{Stored, InForm}
use Rattle.agreement_waits.proofs.Results.{sim-result}
use Rattle.agreement_waits.proofs.Parked.{new_wait, sim-parked}

module _ (w : List ℕ) (s : State) (a : Agree w s) (v : Valid s) (here : s.dispatcher.current ≡ 0 → ⊥) where
  abbrev c : ℕ
  c = s.dispatcher.current

  -- a running thread stands in no list
  pub own-unplaced : Mem s.dispatcher.current s.dispatcher.placed → ⊥
  own-unplaced = member-not c s.dispatcher.placed (v.sound.standing.placed_ready c ∙ ap is_ready (current-known s v here).2)

  pub own-unblocked : Mem s.dispatcher.current s.dispatcher.waiters → ⊥
  own-unblocked = member-not c s.dispatcher.waiters (v.sound.standing.waiters_waiting c ∙ ap is_waiting (current-known s v here).2)

  block-refusal : (irql : ℕ) → words.block_refusal w irql ≡ cond (ltb 1 irql) 9 (sequence_refusal s)
  unfolding words.block_refusal sequence_refusal
  block-refusal irql = ap (λ (n : ℕ). cond (ltb 1 irql) 9 (cond (leb (2 ^ 64 - 1) n) 24 0)) (a.numbers at.sequence s.dispatcher.sequence refl)

  -- not refused, so the wait sequence can go on
  goes_on : (irql : ℕ) → cond (ltb 1 irql) 9 (sequence_refusal s) ≡ 0 → s.dispatcher.sequence < 2 ^ 64 - 1
  unfolding sequence_refusal
  goes_on irql = go (ltb 1 irql) (leb most s.dispatcher.sequence) refl
    where
      go : (b e : Bool) → leb most s.dispatcher.sequence ≡ e → ◌≡◌ {A = ℕ} (cond b 9 (cond e 24 0)) 0 → s.dispatcher.sequence < 2 ^ 64 - 1
      go true e q r = absurd (omega arith)
      go false true q r = absurd (omega arith)
      go false false q r = leb-false most s.dispatcher.sequence q

  times-out : Plainly (words.timed_out w s.dispatcher.current) (timed_out s)
  unfolding words.timed_out words.with_result timed_out
  times-out = let k = current-known s v here in record { answers = refl; agree = sim-result w s _ _ a c (some timeout) k.0 k.1 }

  module _ (y : stored-wait.Wait) (objects : List Named) (all : Bool) (deadline : Option ℕ) (timed : Bool)
      (of : Stored y (new_wait s.dispatcher objects all deadline)) (form : InForm y) (fits : WaitFits (new_wait s.dispatcher objects all deadline))
      (ends : words.reached w timed y.deadline ≡ reached deadline s.now) where
    blocks-too : s.dispatcher.sequence < 2 ^ 64 - 1 → Plainly (outcome answer.Blocked (words.blocked_words w s.dispatcher.current y)) (blocks s objects all deadline)
    unfolding blocks blocked becomes
    blocks-too more =
        let k = current-known s v here in
        record { answers = refl; agree = sim-parked w s _ _ a k.0 k.1 k.2 own-unplaced own-unblocked more y objects all deadline of form fits }

    pub agree-decided : (call : Call) (irql : ℕ)
        → refusal call s ≡ cond (reached deadline s.now) 0 (cond (ltb 1 irql) 9 (sequence_refusal s))
        → effect call s ≡ cond (reached deadline s.now) (timed_out s) (blocks s objects all deadline)
        → Plainly (words.decided w s.dispatcher.current timed irql y) (step call s)
    unfolding words.decided
    agree-decided call irql re ef =
        subst (λ (b : Bool). Plainly (cond b (words.timed_out w c) (unless (words.block_refusal w irql) w (outcome answer.Blocked (words.blocked_words w c y)))) (step call s)) (sym ends)
        (go (reached deadline s.now) re ef)
      where
        go : (b : Bool) → refusal call s ≡ cond b 0 (cond (ltb 1 irql) 9 (sequence_refusal s)) → effect call s ≡ cond b (timed_out s) (blocks s objects all deadline)
            → Plainly (cond b (words.timed_out w s.dispatcher.current) (unless (words.block_refusal w irql) w (outcome answer.Blocked (words.blocked_words w s.dispatcher.current y)))) (step call s)
        go true re ef = plainly-accepted s call (words.timed_out w c) re (subst (λ (m : Outcome). Plainly (words.timed_out w c) m) (sym ef) times-out)
        go false re ef =
            plainly-unless w s a call (words.block_refusal w irql) (outcome answer.Blocked (words.blocked_words w c y)) (block-refusal irql ∙ sym re)
            (λ e. subst (λ (m : Outcome). Plainly (outcome answer.Blocked (words.blocked_words w c y)) m) (sym ef) (blocks-too (goes_on irql (sym re ∙ e))))
