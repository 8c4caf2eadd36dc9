-- Words that tell what the log tells, and go on to through any calls.
use Prim.Native.Nat.{ℕ}
use mathlib.Core.List.{List, [], ◌∷◌, ◌++◌}
use mathlib.Core.Bool.{true, false}
use mathlib.Core.Path.{◌≡◌, refl, sym, ap, ◌∙◌, subst}
use mathlib.Core.Logic.{inl, inr}
use native.Mathlib.Decide.{ℕ_discrete}
use lib.ListN.{length}
use Rattle.calls.specs.Run.{answered, left, Lent}
use Rattle.model.specs.State.{State, Thread}
use Rattle.model.specs.Threads.{is_thread, thread_of}
use Rattle.model.specs.Answer.{Outcome}
use Rattle.model.specs.Call.{Call}
use Rattle.model.specs.Call as call
use Rattle.model.specs.Step.{step, refusal, after}
use Rattle.model.specs.Start.{Start, Accepted}
use Rattle.model.specs.Valid.{Valid}
use Rattle.model.specs.Fits.{Fits, Numbers}
use Rattle.model.proofs.ListLaws.{not-both}
use Rattle.model.proofs.StepLaws.{valid-step}
use Rattle.model.proofs.FitsLaws.{numbers-step}
use Rattle.model.proofs.WdkLaws.{step_is}
use Rattle.model.proofs.Told.{thread-told, told-thread}
use Rattle.agreement.specs.Agree.{Agree}
use Rattle.agreement.specs.Matches.{Matches}
use Rattle.agreement.proofs.Matches.{step-refused}
use Rattle.agreement_lengths.proofs.Calls.{keeps-length}
use Rattle.agreement_calls.proofs.Calls.{matches}
use Rattle.theorem.specs.History.{words_after, Proper}
use Rattle.theorem.specs.Theorem.{logged, end}
use Rattle.corollaries.specs.Reads.{ThreadRead}
use Rattle.corollaries.specs.Refusals.{is_refused}
use Rattle.corollaries.proofs.Next as next
use Rattle.corollaries.proofs.Effects.{effect-plain}

-- `m` words
pub record Tells (m : ℕ) (w : List ℕ) (s : State) : Type 0 where
  pub agree : Agree w s
  pub valid : Valid s
  pub numbers : Numbers s
  pub size : length w ≡ m

module _ (m : ℕ) (w : List ℕ) (s : State) (t : Tells m w s) where
  -- the next call answers what the log answers
  pub tells-next : (c : Call) → Fits c → Lent m c → Matches (answered w c) (left w c) (step c s)
  tells-next c fit lent = matches w s t.agree t.valid t.numbers c fit (subst (λ (n : ℕ). Lent n c) (sym t.size) lent)

  -- and the words that it leaves go on telling
  pub tells-on : (c : Call) → Fits c → Lent m c → Tells m (left w c) (step c s).state
  tells-on c fit lent = record {
    agree = (tells-next c fit lent).agree;
    valid = valid-step s t.valid c;
    numbers = numbers-step s t.valid t.numbers c fit;
    size = keeps-length w c ∙ t.size;
  }

  pub reads_same : (r : call.Read) → answered w (call.Reads r) ≡ (step (call.Reads r) s).answer
  reads_same r = (tells-next (call.Reads r) tt tt).answers

  -- a thread that is read is the log's
  pub thread-is : (i : ℕ) (x : Thread) → ThreadRead w i x → (is_thread s.dispatcher i ≡ true) × (thread_of s.dispatcher i ≡ x)
  thread-is i x e = thread-told s i x (sym (reads_same (call.Thread i)) ∙ e)

  pub is-thread : (i : ℕ) → is_thread s.dispatcher i ≡ true → ThreadRead w i (thread_of s.dispatcher i)
  is-thread i e = reads_same (call.Thread i) ∙ told-thread s i e

  -- not refused is: the table has no number
  pub plain-passed : (c : Call) → Fits c → Lent m c → is_refused (answered w c) ≡ false → refusal c s ≡ 0
  plain-passed c fit lent e = go (ℕ_discrete (refusal c s) 0)
    where
      go : Dec (refusal c s ≡ 0) → refusal c s ≡ 0
      go (yes z) = z
      go (no z) = absurd (not-both (sym (ap is_refused ((tells-next c fit lent).answers ∙ ap (λ (o : Outcome). o.answer) (step-refused c s (refusal c s) refl z))) ∙ e))

  pub passed-plain : (c : Call) → Fits c → Lent m c → refusal c s ≡ 0 → is_refused (answered w c) ≡ false
  passed-plain c fit lent e = ap is_refused ((tells-next c fit lent).answers ∙ ap (λ (o : Outcome). o.answer) (step_is c s e)) ∙ effect-plain s c

-- the first call, and those behind it
pub proper-first : (m : ℕ) (c : Call) (cs : List Call) → Proper m (c ∷ cs) → Fits c × Lent m c
proper-first m c cs p = (p.fit c (inl refl), p.lent c (inl refl))

pub proper-behind : (m : ℕ) (c : Call) (cs : List Call) → Proper m (c ∷ cs) → Proper m cs
proper-behind m c cs p = record { fit = λ x a. p.fit x (inr a); lent = λ x a. p.lent x (inr a) }

pub tells-after : (m : ℕ) (cs : List Call) (w : List ℕ) (s : State) → Tells m w s → Proper m cs → Tells m (words_after w cs) (after cs s)
tells-after m [] w s t p = t
tells-after m (c ∷ cs) w s t p = let f = proper-first m c cs p in tells-after m cs (left w c) (step c s).state (tells-on m w s t c f.0 f.1) (proper-behind m c cs p)

-- after any list of calls
pub tells-end : (w : List ℕ) (start : Start) (calls : List Call) → Accepted (length w) start → Proper (length w) calls → Tells (length w) (end w start calls) (logged w start calls)
tells-end w start calls accepted proper = record {
  agree = next.agree w start calls accepted proper;
  valid = next.valid w start calls accepted proper;
  numbers = next.numbers w start calls accepted proper;
  size = next.same_length w start calls accepted proper;
}

-- further calls make a longer list
pub later-end : (cs ds : List Call) (w : List ℕ) → words_after (words_after w cs) ds ≡ words_after w (cs ++ ds)
later-end [] ds w = refl
later-end (c ∷ cs) ds w = later-end cs ds (left w c)
