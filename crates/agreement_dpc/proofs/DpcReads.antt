-- The reads of DPCs, of the queue, of the policy and of the counts answer the same.
use Prim.Native.Nat.{ℕ, ◌+◌, ◌*◌}
use mathlib.Core.List.{List, [], ◌∷◌}
use mathlib.Core.Bool.{Bool, true, false, cond, not}
use mathlib.Core.Option.{Option, none, some}
use mathlib.Core.Logic.{inl, inr}
use mathlib.Core.Path.{◌≡◌, refl, sym, ap, ◌∙◌, subst}
use native.Mathlib.Omega.{arith}
use borrow.Author.Tests.{ne_eqb, le-ltb, leb-true, leb-false}
use lib.Dec.{eqb, leb, ltb}
use lib.ListN.{get_or, length}
use Rattle.words.specs.Layout as at
use Rattle.chains.specs.Chain.{first_of}
use Rattle.images.specs.declared.Dpc.{Dpc}
use Rattle.dpcs.specs.Record as record-words
use Rattle.dpcs.specs.Record.{place_at, number_of, queue_chain}
use Rattle.dpc_reads.specs.Reads as words
use Rattle.dpc_reads.specs.DpcAnswer as read
use Rattle.answers.specs.declared.Answer as code
use Rattle.answers.specs.declared.Answer.TheVariants as answer
use Rattle.call_answers.specs.Told.{told, told_dpc, told_policy, told_counters}
use Rattle.model.specs.Lists.{Mem, nth, present, given}
use Rattle.model.specs.State.{State, Policy, unselected, cpu0_dispatch}
use Rattle.model.specs.Dpcs.{address_of, dpc_at, is_active, active_dpc}
use Rattle.model.specs.Refusal.{unknown_dpc}
use Rattle.model.specs.Reads.{read_refusal, read_answer, head_of, next_dpc}
use Rattle.model.specs.Step.{step, refusal, effect}
use Rattle.model.specs.Call.{Read}
use Rattle.model.specs.Call as call
use Rattle.model.specs.Answer as log
use Rattle.model.specs.Answer.{Outcome}
use Rattle.model.proofs.TableLaws.{found, mem-found, some_same, none-some}
use Rattle.model.proofs.DpcLaws.{present-some}
use Rattle.agreement_tables.proofs.Lists.{nth_in, nth-none, nth-some, nth-mem}
use Rattle.agreement.specs.Records.{number_in, policy_number, first_argument, second_argument, holder_of, active_address}
use Rattle.agreement.specs.Agree.{dpcs_from, Agree}
use Rattle.agreement.proofs.Lookups.{place_is}
use Rattle.agreement.proofs.Records.{dpc-read}
use Rattle.agreement.proofs.Matches.{step-accepted, step-refused}
use Rattle.agreement_work.proofs.Counts.{number_is}
use Rattle.agreement_dpc.proofs.Found.{number-known, dpc-word, dpc-whole}
use Rattle.agreement_dpc.proofs.Head.{map_at, map-past, queue-few, none_first, head_first, number-queued, active-word}

-- a read that is not refused
read-answers : (r : Read) (s : State) → read_refusal r s ≡ 0 → (step (call.Reads r) s).answer ≡ read_answer r s
unfolding refusal effect
read-answers r s e = ap (λ (o : Outcome). o.answer) (step-accepted (call.Reads r) s e)

module _ (w : List ℕ) (s : State) (a : Agree w s) where
  abbrev holder : ℕ → ℕ
  holder = holder_of s.dispatcher.objects

  abbrev active : ℕ
  active = active_address s.dpcs.table

  -- ---- the policy and the counts

  pub read-policy : told_policy (words.policy_read w) ≡ (step (call.Reads call.DpcPolicy) s).answer
  unfolding words.policy_read read_refusal read_answer
  read-policy = go s.policy (a.numbers at.policy (policy_number s.policy) refl) (a.numbers at.timer_argument (first_argument s.policy) refl) (a.numbers at.timer_argument2 (second_argument s.policy) refl) ∙ sym (read-answers call.DpcPolicy s refl)
    where
      go : (p : Policy) → get_or w at.policy 0 ≡ policy_number p → get_or w at.timer_argument 0 ≡ first_argument p → get_or w at.timer_argument2 0 ≡ second_argument p → told_policy (words.policy_read w) ≡ log.PolicyIs p
      go unselected e f g = simp (e)
      go (cpu0_dispatch first second) e f g = simp (e, f, g)

  pub read-counters : told_counters (words.counters_read w) ≡ (step (call.Reads call.DpcCounters) s).answer
  unfolding words.counters_read read_refusal read_answer
  read-counters = same ∙ sym (read-answers call.DpcCounters s refl)
    where
      same : told_counters (words.counters_read w) ≡ log.CountersAre s.dpcs.counters
      same =
          simp (
            a.numbers at.accepted s.dpcs.counters.accepted refl,
            a.numbers at.duplicates s.dpcs.counters.duplicates refl,
            a.numbers at.removed s.dpcs.counters.removed refl,
            a.numbers at.started s.dpcs.counters.started refl,
            a.numbers at.returned s.dpcs.counters.returned refl,
            a.numbers at.restored s.dpcs.counters.restored refl,
          )

  pub read-initializations : told (words.initializations_read w) ≡ (step (call.Reads call.DpcInitializations) s).answer
  unfolding words.initializations_read read_refusal read_answer
  read-initializations = ap log.Number (a.numbers at.dpc_initializations s.dpc_initializations refl) ∙ sym (read-answers call.DpcInitializations s refl)

  -- ---- records

  numbered_is : (k : ℕ) (d : Dpc) → dpc_at s.dpcs.table k ≡ some d → words.dpc_numbered w (number_of w k) ≡ read.Dpc d
  unfolding words.dpc_numbered
  numbered_is k d e =
      ap (λ (b : Bool). cond b read.None (read.Dpc (record-words.dpc_at w (place_at w (number_of w k))))) (number-known w s holder active a k ∙ ap (λ (o : Option Dpc). not (present o)) e)
      ∙ ap read.Dpc (dpc-whole w s holder active a k d e)

  pub read-dpc : (k : ℕ) → told_dpc (words.dpc_read w k) ≡ (step (call.Reads (call.DpcAt k)) s).answer
  unfolding words.dpc_read read_refusal read_answer unknown_dpc refusal
  read-dpc k = ap (λ (b : Bool). told_dpc (cond b (read.Refused 2) (words.dpc_numbered w (number_of w k)))) (number-known w s holder active a k) ∙ go (dpc_at s.dpcs.table k) refl
    where
      go : (o : Option Dpc) → dpc_at s.dpcs.table k ≡ o → told_dpc (cond (not (present o)) (read.Refused 2) (words.dpc_numbered w (number_of w k))) ≡ (step (call.Reads (call.DpcAt k)) s).answer
      go none e = sym (ap (λ (m : Outcome). m.answer) (step-refused (call.Reads (call.DpcAt k)) s 2 (ap (λ (p : Option Dpc). cond (present p) 0 2) e) (λ z. omega arith)))
      go (some d) e =
          ap told_dpc (numbered_is k d e) ∙ sym (ap (λ (p : Option Dpc). given p log.None log.DpcIs) e)
          ∙ sym (read-answers (call.DpcAt k) s (ap (λ (p : Option Dpc). cond (present p) 0 2) e))

  pub read-dpcs : (i : ℕ) → told_dpc (words.dpcs_at w i) ≡ (step (call.Reads (call.Dpcs i)) s).answer
  unfolding words.dpcs_at words.dpc_numbered read_refusal read_answer
  read-dpcs i =
      ap (λ (n : ℕ). told_dpc (cond (leb n i) read.None (words.dpc_numbered w (i + 1)))) (a.numbers at.dpcs (length s.dpcs.table) refl)
      ∙ go (leb (length s.dpcs.table) i) refl ∙ sym (read-answers (call.Dpcs i) s refl)
    where
      there : (d : Dpc) → nth s.dpcs.table i ≡ some d → words.dpc_numbered w (i + 1) ≡ read.Dpc d
      there d e =
          ap (λ (b : Bool). cond b read.None (read.Dpc (record-words.dpc_at w (place_at w (i + 1))))) (ne_eqb (i + 1) 0 (λ z. omega arith))
          ∙ ap read.Dpc (ap (record-words.dpc_at w) (place_is w s holder active a i (nth_in s.dpcs.table i d e)) ∙ dpc-read w (dpcs_from s.limits + 32 * i) (holder d.address) d (a.dpcs i d e))

      go : (b : Bool) → leb (length s.dpcs.table) i ≡ b → told_dpc (cond b read.None (words.dpc_numbered w (i + 1))) ≡ given (nth s.dpcs.table i) log.None log.DpcIs
      go true q = sym (ap (λ (o : Option Dpc). given o log.None log.DpcIs) (nth-none s.dpcs.table i (leb-true (length s.dpcs.table) i q)))
      go false q =
          let d = nth-some s.dpcs.table i (leb-false (length s.dpcs.table) i q) in
          ap told_dpc (there d.0 d.1) ∙ sym (ap (λ (o : Option Dpc). given o log.None log.DpcIs) d.1)

  -- ---- the active DPC, and the next

  active-mem : (l : List Dpc) (d : Dpc) → active_dpc l ≡ some d → Mem d l
  active-mem [] d e = absurd (none-some d e)
  active-mem (x ∷ l) d e = go (is_active x.phase) e (active-mem l d)
    where
      go : (b : Bool) → cond b (some x) (active_dpc l) ≡ some d → (active_dpc l ≡ some d → Mem d l) → Mem d (x ∷ l)
      go true q ih = inl (sym (some_same x d q))
      go false q ih = inr (ih q)

  pub read-active : told_dpc (words.active_dpc w) ≡ (step (call.Reads call.ActiveDpc) s).answer
  unfolding words.active_dpc read_refusal read_answer
  read-active =
      ap (λ (b : Bool). told_dpc (cond b read.None (words.dpc_numbered w (number_of w (get_or w at.active 0))))) (active-word w s holder a)
      ∙ go (active_dpc s.dpcs.table) refl ∙ sym (read-answers call.ActiveDpc s refl)
    where
      go : (o : Option Dpc) → active_dpc s.dpcs.table ≡ o → told_dpc (cond (not (present o)) read.None (words.dpc_numbered w (number_of w (get_or w at.active 0)))) ≡ given o log.None log.DpcIs
      go none e = refl
      go (some d) e =
          ap (λ (k : ℕ). told_dpc (words.dpc_numbered w (number_of w k))) (a.numbers at.active active refl ∙ ap (λ (o : Option Dpc). given o 0 address_of) e)
          ∙ ap told_dpc (numbered_is d.address d (mem-found address_of s.dpcs.table a.shape.dpcs.rising d (active-mem s.dpcs.table d e)))

  pub read_next : told_dpc (words.next_dpc w) ≡ (step (call.Reads call.NextDpc) s).answer
  unfolding words.next_dpc words.dpc_numbered read_refusal read_answer next_dpc
  read_next =
      ap (λ (b : Bool). told_dpc (cond b (words.dpc_numbered w (first_of w (queue_chain w))) read.None)) (active-word w s holder a)
      ∙ go (present (active_dpc s.dpcs.table)) ∙ sym (read-answers call.NextDpc s refl)
    where
      head : (q : List ℕ) → s.dpcs.queue ≡ q → told_dpc (words.dpc_numbered w (first_of w (queue_chain w))) ≡ given (head_of s.dpcs.table q) log.None log.DpcIs
      head [] e = ap (λ (n : ℕ). told_dpc (words.dpc_numbered w n)) (none_first w s holder active a e)
      head (k ∷ l) e =
          let d = present-some s.dpcs.table k (a.shape.dpcs.queued k (subst (Mem k) (sym e) (inl refl))) in
          ap (λ (n : ℕ). told_dpc (words.dpc_numbered w n)) (head_first w s holder active a k l e d.0 d.1)
          ∙ ap told_dpc (numbered_is k d.0 d.1) ∙ sym (ap (λ (o : Option Dpc). given o log.None log.DpcIs) d.1)

      go : (b : Bool) → told_dpc (cond (not b) (words.dpc_numbered w (first_of w (queue_chain w))) read.None) ≡ given (cond b none (head_of s.dpcs.table s.dpcs.queue)) log.None log.DpcIs
      go true = refl
      go false = head s.dpcs.queue refl

  -- ---- the queue by position

  pub read-queued : (i : ℕ) → told (words.queued_dpcs w i) ≡ (step (call.Reads (call.QueuedDpcs i)) s).answer
  unfolding words.queued_dpcs read_refusal read_answer
  read-queued i = go (nth s.dpcs.queue i) refl ∙ sym (read-answers (call.QueuedDpcs i) s refl)
    where
      answers : ℕ → Bool → code.Answer
      answers n b = cond b answer.None (cond (eqb n 0) answer.None (answer.Count (get_or w (place_at w n + at.address) 0)))

      past : (b : Bool) → answers 0 b ≡ answer.None
      past true = refl
      past false = refl

      there : (k : ℕ) → nth s.dpcs.queue i ≡ some k → (d : Dpc) → dpc_at s.dpcs.table k ≡ some d → told (answers (words.queued_number w i) (ltb 4095 i)) ≡ log.Number k
      there k e d f =
          let h = nth_in s.dpcs.queue i k e in
          ap (λ (n : ℕ). told (answers n (ltb 4095 i))) (number-queued w s holder active a i ∙ map_at (number_in s.dpcs.table) s.dpcs.queue i k e ∙ sym (number_is w s holder active a k d f))
          ∙ ap (λ (b : Bool). told (answers (number_of w k) b)) (le-ltb 4095 i (omega (arith, queue-few w s holder active a)))
          ∙ ap (λ (b : Bool). told (cond b answer.None (answer.Count (get_or w (place_at w (number_of w k) + at.address) 0)))) (number-known w s holder active a k ∙ ap (λ (o : Option Dpc). not (present o)) f)
          ∙ ap log.Number (dpc-word w s holder active a k d f 0 d.address refl ∙ (found address_of s.dpcs.table k d f).1)

      go : (o : Option ℕ) → nth s.dpcs.queue i ≡ o → told (answers (words.queued_number w i) (ltb 4095 i)) ≡ given o log.None log.Number
      go none e =
          ap (λ (n : ℕ). told (answers n (ltb 4095 i))) (number-queued w s holder active a i ∙ map-past (number_in s.dpcs.table) s.dpcs.queue i e)
          ∙ ap told (past (ltb 4095 i))
      go (some k) e =
          let d = present-some s.dpcs.table k (a.shape.dpcs.queued k (nth-mem s.dpcs.queue i k e)) in
          there k e d.0 d.1
