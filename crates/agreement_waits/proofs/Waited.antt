-- Waiting: the call on the words and on the log.
use Prim.Native.Nat.{ℕ}
use mathlib.Core.List.{List}
use mathlib.Core.Bool.{Bool, true, false, cond, not}
use mathlib.Core.Option.{Option, none, some}
use mathlib.Core.Path.{◌≡◌, refl, sym, ap, ◌∙◌, subst}
use native.Mathlib.Omega.{arith}
use borrow.Author.Tests.{eqb-false}
use lib.ListN.{get_or, length}
use lib.Dec.{eqb, leb, ltb}
use Rattle.words.specs.Layout as at
use Rattle.answers.specs.Outcome as code
use Rattle.answers.specs.Outcome.{unless, bit}
use Rattle.threads.specs.Thread.{recorded}
use Rattle.waits.specs.Lists.{unknown_in, owned_in, met_in}
use Rattle.waiting.specs.Wait as words
use Rattle.waiting.specs.Wait.{pair_count, list_refusal}
use Rattle.model.specs.Lists.{any}
use Rattle.model.specs.State.{State, Named}
use Rattle.model.specs.Waits.{exists, is_met, reached}
use Rattle.model.specs.Valid.{Valid}
use Rattle.model.specs.Refusal.{wait_refusal, sequence_refusal, bad_list, pairs, is_own}
use Rattle.model.specs.Answer.{Outcome}
use Rattle.model.specs.Call as call
use Rattle.model.specs.Step.{step, refusal, effect, waited, granted, timed_out, blocks}
use Rattle.model.proofs.TableLaws.{none-some, some_same}
use Rattle.agreement.specs.Records.{timed}
use Rattle.agreement.specs.Agree.{Agree}
use Rattle.agreement.specs.Matches.{Plainly}
use Rattle.agreement.proofs.Matches.{plainly-refused, plainly-accepted}
use Rattle.agreement_wakes.proofs.Lists.{from_start, pairs-row, unknown-in, owned_in_lem, met-in}
use Rattle.agreement_waits.proofs.Decided.{agree-decided}
use Rattle.agreement_waits.proofs.Listing.{Good, good, count-few, list-refusal}
use Rattle.agreement_waits.proofs.Recorded.{recorded-stored, recorded-form, recorded-fits}
use Rattle.agreement_waits.proofs.Granted.{agree-granted}

module _ (w : List ℕ) (s : State) (a : Agree w s) (v : Valid s) (list : List ℕ) (all timedly : Bool) (deadline : ℕ) (ends : Option ℕ) (irql : ℕ)
    (is-timed : bit timedly ≡ timed ends) (is-deadline : (t : ℕ) → ends ≡ some t → deadline ≡ t) (is-reached : words.reached w timedly deadline ≡ reached ends s.now) where
  abbrev c : ℕ
  c = s.dispatcher.current

  abbrev ns : List Named
  ns = pairs list

  -- what is left when the list is good and all that it names is known and not owned
  abbrev later : ℕ
  later = cond (is_met s.dispatcher (pairs list) all) 0 (cond (reached ends s.now) 0 (cond (ltb 1 irql) 9 (sequence_refusal s)))

  refusal_is : refusal (call.Wait list all ends irql) s
      ≡ cond (eqb s.dispatcher.current 0) 3 (cond (bad_list list) 7 (cond (any (λ (n : Named). not (exists s.dispatcher n)) (pairs list)) 2 (cond (any (is_own s.dispatcher) (pairs list)) 8 later)))
  unfolding refusal wait_refusal
  refusal_is = refl

  effect_is : effect (call.Wait list all ends irql) s
      ≡ cond (is_met s.dispatcher (pairs list) all) (granted s (pairs list) all) (cond (reached ends s.now) (timed_out s) (blocks s (pairs list) all ends))
  unfolding effect waited
  effect_is = refl

  -- ---- accepted as far as the list goes

  module _ (here : s.dispatcher.current ≡ 0 → ⊥) (g : Good list) (re : refusal (call.Wait list all ends irql) s ≡ later) where
    count : pair_count list ≡ length (pairs list)
    count = count-few list g.few

    sequence : get_or w at.sequence 0 ≡ s.dispatcher.sequence
    sequence = a.numbers at.sequence s.dispatcher.sequence refl

    goes : (b : Bool) → is_met s.dispatcher (pairs list) all ≡ b
        → Plainly (cond b (words.granted w s.dispatcher.current list (length (pairs list)) (bit all)) (words.decided_list w s.dispatcher.current list (length (pairs list)) (bit all) timedly deadline irql))
        (step (call.Wait list all ends irql) s)
    unfolding words.decided_list recorded
    goes true q =
        plainly-accepted s (call.Wait list all ends irql) (words.granted w c list (length (pairs list)) (bit all))
        (re ∙ ap (λ (b : Bool). cond b 0 (cond (reached ends s.now) 0 (cond (ltb 1 irql) 9 (sequence_refusal s)))) q)
        (subst (λ (m : Outcome). Plainly (words.granted w c list (length (pairs list)) (bit all)) m)
        (sym (effect_is ∙ ap (λ (b : Bool). cond b (granted s (pairs list) all) (cond (reached ends s.now) (timed_out s) (blocks s (pairs list) all ends))) q))
        (agree-granted w s a v here list g.few all q))
    goes false q =
        agree-decided w s a v here (recorded list (length (pairs list)) (bit all) (bit timedly) deadline (get_or w at.sequence 0)) (pairs list) all ends timedly
        (recorded-stored s.dispatcher list g all timedly deadline ends (length (pairs list)) (get_or w at.sequence 0) refl sequence is-timed is-deadline)
        (recorded-form s.dispatcher list g all timedly deadline ends (length (pairs list)) (get_or w at.sequence 0) refl sequence is-timed is-deadline)
        (recorded-fits s.dispatcher list g all timedly deadline ends (length (pairs list)) (get_or w at.sequence 0) refl sequence is-timed is-deadline)
        is-reached (call.Wait list all ends irql) irql
        (re ∙ ap (λ (b : Bool). cond b 0 (cond (reached ends s.now) 0 (cond (ltb 1 irql) 9 (sequence_refusal s)))) q)
        (effect_is ∙ ap (λ (b : Bool). cond b (granted s (pairs list) all) (cond (reached ends s.now) (timed_out s) (blocks s (pairs list) all ends))) q)

    agree-listed : Plainly (cond (met_in w list 0 (pair_count list) (bit all)) (words.granted w s.dispatcher.current list (pair_count list) (bit all))
        (words.decided_list w s.dispatcher.current list (pair_count list) (bit all) timedly deadline irql)) (step (call.Wait list all ends irql) s)
    agree-listed =
        subst (λ (n : ℕ). Plainly (cond (met_in w list 0 n (bit all)) (words.granted w c list n (bit all)) (words.decided_list w c list n (bit all) timedly deadline irql)) (step (call.Wait list all ends irql) s)) (sym count)
        (subst (λ (b : Bool). Plainly (cond b (words.granted w c list (length (pairs list)) (bit all)) (words.decided_list w c list (length (pairs list)) (bit all) timedly deadline irql)) (step (call.Wait list all ends irql) s))
        (sym (met-in w s _ _ a list 0 (pairs list) all (pairs-row list))) (goes (is_met s.dispatcher (pairs list) all) refl))

  -- ---- the call

  unknown : Good list → unknown_in (pair_count list) w list 0 0 ≡ any (λ (n : Named). not (exists s.dispatcher n)) (pairs list)
  unknown g = ap (λ (n : ℕ). unknown_in n w list 0 0) (count-few list g.few) ∙ unknown-in w s _ _ a list 0 (pairs list) 0 (from_start list 0 (pairs list) (pairs-row list))

  owned : Good list → owned_in (pair_count list) w s.dispatcher.current list 0 0 ≡ any (is_own s.dispatcher) (pairs list)
  owned g = ap (λ (n : ℕ). owned_in n w c list 0 0) (count-few list g.few) ∙ owned_in_lem w s _ _ a list 0 (pairs list) 0 (from_start list 0 (pairs list) (pairs-row list))

  abbrev answered : code.Outcome
  answered = cond (met_in w list 0 (pair_count list) (bit all)) (words.granted w s.dispatcher.current list (pair_count list) (bit all))
      (words.decided_list w s.dispatcher.current list (pair_count list) (bit all) timedly deadline irql)

  -- 2, then 8
  named : (s.dispatcher.current ≡ 0 → ⊥) → Good list
      → refusal (call.Wait list all ends irql) s ≡ cond (any (λ (n : Named). not (exists s.dispatcher n)) (pairs list)) 2 (cond (any (is_own s.dispatcher) (pairs list)) 8 later)
      → Plainly (unless (cond (unknown_in (pair_count list) w list 0 0) 2 (cond (owned_in (pair_count list) w s.dispatcher.current list 0 0) 8 0)) w answered) (step (call.Wait list all ends irql) s)
  named here g re =
      subst (λ (b : Bool). Plainly (unless (cond b 2 (cond (owned_in (pair_count list) w c list 0 0) 8 0)) w answered) (step (call.Wait list all ends irql) s)) (sym (unknown g))
      (subst (λ (b : Bool). Plainly (unless (cond (any (λ (n : Named). not (exists s.dispatcher n)) ns) 2 (cond b 8 0)) w answered) (step (call.Wait list all ends irql) s)) (sym (owned g))
      (go (any (λ (n : Named). not (exists s.dispatcher n)) ns) (any (is_own s.dispatcher) ns) re))
    where
      go : (x y : Bool) → refusal (call.Wait list all ends irql) s ≡ cond x 2 (cond y 8 later) → Plainly (unless (cond x 2 (cond y 8 0)) w answered) (step (call.Wait list all ends irql) s)
      go true y re = plainly-refused w s a (call.Wait list all ends irql) 2 re (λ z. omega arith)
      go false true re = plainly-refused w s a (call.Wait list all ends irql) 8 re (λ z. omega arith)
      go false false re = agree-listed here g re

  pub agree-waited : Plainly (words.waited w list all timedly deadline irql) (step (call.Wait list all ends irql) s)
  unfolding words.waited words.wait_refusal
  agree-waited =
      subst (λ (k : ℕ). Plainly (unless
      (cond (eqb k 0) 3 (cond (eqb (list_refusal list) 0) (cond (unknown_in (pair_count list) w list 0 0) 2 (cond (owned_in (pair_count list) w k list 0 0) 8 0)) (list_refusal list))) w
      (cond (met_in w list 0 (pair_count list) (bit all)) (words.granted w k list (pair_count list) (bit all)) (words.decided_list w k list (pair_count list) (bit all) timedly deadline irql)))
      (step (call.Wait list all ends irql) s)) (sym (a.numbers at.current s.dispatcher.current refl))
      (subst (λ (r : ℕ). Plainly (unless
      (cond (eqb c 0) 3 (cond (eqb r 0) (cond (unknown_in (pair_count list) w list 0 0) 2 (cond (owned_in (pair_count list) w c list 0 0) 8 0)) r)) w answered)
      (step (call.Wait list all ends irql) s)) (sym (list-refusal list))
      (go (eqb c 0) (bad_list list) refl refl refusal_is))
    where
      go : (x y : Bool) → eqb s.dispatcher.current 0 ≡ x → bad_list list ≡ y
          → refusal (call.Wait list all ends irql) s
          ≡ cond x 3 (cond y 7 (cond (any (λ (n : Named). not (exists s.dispatcher n)) (pairs list)) 2 (cond (any (is_own s.dispatcher) (pairs list)) 8 later)))
          → Plainly (unless
          (cond x 3 (cond (eqb (cond y 7 0) 0) (cond (unknown_in (pair_count list) w list 0 0) 2 (cond (owned_in (pair_count list) w s.dispatcher.current list 0 0) 8 0)) (cond y 7 0))) w answered)
          (step (call.Wait list all ends irql) s)
      go true y p q re = plainly-refused w s a (call.Wait list all ends irql) 3 re (λ z. omega arith)
      go false true p q re = plainly-refused w s a (call.Wait list all ends irql) 7 re (λ z. omega arith)
      go false false p q re = named (eqb-false c 0 p) (good list q) re

-- ---- without a deadline, and with one

module _ (w : List ℕ) (s : State) (a : Agree w s) (v : Valid s) (list : List ℕ) (all : Bool) (deadline irql : ℕ) where
  pub agree-wait : Plainly (words.waited w list all false deadline irql) (step (call.Wait list all none irql) s)
  unfolding words.reached
  agree-wait = agree-waited w s a v list all false deadline none irql refl (λ t e. absurd (none-some t e)) refl

  pub agree-wait-until : Plainly (words.waited w list all true deadline irql) (step (call.Wait list all (some deadline) irql) s)
  unfolding words.reached
  agree-wait-until = agree-waited w s a v list all true deadline (some deadline) irql refl (λ t e. some_same deadline t e) (ap (leb deadline) (a.numbers at.now s.now refl))
