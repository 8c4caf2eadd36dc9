-- A wait that is granted: the objects are taken and the result is written, on the words and on the log.
use Prim.Native.Nat.{ℕ, suc, ◌+◌, ◌%◌, ◌^◌, ◌≤◌}
use mathlib.Core.List.{List, [], ◌∷◌}
use mathlib.Core.Bool.{Bool, true, false, cond}
use mathlib.Core.Option.{some}
use mathlib.Core.Path.{◌≡◌, refl, sym, subst}
use native.Mathlib.Omega.{arith}
use lib.ListN.{set, length}
use Rattle.answers.specs.Outcome.{outcome, bit}
use Rattle.answers.specs.declared.Answer.TheVariants as answer
use Rattle.words.specs.Layout as at
use Rattle.waits.specs.Lists.{takes_list}
use Rattle.waiting.specs.Wait as words
use Rattle.model.specs.State.{State, Dispatcher, satisfied, Named}
use Rattle.model.specs.Threads.{with_objects}
use Rattle.model.specs.Waits.{is_available, first_available, is_met, index, takes}
use Rattle.model.specs.Valid.{Valid}
use Rattle.model.specs.Refusal.{pairs}
use Rattle.model.specs.Step.{granted, with_dispatcher, with_table, with_own_result}
use Rattle.model.proofs.KeepLaws.{current-known}
use Rattle.agreement.specs.Records.{flag}
use Rattle.agreement.specs.Agree.{Agree}
use Rattle.agreement.specs.Matches.{Plainly}
use Rattle.agreement_wakes.proofs.Lists.{pairs-row, index_in_lem}
use Rattle.agreement_wakes.proofs.Takes.{sim-takes-list}
use Rattle.agreement_wakes.proofs.Holders.{held-takes, agree-held}
use Rattle.agreement_waits.proofs.Results.{sim-result}

-- an index is no more than the list is long
first-le : (d : Dispatcher) (ns : List Named) → first_available d ns ≤ length ns
first-le d [] = omega arith
first-le d (n ∷ ns) = go (is_available d n) (first-le d ns)
  where
    go : (b : Bool) → first_available d ns ≤ length ns → cond b 0 (suc (first_available d ns)) ≤ suc (length ns)
    go true h = omega arith
    go false h = omega arith

index-le : (d : Dispatcher) (ns : List Named) (all : Bool) → index d ns all ≤ length ns
index-le d ns true = omega arith
index-le d ns false = first-le d ns

module _ (w : List ℕ) (s : State) (a : Agree w s) (v : Valid s) (here : s.dispatcher.current ≡ 0 → ⊥) (list : List ℕ) (few : length (pairs list) ≤ 64) (all : Bool)
    (met : is_met s.dispatcher (pairs list) all ≡ true) where
  abbrev c : ℕ
  c = s.dispatcher.current

  abbrev i : ℕ
  i = index s.dispatcher (pairs list) all

  abbrev after : State
  after = with_dispatcher s (with_own_result (with_objects s.dispatcher (takes s.dispatcher s.dispatcher.current (pairs list) all)) (some (satisfied (index s.dispatcher (pairs list) all))))

  takes-and-goes-on : Agree (set (takes_list w s.dispatcher.current list (length (pairs list)) (flag all)) (at.thread_at s.dispatcher.current + at.result)
      (index s.dispatcher (pairs list) all + 2)) after
  takes-and-goes-on =
      let k = current-known s v here in
      agree-held (set (takes_list w c list (length (pairs list)) (flag all)) (at.thread_at c + at.result) (i + 2)) s after
      (sim-result (takes_list w c list (length (pairs list)) (flag all)) (with_table s (takes s.dispatcher c (pairs list) all)) _ _
      (sim-takes-list w s _ _ a c list (pairs list) all (pairs-row list) met) c (some (satisfied i)) k.0 k.1)
      (held-takes s.dispatcher c (pairs list) all a.shape.rising)

  -- result 2 + i
  result-is : (index s.dispatcher (pairs list) all + 2) % 2 ^ 64 ≡ index s.dispatcher (pairs list) all + 2
  result-is = omega (arith, index-le s.dispatcher (pairs list) all, few)

  pub agree-granted : Plainly (words.granted w s.dispatcher.current list (length (pairs list)) (bit all)) (granted s (pairs list) all)
  unfolding words.granted words.with_result granted
  agree-granted =
      subst (λ (n : ℕ). Plainly (outcome (answer.Satisfied n) (set (takes_list w c list (length (pairs list)) (bit all)) (at.thread_at c + at.result) ((n + 2) % 2 ^ 64))) (granted s (pairs list) all))
      (sym (index_in_lem w s _ _ a list 0 (pairs list) all (pairs-row list)))
      (subst (λ (n : ℕ). Plainly (outcome (answer.Satisfied i) (set (takes_list w c list (length (pairs list)) (bit all)) (at.thread_at c + at.result) n)) (granted s (pairs list) all)) (sym result-is)
      (record { answers = refl; agree = takes-and-goes-on }))
