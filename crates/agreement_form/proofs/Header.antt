-- Words that agree with a state in form pass the header's clauses.
use Prim.Native.Nat.{ℕ, zero, suc, ◌+◌, ◌*◌, ◌≤◌}
use mathlib.Core.List.{List, [], ◌∷◌}
use mathlib.Core.Bool.{cond, true, false, not}
use mathlib.Core.Path.{◌≡◌, refl, sym, ◌∙◌}
use native.Mathlib.Omega.{arith}
use borrow.Author.Tests.{eq-eqb, ne_eqb, le-leb, le-ltb}
use lib.ListN.{get_or, length}
use lib.Dec.{eqb, ltb}
use Rattle.words.specs.Layout as at
use Rattle.opening.specs.Open.{bad_limits}
use Rattle.form.specs.Header.{limits_pass, long_enough, counts_pass, current_passes, ready_passes, no_arguments, policy_passes, lifetimes_pass, header_numbers}
use Rattle.model.specs.State.{State, Thread, Policy, unselected, cpu0_dispatch}
use Rattle.model.specs.Threads.{thread_at, is_running}
use Rattle.model.specs.Valid.{PolicyValid}
use Rattle.model.proofs.ListLaws.{not-both}
use Rattle.words.specs.Word.{bit_at}
use Rattle.agreement.specs.Records.{policy_number, first_argument, second_argument}
use Rattle.agreement.specs.Agree.{Agree}
use Rattle.agreement_form.specs.Form.{Form}
use Rattle.agreement_form.proofs.Clauses.{and-not}

-- a thread that runs is one of the list
pub runs-in : (l : List Thread) (i : ℕ) → is_running (thread_at l i).status ≡ true → i ≤ length l
runs-in l zero e = omega arith
runs-in [] (suc i) e = absurd (not-both (sym e))
runs-in (t ∷ l) (suc zero) e = omega arith
runs-in (t ∷ l) (suc (suc i)) e = omega (arith, runs-in l (suc i) e)

module _ (w : List ℕ) (s : State) (a : Agree w s) (v : Form s) where
  pub limits-pass : limits_pass w ≡ true
  unfolding limits_pass bad_limits
  limits-pass =
      simp (
        a.numbers at.thread_limit s.limits.threads refl,
        a.numbers at.object_limit s.limits.objects refl,
        a.numbers at.dpc_limit s.limits.dpcs refl,
        le-ltb s.limits.threads 1 v.limits.some_thread,
        le-ltb at.most_threads s.limits.threads v.limits.threads,
        le-ltb 4096 s.limits.objects v.limits.objects,
        le-ltb 4096 s.limits.dpcs v.limits.dpcs,
      )

  pub long-enough : long_enough w ≡ true
  unfolding long_enough
  long-enough =
      simp (
        a.numbers at.thread_limit s.limits.threads refl,
        a.numbers at.object_limit s.limits.objects refl,
        a.numbers at.dpc_limit s.limits.dpcs refl,
        le-leb (at.header_size + at.thread_size * s.limits.threads + 32 * (s.limits.objects + s.limits.dpcs)) (length w) a.enough,
      )

  pub counts-pass : counts_pass w ≡ true
  unfolding counts_pass
  counts-pass =
      simp (
        a.numbers at.thread_limit s.limits.threads refl,
        a.numbers at.object_limit s.limits.objects refl,
        a.numbers at.dpc_limit s.limits.dpcs refl,
        a.numbers at.threads (length s.dispatcher.threads) refl,
        a.numbers at.objects (length s.dispatcher.objects) refl,
        a.numbers at.dpcs (length s.dpcs.table) refl,
        le-ltb (length s.dispatcher.threads) 1 v.sound.some,
        le-ltb s.limits.threads (length s.dispatcher.threads) v.sound.few,
        le-ltb s.limits.objects (length s.dispatcher.objects) v.sound.room,
        le-leb (length s.dpcs.table) s.limits.dpcs v.queueing.room,
      )

  current-in : (c : ℕ) → s.dispatcher.current ≡ c → c ≤ length s.dispatcher.threads
  current-in zero e = omega arith
  current-in (suc c) e = runs-in s.dispatcher.threads (suc c) (sym (v.sound.standing.current_runs (suc c) (omega arith)) ∙ eq-eqb (suc c) s.dispatcher.current (sym e))

  pub current-passes : current_passes w ≡ true
  unfolding current_passes
  current-passes =
      simp (
        a.numbers at.threads (length s.dispatcher.threads) refl,
        a.numbers at.current s.dispatcher.current refl,
        le-leb s.dispatcher.current (length s.dispatcher.threads) (current-in s.dispatcher.current refl),
      )

  pub ready-passes : ready_passes w ≡ true
  unfolding ready_passes
  ready-passes = and-not (ltb 4294967295 (get_or w at.ready 0)) (eqb (bit_at (get_or w at.ready 0) 0) 0) (le-ltb 4294967295 (get_or w at.ready 0) (omega (arith, a.queues.small))) (eq-eqb (bit_at (get_or w at.ready 0) 0) 0 a.queues.no_zero)

  pub policy-passes : policy_passes w ≡ true
  unfolding policy_passes no_arguments
  policy-passes =
      simp (
        a.numbers at.policy (policy_number s.policy) refl,
        a.numbers at.timer_argument (first_argument s.policy) refl,
        a.numbers at.timer_argument2 (second_argument s.policy) refl,
        go s.policy v.policy,
      )
    where
      go : (p : Policy) → PolicyValid p
          → cond (eqb (policy_number p) 0) (cond (eqb (first_argument p) 0) (eqb (second_argument p) 0) false)
          (cond (eqb (policy_number p) 1) (cond (eqb (first_argument p) 0) false (cond (eqb (second_argument p) 0) false (not (eqb (first_argument p) (second_argument p))))) false) ≡ true
      go unselected q = refl
      go (cpu0_dispatch f g) q = simp (ne_eqb f 0 q.0, ne_eqb g 0 q.1, ne_eqb f g q.2)

  pub lifetimes-pass : lifetimes_pass w ≡ true
  unfolding lifetimes_pass
  lifetimes-pass =
      simp (
        a.numbers at.accepted s.dpcs.counters.accepted refl,
        a.numbers at.timer_initializations s.timer_initializations refl,
        a.numbers at.dpc_initializations s.dpc_initializations refl,
        le-ltb 65536 s.dpcs.counters.accepted v.queueing.lived,
        le-ltb 65536 s.timer_initializations v.timers_lived,
        le-leb s.dpc_initializations 65536 v.dpcs_lived,
      )

  pub header-numbers : header_numbers w ≡ true
  unfolding header_numbers
  header-numbers = simp (counts-pass, current-passes, ready-passes, policy-passes, lifetimes-pass)
