-- What the header's clauses say of words in form, and the header's numbers of the state that they tell.
use Prim.Native.Nat.{ℕ, ◌^◌, ◌≤◌, ◌<◌}
use mathlib.Core.List.{List}
use mathlib.Core.Bool.{Bool, cond, true, false, not}
use mathlib.Core.Path.{◌≡◌, refl, sym, ap, ◌∙◌}
use native.Mathlib.Omega.{arith}
use borrow.Author.Tests.{eqb-true, eqb-false, leb-true, ltb-false, not-true, le-leb}
use lib.ListN.{get_or, length}
use lib.Dec.{eqb, leb, ltb}
use Rattle.words.specs.Word.{bit_at}
use Rattle.opening.specs.Open.{bad_limits, words_needed}
use Rattle.threads.specs.Thread.{thread_count}
use Rattle.objects.specs.Objects.{objects_base, dpcs_base, object_count}
use Rattle.dpcs.specs.Record.{dpc_count}
use Rattle.form.specs.Header.{limits_pass, long_enough, counts_pass, current_passes, ready_passes, no_arguments, policy_passes, lifetimes_pass, header_numbers}
use Rattle.model.specs.State.{Policy, unselected, cpu0_dispatch}
use Rattle.model.specs.Valid.{LimitsValid, PolicyValid}
use Rattle.model.proofs.ListLaws.{neither}
use Rattle.words.specs.Layout as at
use Rattle.words.specs.Layout.{entry_at}
use Rattle.agreement.specs.Row.{Row}
use Rattle.agreement.specs.Records.{policy_number, first_argument, second_argument}
use Rattle.agreement.specs.Agree.{Enough, header_of, objects_from, dpcs_from}
use Rattle.agreement.proofs.Places.{objects-place, entry_place}
use Rattle.agreement_form.specs.Decoded.{limits_of, thread_by, object_of, dpc_of, policy_by, decoded}
use Rattle.agreement_form.proofs.Clauses.{both, not_first}
use Rattle.agreement_form.proofs.Each.{length-each, row_from, ends, says, skips}

pub record Counted (w : List ℕ) : Type 0 where
  pub limits : LimitsValid (limits_of w)
  pub enough : Enough w (limits_of w)
  pub some_thread : 1 ≤ get_or w at.threads 0
  pub threads_fit : get_or w at.threads 0 ≤ get_or w at.thread_limit 0
  pub objects_fit : get_or w at.objects 0 ≤ get_or w at.object_limit 0
  pub dpcs_fit : get_or w at.dpcs 0 ≤ get_or w at.dpc_limit 0
  pub current-in : get_or w at.current 0 ≤ get_or w at.threads 0
  pub ready-small : get_or w at.ready 0 < 2 ^ 32
  pub no_zero : bit_at (get_or w at.ready 0) 0 ≡ 0
  pub policy-number : policy_number (policy_by w (get_or w at.policy 0)) ≡ get_or w at.policy 0
  pub policy : PolicyValid (policy_by w (get_or w at.policy 0))
  pub no-arguments : get_or w at.policy 0 ≡ 0 → (get_or w at.timer_argument 0 ≡ 0) × (get_or w at.timer_argument2 0 ≡ 0)
  pub lived : get_or w at.accepted 0 ≤ 65536
  pub timers_lived : get_or w at.timer_initializations 0 ≤ 65536
  pub dpcs_lived : get_or w at.dpc_initializations 0 ≤ 65536

module _ (w : List ℕ) where
  limits-form : limits_pass w ≡ true → LimitsValid (limits_of w)
  unfolding limits_pass bad_limits
  limits-form e =
      let a = neither (ltb (get_or w at.thread_limit 0) 1) (cond (ltb at.most_threads (get_or w at.thread_limit 0)) true (cond (ltb 4096 (get_or w at.object_limit 0)) true (ltb 4096 (get_or w at.dpc_limit 0)))) (not-true (bad_limits (get_or w at.thread_limit 0) (get_or w at.object_limit 0) (get_or w at.dpc_limit 0)) e) in
      let b = neither (ltb at.most_threads (get_or w at.thread_limit 0)) (cond (ltb 4096 (get_or w at.object_limit 0)) true (ltb 4096 (get_or w at.dpc_limit 0))) a.1 in
      let c = neither (ltb 4096 (get_or w at.object_limit 0)) (ltb 4096 (get_or w at.dpc_limit 0)) b.1 in
      record {
        some_thread = ltb-false (get_or w at.thread_limit 0) 1 a.0;
        threads = ltb-false at.most_threads (get_or w at.thread_limit 0) b.0;
        objects = ltb-false 4096 (get_or w at.object_limit 0) c.0;
        dpcs = ltb-false 4096 (get_or w at.dpc_limit 0) c.1;
      }

  long-form : long_enough w ≡ true → Enough w (limits_of w)
  unfolding long_enough
  long-form e = leb-true (words_needed (get_or w at.thread_limit 0) (get_or w at.object_limit 0) (get_or w at.dpc_limit 0)) (length w) e

  counts-form : counts_pass w ≡ true → (1 ≤ get_or w at.threads 0) × (get_or w at.threads 0 ≤ get_or w at.thread_limit 0) × (get_or w at.objects 0 ≤ get_or w at.object_limit 0) × (get_or w at.dpcs 0 ≤ get_or w at.dpc_limit 0)
  unfolding counts_pass
  counts-form e =
      let a = not_first (ltb (get_or w at.threads 0) 1) (cond (ltb (get_or w at.thread_limit 0) (get_or w at.threads 0)) false (cond (ltb (get_or w at.object_limit 0) (get_or w at.objects 0)) false (leb (get_or w at.dpcs 0) (get_or w at.dpc_limit 0)))) e in
      let b = not_first (ltb (get_or w at.thread_limit 0) (get_or w at.threads 0)) (cond (ltb (get_or w at.object_limit 0) (get_or w at.objects 0)) false (leb (get_or w at.dpcs 0) (get_or w at.dpc_limit 0))) a.1 in
      let c = not_first (ltb (get_or w at.object_limit 0) (get_or w at.objects 0)) (leb (get_or w at.dpcs 0) (get_or w at.dpc_limit 0)) b.1 in
      (ltb-false (get_or w at.threads 0) 1 a.0, ltb-false (get_or w at.thread_limit 0) (get_or w at.threads 0) b.0, ltb-false (get_or w at.object_limit 0) (get_or w at.objects 0) c.0, leb-true (get_or w at.dpcs 0) (get_or w at.dpc_limit 0) c.1)

  current-form : current_passes w ≡ true → get_or w at.current 0 ≤ get_or w at.threads 0
  unfolding current_passes
  current-form e = leb-true (get_or w at.current 0) (get_or w at.threads 0) e

  ready-form : ready_passes w ≡ true → (get_or w at.ready 0 < 2 ^ 32) × (bit_at (get_or w at.ready 0) 0 ≡ 0)
  unfolding ready_passes
  ready-form e =
      let a = not_first (ltb 4294967295 (get_or w at.ready 0)) (eqb (bit_at (get_or w at.ready 0) 0) 0) e in
      (omega (arith, ltb-false 4294967295 (get_or w at.ready 0) a.0), eqb-true (bit_at (get_or w at.ready 0) 0) 0 a.1)

  no-arguments-form : no_arguments w ≡ true → (get_or w at.timer_argument 0 ≡ 0) × (get_or w at.timer_argument2 0 ≡ 0)
  unfolding no_arguments
  no-arguments-form e =
      let a = both (eqb (get_or w at.timer_argument 0) 0) (eqb (get_or w at.timer_argument2 0) 0) e in
      (eqb-true (get_or w at.timer_argument 0) 0 a.0, eqb-true (get_or w at.timer_argument2 0) 0 a.1)

  policy-form : policy_passes w ≡ true
      → (policy_number (policy_by w (get_or w at.policy 0)) ≡ get_or w at.policy 0) × (PolicyValid (policy_by w (get_or w at.policy 0))) × (get_or w at.policy 0 ≡ 0 → (get_or w at.timer_argument 0 ≡ 0) × (get_or w at.timer_argument2 0 ≡ 0))
  unfolding policy_passes
  policy-form e = go (eqb (get_or w at.policy 0) 0) refl e
    where
      rest : Bool
      rest = cond (eqb (get_or w at.policy 0) 1) (cond (eqb (get_or w at.timer_argument 0) 0) false (cond (eqb (get_or w at.timer_argument2 0) 0) false (not (eqb (get_or w at.timer_argument 0) (get_or w at.timer_argument2 0))))) false

      go : (b : Bool) → eqb (get_or w at.policy 0) 0 ≡ b → cond b (no_arguments w) rest ≡ true
          → (policy_number (cond b unselected (cpu0_dispatch (get_or w at.timer_argument 0) (get_or w at.timer_argument2 0))) ≡ get_or w at.policy 0) × (PolicyValid (cond b unselected (cpu0_dispatch (get_or w at.timer_argument 0) (get_or w at.timer_argument2 0)))) × (get_or w at.policy 0 ≡ 0 → (get_or w at.timer_argument 0 ≡ 0) × (get_or w at.timer_argument2 0 ≡ 0))
      go true q h = (sym (eqb-true (get_or w at.policy 0) 0 q), tt, (λ z. no-arguments-form h))
      go false q h =
          let a = both (eqb (get_or w at.policy 0) 1) (cond (eqb (get_or w at.timer_argument 0) 0) false (cond (eqb (get_or w at.timer_argument2 0) 0) false (not (eqb (get_or w at.timer_argument 0) (get_or w at.timer_argument2 0))))) h in
          let b = not_first (eqb (get_or w at.timer_argument 0) 0) (cond (eqb (get_or w at.timer_argument2 0) 0) false (not (eqb (get_or w at.timer_argument 0) (get_or w at.timer_argument2 0)))) a.1 in
          let c = not_first (eqb (get_or w at.timer_argument2 0) 0) (not (eqb (get_or w at.timer_argument 0) (get_or w at.timer_argument2 0))) b.1 in (
            sym (eqb-true (get_or w at.policy 0) 1 a.0),
            (eqb-false (get_or w at.timer_argument 0) 0 b.0, eqb-false (get_or w at.timer_argument2 0) 0 c.0, eqb-false (get_or w at.timer_argument 0) (get_or w at.timer_argument2 0) (not-true (eqb (get_or w at.timer_argument 0) (get_or w at.timer_argument2 0)) c.1)),
            (λ z. absurd (eqb-false (get_or w at.policy 0) 0 q z)),
          )

  lifetimes-form : lifetimes_pass w ≡ true → (get_or w at.accepted 0 ≤ 65536) × (get_or w at.timer_initializations 0 ≤ 65536) × (get_or w at.dpc_initializations 0 ≤ 65536)
  unfolding lifetimes_pass
  lifetimes-form e =
      let a = not_first (ltb 65536 (get_or w at.accepted 0)) (cond (ltb 65536 (get_or w at.timer_initializations 0)) false (leb (get_or w at.dpc_initializations 0) 65536)) e in
      let b = not_first (ltb 65536 (get_or w at.timer_initializations 0)) (leb (get_or w at.dpc_initializations 0) 65536) a.1 in
      (ltb-false 65536 (get_or w at.accepted 0) a.0, ltb-false 65536 (get_or w at.timer_initializations 0) b.0, leb-true (get_or w at.dpc_initializations 0) 65536 b.1)

  pub counted : limits_pass w ≡ true → long_enough w ≡ true → header_numbers w ≡ true → Counted w
  unfolding header_numbers
  counted l e h =
      let a = both (counts_pass w) (cond (current_passes w) (cond (ready_passes w) (cond (policy_passes w) (lifetimes_pass w) false) false) false) h in
      let b = both (current_passes w) (cond (ready_passes w) (cond (policy_passes w) (lifetimes_pass w) false) false) a.1 in
      let c = both (ready_passes w) (cond (policy_passes w) (lifetimes_pass w) false) b.1 in
      let d = both (policy_passes w) (lifetimes_pass w) c.1 in
      let counts = counts-form a.0 in
      let lives = lifetimes-form d.1 in
      record {
        limits = limits-form l;
        enough = long-form e;
        some_thread = counts.0;
        threads_fit = counts.1;
        objects_fit = counts.2;
        dpcs_fit = counts.3;
        current-in = current-form b.0;
        ready-small = (ready-form c.0).0;
        no_zero = (ready-form c.0).1;
        policy-number = (policy-form d.0).0;
        policy = (policy-form d.0).1;
        no-arguments = (policy-form d.0).2;
        lived = lives.0;
        timers_lived = lives.1;
        dpcs_lived = lives.2;
      }

-- ---- counts and places

module _ (w : List ℕ) (c : Counted w) where
  pub thread-count : thread_count w ≡ get_or w at.threads 0
  unfolding thread_count
  thread-count = simp (le-leb (get_or w at.threads 0) at.most_threads (omega (arith, c.threads_fit, c.limits.threads)))

  pub object-count : object_count w ≡ get_or w at.objects 0
  unfolding object_count
  object-count = simp (le-leb (get_or w at.objects 0) 4096 (omega (arith, c.objects_fit, c.limits.objects)))

  pub dpc-count : dpc_count w ≡ get_or w at.dpcs 0
  unfolding dpc_count
  dpc-count = simp (le-leb (get_or w at.dpcs 0) 4096 (omega (arith, c.dpcs_fit, c.limits.dpcs)))

  pub objects-base : objects_base w ≡ objects_from (limits_of w)
  unfolding objects_base
  objects-base = objects-place (get_or w at.thread_limit 0) c.limits.threads

  pub dpcs-base : dpcs_base w ≡ dpcs_from (limits_of w)
  unfolding dpcs_base
  dpcs-base =
      ap (λ (b : ℕ). entry_at b (get_or w at.object_limit 0)) objects-base
      ∙ entry_place (objects_from (limits_of w)) (get_or w at.object_limit 0) (omega (arith, c.limits.threads)) (omega (arith, c.limits.objects))

  pub low : dpcs_from (limits_of w) ≤ 1000000
  low = omega (arith, c.limits.threads, c.limits.objects)

  -- ---- the header's numbers

  pub header_row : Row w 0 (header_of (decoded w) (get_or w at.active 0))
  header_row = row_from w 0 (header_of (decoded w) (get_or w at.active 0))
      (says refl (says refl (says refl
      (says (sym (length-each (thread_by w) (get_or w at.threads 0) 1))
      (says (sym (length-each (object_of w) (get_or w at.objects 0) 0))
      (says (sym (length-each (dpc_of w) (get_or w at.dpcs 0) 0))
      (says refl (says refl (says refl
      (skips
      (says (sym c.policy-number)
      (says arguments.0
      (says arguments.1
      (says refl (says refl (says refl (says refl (says refl (says refl
      (says refl (says refl
      (skips (skips (skips (skips
      (says refl ends))))))))))))))))))))))))))
    where
      policy : Policy
      policy = policy_by w (get_or w at.policy 0)

      arguments : (get_or w at.timer_argument 0 ≡ first_argument policy) × (get_or w at.timer_argument2 0 ≡ second_argument policy)
      arguments = go (eqb (get_or w at.policy 0) 0) refl
        where
          go : (b : Bool) → eqb (get_or w at.policy 0) 0 ≡ b → (get_or w at.timer_argument 0 ≡ first_argument (policy_by w (get_or w at.policy 0))) × (get_or w at.timer_argument2 0 ≡ second_argument (policy_by w (get_or w at.policy 0)))
          go true q =
              let h = c.no-arguments (eqb-true (get_or w at.policy 0) 0 q) in (
                h.0 ∙ ap (λ (b : Bool). first_argument (cond b unselected (cpu0_dispatch (get_or w at.timer_argument 0) (get_or w at.timer_argument2 0)))) (sym q),
                h.1 ∙ ap (λ (b : Bool). second_argument (cond b unselected (cpu0_dispatch (get_or w at.timer_argument 0) (get_or w at.timer_argument2 0)))) (sym q),
              )
          go false q = (
            ap (λ (b : Bool). first_argument (cond b unselected (cpu0_dispatch (get_or w at.timer_argument 0) (get_or w at.timer_argument2 0)))) (sym q),
            ap (λ (b : Bool). second_argument (cond b unselected (cpu0_dispatch (get_or w at.timer_argument 0) (get_or w at.timer_argument2 0)))) (sym q),
          )
