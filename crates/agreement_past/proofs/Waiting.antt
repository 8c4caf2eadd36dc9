-- Objects taken, and threads that wait.
use Prim.Native.Nat.{ℕ, zero, suc, ◌+◌, ◌/◌, ◌%◌, ◌^◌, ◌≤◌, ◌<◌}
use mathlib.Core.List.{List}
use mathlib.Core.Bool.{Bool, true, false, cond}
use mathlib.Core.Path.{◌≡◌, refl, sym, ◌∙◌, subst}
use native.Mathlib.Omega.{arith}
use native.Mathlib.Decide.{ℕ_discrete}
use borrow.Author.Tests.{eqb-false, leb-true}
use lib.Dec.{eqb, leb, ltb}
use lib.ListN.{get_or, set, length}
use Rattle.words.specs.Layout as at
use Rattle.answers.specs.declared.Answer.TheVariants as answer
use Rattle.answers.specs.Outcome.{outcome, unless, bit}
use Rattle.chains.specs.Ready.{waiters_chain}
use Rattle.objects.specs.Objects.{place_of}
use Rattle.threads.specs.declared.Thread as stored
use Rattle.threads.specs.declared.Wait as stored-wait
use Rattle.threads.specs.Thread.{thread_of, put_thread, put_wait, recorded}
use Rattle.waits.specs.Object.{taken}
use Rattle.waits.specs.Lists.{kind_in, key_in, first_in, met_in, index_in, taken_list, taken_own, takes_list, takes_own}
use Rattle.waiting.specs.Wait as words
use Rattle.model.specs.State.{Limits, State}
use Rattle.model.specs.Valid.{Valid}
use Rattle.model.proofs.KeepLaws.{current-known}
use Rattle.agreement_chains.specs.Chains.{Same}
use Rattle.agreement_chains.proofs.Frames.{set-outside}
use Rattle.agreement.specs.Agree.{Agree}
use Rattle.agreement.proofs.Places.{thread-place}
use Rattle.agreement.proofs.Threads.{thread-writes}
use Rattle.agreement.proofs.Waits.{wait-writes}
use Rattle.agreement_past.specs.Past.{Beyond}
use Rattle.agreement_past.proofs.Kept.{unless-kept}
use Rattle.agreement_past.proofs.Words.{Sized, sized, Clear, Low, clear-beyond, clear-low, Here, here-kept, place_here, sized-still, pushed-kept, waiters-strung}
use Rattle.agreement_past.proofs.Steps.{last-most, thread-kept}

-- ---- objects taken

module _ (l : Limits) where
  module _ (Q : ℕ → Type 0) (c : Clear l Q) where
    pub taken-kept : (w : List ℕ) → Sized l w → (id kind key : ℕ) → Same Q w (taken w id kind key)
    unfolding taken
    taken-kept w z id kind key = go (eqb (place_of w kind key) 0) (eqb kind 0) (eqb (get_or w (place_of w kind key + at.manual) 0) 0) refl
      where
        here : eqb (place_of w kind key) 0 ≡ false → Here l (place_of w kind key)
        here e = place_here l w z kind key (eqb-false (place_of w kind key) 0 e)

        go : (a b d : Bool) → eqb (place_of w kind key) 0 ≡ a → Same Q w (cond a w (cond b (set w (place_of w kind key + at.owner) id) (cond d (set w (place_of w kind key + at.signaled) 0) w)))
        go true b d e j r = refl
        go false true d e j r = here-kept l Q c w (place_of w kind key) at.owner id (here e) (omega arith) j r
        go false false true e j r = here-kept l Q c w (place_of w kind key) at.signaled 0 (here e) (omega arith) j r
        go false false false e j r = refl

  taken-sized : (w : List ℕ) → Sized l w → (id kind key : ℕ) → Sized l (taken w id kind key)
  taken-sized w z id kind key = sized-still l w z (taken w id kind key) (taken-kept Low (clear-low l) w z id kind key)

  module _ (Q : ℕ → Type 0) (c : Clear l Q) where
    list-kept : (m : ℕ) (w : List ℕ) → Sized l w → (id : ℕ) (src : List ℕ) (i : ℕ) → Same Q w (taken_list m w id src i)
    unfolding taken_list
    list-kept zero w z id src i j r = refl
    list-kept (suc m) w z id src i j r =
        list-kept m (taken w id (kind_in src 0 i) (key_in src 0 i)) (taken-sized w z id (kind_in src 0 i) (key_in src 0 i)) id src (i + 1) j r
        ∙ taken-kept Q c w z id (kind_in src 0 i) (key_in src 0 i) j r

    own-kept : (m : ℕ) (w : List ℕ) → Sized l w → (id from i : ℕ) → Same Q w (taken_own m w id from i)
    unfolding taken_own
    own-kept zero w z id from i j r = refl
    own-kept (suc m) w z id from i j r =
        own-kept m (taken w id (kind_in w from i) (key_in w from i)) (taken-sized w z id (kind_in w from i) (key_in w from i)) id from (i + 1) j r
        ∙ taken-kept Q c w z id (kind_in w from i) (key_in w from i) j r

    pub takes-list-kept : (w : List ℕ) → Sized l w → (id : ℕ) (src : List ℕ) (n all : ℕ) → Same Q w (takes_list w id src n all)
    unfolding takes_list
    takes-list-kept w z id src n all = go (eqb all 0)
      where
        go : (b : Bool) → Same Q w (cond b (taken w id (kind_in src 0 (first_in n w src 0 0)) (key_in src 0 (first_in n w src 0 0))) (taken_list n w id src 0))
        go true j r = taken-kept Q c w z id (kind_in src 0 (first_in n w src 0 0)) (key_in src 0 (first_in n w src 0 0)) j r
        go false j r = list-kept n w z id src 0 j r

    pub takes-own-kept : (w : List ℕ) → Sized l w → (id from n all : ℕ) → Same Q w (takes_own w id from n all)
    unfolding takes_own
    takes-own-kept w z id from n all = go (eqb all 0)
      where
        go : (b : Bool) → Same Q w (cond b (taken w id (kind_in w from (first_in n w w from 0)) (key_in w from (first_in n w w from 0))) (taken_own n w id from 0))
        go true j r = taken-kept Q c w z id (kind_in w from (first_in n w w from 0)) (key_in w from (first_in n w w from 0)) j r
        go false j r = own-kept n w z id from 0 j r

-- ---- a thread's record leaves the words before

pub thread-low : (w : List ℕ) (id : ℕ) (t : stored.Thread) (j : ℕ) → id ≤ at.most_threads → j < at.unused → get_or (put_thread w id t) j 0 ≡ get_or w j 0
thread-low w id t j h k = thread-writes w id t h j (λ o. omega (arith, o.here))

wait-low : (w : List ℕ) (id : ℕ) (x : stored-wait.Wait) (j : ℕ) → id ≤ at.most_threads → x.count ≤ 64 → j < at.unused → get_or (put_wait w id x) j 0 ≡ get_or w j 0
wait-low w id x j h f k = wait-writes w id x h f j (λ o. omega (arith, o.here))

-- ---- the calls

module _ (w : List ℕ) (s : State) (a : Agree w s) (v : Valid s) where
  abbrev R : ℕ → Type 0
  R = Beyond s.limits

  abbrev id : ℕ
  id = get_or w at.current 0

  z : Sized s.limits w
  z = sized w s _ _ a

  most : s.limits.threads ≤ at.most_threads
  most = a.shape.sizes.limits.threads

  pub current-most : get_or w at.current 0 ≤ s.limits.threads
  current-most = go (ℕ_discrete s.dispatcher.current 0)
    where
      is : get_or w at.current 0 ≡ s.dispatcher.current
      is = a.numbers at.current s.dispatcher.current refl

      go : Dec (s.dispatcher.current ≡ 0) → get_or w at.current 0 ≤ s.limits.threads
      go (yes e) = omega (arith, is)
      go (no n) = omega (arith, is, (current-known s v n).1, a.shape.sizes.threads_fit)

  waiters-last : get_or w at.waiters_last 0 ≤ s.limits.threads
  unfolding waiters_chain
  waiters-last = subst (λ (n : ℕ). n ≤ s.limits.threads) (sym a.waiters.last)
      (last-most 0 s.limits.threads s.dispatcher.waiters (omega arith) (λ y m. omega (arith, (a.shape.waiting_standing.within y m).1, a.shape.sizes.threads_fit)))

  result-kept : (w₁ : List ℕ) (result : ℕ) → Same (Beyond s.limits) w₁ (words.with_result w₁ (get_or w at.current 0) result)
  unfolding words.with_result
  result-kept w₁ result = set-outside R w₁ (at.thread_at id + at.result) result (λ r. omega (arith, thread-place id (omega (arith, current-most, most)), current-most))

  -- current no longer, its wait recorded, last among the waiters
  blocked-kept : (x : stored-wait.Wait) → x.count ≤ 64 → Same (Beyond s.limits) w (words.blocked_words w (get_or w at.current 0) x)
  unfolding words.blocked_words words.parked words.left waiters_chain
  blocked-kept x few j r =
      pushed-kept s.limits waiters_chain s.limits.threads (waiters-strung s.limits) w₄ id current-most
      (subst (λ (n : ℕ). n ≤ s.limits.threads) (sym (low at.waiters_last (omega arith) (λ e. omega arith) (λ e. omega arith))) waiters-last) j r
      ∙ thread-kept s.limits w₃ id t current-most most j r
      ∙ wait-writes w₂ id x few-threads few j (λ o. omega (arith, o.here, o.has.to, current-most))
      ∙ set-outside R w₁ at.sequence ((x.sequence + 1) % 2 ^ 64) (λ r. omega arith) j r ∙ set-outside R w at.current 0 (λ r. omega arith) j r
    where
      few-threads : get_or w at.current 0 ≤ at.most_threads
      few-threads = omega (arith, current-most, most)

      w₁ : List ℕ
      w₁ = set w at.current 0

      w₂ : List ℕ
      w₂ = set (set w at.current 0) at.sequence ((x.sequence + 1) % 2 ^ 64)

      w₃ : List ℕ
      w₃ = put_wait (set (set w at.current 0) at.sequence ((x.sequence + 1) % 2 ^ 64)) (get_or w at.current 0) x

      t : stored.Thread
      t = record { priority = (thread_of w₃ (get_or w at.current 0)).priority; state = 3; result = 0; status = (thread_of w₃ (get_or w at.current 0)).status }

      w₄ : List ℕ
      w₄ = put_thread w₃ (get_or w at.current 0) t

      low : (i : ℕ) → i < at.unused → (i ≡ at.sequence → ⊥) → (i ≡ at.current → ⊥) → get_or w₄ i 0 ≡ get_or w i 0
      low i h n m =
          thread-low w₃ id t i few-threads h ∙ wait-low w₂ id x i few-threads few h
          ∙ set-outside (λ (k : ℕ). k ≡ i) w₁ at.sequence ((x.sequence + 1) % 2 ^ 64) (λ e. n (sym e)) i refl ∙ set-outside (λ (k : ℕ). k ≡ i) w at.current 0 (λ e. m (sym e)) i refl

  decided-kept : (timed : Bool) (irql : ℕ) (x : stored-wait.Wait) → x.count ≤ 64 → Same (Beyond s.limits) w (words.decided w (get_or w at.current 0) timed irql x).words
  unfolding words.decided words.timed_out
  decided-kept timed irql x few = go (words.reached w timed x.deadline)
    where
      go : (b : Bool) → Same (Beyond s.limits) w (cond b (outcome answer.Timeout (words.with_result w (get_or w at.current 0) 1)) (unless (words.block_refusal w irql) w (outcome answer.Blocked (words.blocked_words w (get_or w at.current 0) x)))).words
      go true j r = result-kept w 1 j r
      go false j r = unless-kept R w (words.block_refusal w irql) (outcome answer.Blocked (words.blocked_words w (get_or w at.current 0) x)) (λ e. blocked-kept x few) j r

  pub delayed-kept : (deadline irql : ℕ) → Same (Beyond s.limits) w (words.delayed w deadline irql).words
  unfolding words.delayed words.delay_wait
  delayed-kept deadline irql = go (ltb 1 irql) (eqb (get_or w at.current 0) 0)
    where
      go : (b c : Bool) → Same (Beyond s.limits) w (cond b (outcome (answer.Refused 9) w) (cond c (outcome (answer.Refused 3) w) (words.decided w (get_or w at.current 0) true irql (words.delay_wait deadline (get_or w at.sequence 0))))).words
      go true c j r = refl
      go false true j r = refl
      go false false j r = decided-kept true irql (words.delay_wait deadline (get_or w at.sequence 0)) (omega arith) j r

  pub waited-kept : (list : List ℕ) (all timed : Bool) (deadline irql : ℕ) → Same (Beyond s.limits) w (words.waited w list all timed deadline irql).words
  unfolding words.waited words.granted words.decided_list recorded
  waited-kept list all timed deadline irql = unless-kept R w (words.wait_refusal w list) _ (λ e. go (met_in w list 0 (words.pair_count list) (bit all)))
    where
      n : ℕ
      n = words.pair_count list

      few : words.pair_count list ≤ 64
      few = unfold words.pair_count in at_most (leb (length list / 2) 64) refl
        where
          at_most : (b : Bool) → leb (length list / 2) 64 ≡ b → cond b (length list / 2) 64 ≤ 64
          at_most true e = leb-true (length list / 2) 64 e
          at_most false e = omega arith

      go : (b : Bool) → Same (Beyond s.limits) w (cond b (words.granted w (get_or w at.current 0) list (words.pair_count list) (bit all)) (words.decided_list w (get_or w at.current 0) list (words.pair_count list) (bit all) timed deadline irql)).words
      go true j r =
          result-kept (takes_list w id list n (bit all)) ((index_in w list 0 n (bit all) + 2) % 2 ^ 64) j r
          ∙ takes-list-kept s.limits R (clear-beyond s.limits) w z id list n (bit all) j r
      go false j r = decided-kept timed irql (recorded list n (bit all) (bit timed) deadline (get_or w at.sequence 0)) few j r
