-- Where the threads stand in the state that words in form tell.
use Prim.Native.Nat.{ℕ, zero, suc, ◌+◌, ◌≤◌, ◌<◌}
use mathlib.Core.List.{List, [], ◌∷◌}
use mathlib.Core.Bool.{Bool, cond, true, false}
use mathlib.Core.Path.{◌≡◌, refl, sym, ap, ◌∙◌, subst}
use mathlib.Core.Logic.{inl, inr}
use native.Mathlib.Omega.{arith}
use native.Mathlib.Decide.{ℕ_discrete}
use borrow.Author.Tests.{eq-eqb, ne_eqb, eqb-true, leb-false, leb-true}
use lib.ListN.{get_or}
use lib.Dec.{eqb, leb}
use Rattle.words.specs.Layout as at
use Rattle.chains.specs.Chain.{link_at, first_of, next_of}
use Rattle.chains.specs.Ready.{waiters_chain}
use Rattle.form_threads.specs.Thread.{has_state}
use Rattle.form_chains.specs.Chain as form
use Rattle.form_chains.specs.Chain.{sequences_in, sequences_rise}
use Rattle.model.specs.Lists.{Mem, member}
use Rattle.model.specs.State.{Thread, Status, exited}
use Rattle.model.specs.Threads.{thread_at, wait_of, is_ready, is_waiting, is_running}
use Rattle.model.specs.Valid.{Standing, RisingBy, sequence_at}
use Rattle.model.proofs.ListLaws.{not-member, rising-same, mem-member, not-both}
use Rattle.agreement_chains.specs.Chains as chains
use Rattle.agreement_chains.specs.Chains.{Linked}
use Rattle.agreement_chains.proofs.Frames.{link-first}
use Rattle.agreement.specs.Records.{status_number}
use Rattle.agreement.proofs.Places.{thread-place}
use Rattle.agreement_form.specs.Decoded.{status_by, threads_of, chain_of, ready_to}
use Rattle.agreement_form.proofs.Clauses.{not_first, if-not}
use Rattle.agreement_form.proofs.ThreadForm.{state-word}
use Rattle.agreement_form.proofs.ThreadRecords.{runs_number}
use Rattle.agreement_form.proofs.ReadyThreads.{ready-number}
use Rattle.agreement_form.proofs.Waiters.{waiting-number}
use Rattle.agreement_form.proofs.DecodedThreads.{thread-at, thread-past, status-number}
use Rattle.agreement_form.proofs.Parts.{Parts}

-- ---- sequences

rises-along : (w : List ℕ) (k b : ℕ) (xs : List ℕ) → Linked w waiters_chain b xs → ((y : ℕ) → Mem y xs → 1 ≤ y) → sequences_in k w (get_or w (link_at waiters_chain b) 0) ≡ true
    → (RisingBy (form.sequence_at w) xs) × ((y : ℕ) → Mem y xs → form.sequence_at w y < form.sequence_at w 0)
unfolding sequences_in next_of
rises-along w zero b xs l f e = absurd (not-both (sym e))
rises-along w (suc k) b [] l f e = (tt, (λ y m. absurd m))
rises-along w (suc k) b (x ∷ xs) l f e =
    go xs l.1 (rises-along w k x xs l.1 (λ y m. f y (inr m)) step.1)
  where
    next : ℕ
    next = next_of w waiters_chain x

    step : (leb (form.sequence_at w next) (form.sequence_at w x) ≡ false) × (sequences_in k w next ≡ true)
    step =
        not_first (leb (form.sequence_at w next) (form.sequence_at w x)) (sequences_in k w next)
        (if-not (eqb x 0) (cond (leb (form.sequence_at w next) (form.sequence_at w x)) false (sequences_in k w next))
        (ap (sequences_in (suc k) w) (sym l.0) ∙ e) (ne_eqb x 0 (λ q. omega (arith, q, f x (inl refl)))))

    less : form.sequence_at w x < form.sequence_at w next
    less = leb-false (form.sequence_at w next) (form.sequence_at w x) step.0

    go : (ys : List ℕ) → Linked w waiters_chain x ys → (RisingBy (form.sequence_at w) ys) × ((y : ℕ) → Mem y ys → form.sequence_at w y < form.sequence_at w 0)
        → (((y : ℕ) → Mem y ys → form.sequence_at w x < form.sequence_at w y) × RisingBy (form.sequence_at w) ys) × ((y : ℕ) → Mem y (x ∷ ys) → form.sequence_at w y < form.sequence_at w 0)
    go [] q r = (((λ y m. absurd m), tt), below)
      where
        below : (y : ℕ) → Mem y (x ∷ []) → form.sequence_at w y < form.sequence_at w 0
        below y (inl u) = subst (λ (z : ℕ). form.sequence_at w z < form.sequence_at w 0) (sym u) (omega (arith, less, ap (form.sequence_at w) q))
        below y (inr m) = absurd m
    go (z ∷ zs) q r = ((first, r.0), below)
      where
        to-next : form.sequence_at w x < form.sequence_at w z
        to-next = omega (arith, less, ap (form.sequence_at w) q.0)

        first : (y : ℕ) → Mem y (z ∷ zs) → form.sequence_at w x < form.sequence_at w y
        first y (inl u) = subst (λ (v : ℕ). form.sequence_at w x < form.sequence_at w v) (sym u) to-next
        first y (inr m) = omega (arith, to-next, r.0.0 y m)

        below : (y : ℕ) → Mem y (x ∷ (z ∷ zs)) → form.sequence_at w y < form.sequence_at w 0
        below y (inl u) = subst (λ (v : ℕ). form.sequence_at w v < form.sequence_at w 0) (sym u) (omega (arith, to-next, r.1 z (inl refl)))
        below y (inr m) = r.1 y m

module _ (w : List ℕ) (p : Parts w) where
  few : (i : ℕ) → i ≤ get_or w at.threads 0 → i ≤ at.most_threads
  few i h = omega (arith, p.header.threads_fit, p.header.limits.threads)

  -- ---- states

  pub status-is : (i : ℕ) → 1 ≤ i → i ≤ get_or w at.threads 0 → status_number (thread_at (threads_of w) i).status ≡ get_or w (at.thread_word at.state i) 0
  status-is i one le =
      let t = p.threads i one le in
      ap (λ (x : Thread). status_number x.status) (thread-at w i one le) ∙ status-number w i (get_or w (at.thread_word at.state i) 0) t.one_state t.small-state

  pub state-is : (i k : ℕ) → 1 ≤ i → i ≤ get_or w at.threads 0 → has_state w i k ≡ eqb (status_number (thread_at (threads_of w) i).status) k
  state-is i k one le = state-word w i (few i le) k ∙ ap (λ (n : ℕ). eqb n k) (sym (status-is i one le))

  -- a list of exactly the threads of a state
  stand : (k : ℕ) (test : Status → Bool) (xs : List ℕ) → ((x : Status) → eqb (status_number x) k ≡ test x) → test (exited 0) ≡ false
      → chains.Standing (get_or w at.threads 0) xs → ((y : ℕ) → 1 ≤ y → y ≤ get_or w at.threads 0 → has_state w y k ≡ member y xs) → (i : ℕ) → member i xs ≡ test (thread_at (threads_of w) i).status
  stand k test xs number none st exact zero = not-member zero xs (λ m. omega (arith, (st.within zero m).0)) ∙ sym none
  stand k test xs number none st exact (suc i) = go (leb (suc i) (get_or w at.threads 0)) refl
    where
      go : (b : Bool) → leb (suc i) (get_or w at.threads 0) ≡ b → member (suc i) xs ≡ test (thread_at (threads_of w) (suc i)).status
      go true e =
          let le = leb-true (suc i) (get_or w at.threads 0) e in
          sym (exact (suc i) (omega arith) le) ∙ state-is (suc i) k (omega arith) le ∙ number (thread_at (threads_of w) (suc i)).status
      go false e =
          let lt = leb-false (suc i) (get_or w at.threads 0) e in
          not-member (suc i) xs (λ m. omega (arith, lt, (st.within (suc i) m).1)) ∙ sym (ap (λ (t : Thread). test t.status) (thread-past w (suc i) lt) ∙ none)

  waiter : (i : ℕ) → Mem i (chain_of w 4096 waiters_chain) → (1 ≤ i) × (i ≤ get_or w at.threads 0)
  waiter i m = p.waiters.standing.within i m

  waits : (i : ℕ) → Mem i (chain_of w 4096 waiters_chain) → get_or w (at.thread_word at.state i) 0 ≡ 3
  waits i m =
      let h = waiter i m in
      eqb-true (get_or w (at.thread_word at.state i) 0) 3 (sym (state-word w i (few i h.1) 3) ∙ p.waiters.exact i h.0 h.1 ∙ mem-member i (chain_of w 4096 waiters_chain) m)

  sequence-is : (i : ℕ) → Mem i (chain_of w 4096 waiters_chain) → form.sequence_at w i ≡ sequence_at (threads_of w) i
  unfolding form.sequence_at
  sequence-is i m =
      let h = waiter i m in
      ap (λ (b : Bool). cond b (get_or w at.sequence 0) (get_or w (at.thread_at i + at.wait_sequence) 0)) (ne_eqb i 0 (λ q. omega (arith, q, h.0)))
      ∙ ap (λ (j : ℕ). get_or w j 0) (let z : at.thread_at i + at.wait_sequence ≡ at.thread_word at.wait_sequence i = omega (arith, thread-place i (few i h.1)) in z)
      ∙ ap (λ (n : ℕ). (wait_of (status_by w i n)).sequence) (sym (waits i m))
      ∙ ap (λ (t : Thread). (wait_of t.status).sequence) (sym (thread-at w i h.0 h.1))

  along : (RisingBy (form.sequence_at w) (chain_of w 4096 waiters_chain)) × ((y : ℕ) → Mem y (chain_of w 4096 waiters_chain) → form.sequence_at w y < form.sequence_at w 0)
  unfolding sequences_rise first_of
  along =
      rises-along w 4096 0 (chain_of w 4096 waiters_chain) p.waiters.holds.chain (λ y m. (waiter y m).0)
      (ap (λ (j : ℕ). sequences_in 4096 w (get_or w j 0)) (link-first waiters_chain) ∙ p.rise)

  next-sequence : form.sequence_at w 0 ≡ get_or w at.sequence 0
  unfolding form.sequence_at
  next-sequence = refl

  current_runs : (i : ℕ) → 1 ≤ i → eqb i (get_or w at.current 0) ≡ is_running (thread_at (threads_of w) i).status
  current_runs i one = go (leb i (get_or w at.threads 0)) refl
    where
      same : (a b : ℕ) → eqb a b ≡ eqb b a
      same a b = by (ℕ_discrete a b)
        where
          by : Dec (a ≡ b) → eqb a b ≡ eqb b a
          by (yes q) = eq-eqb a b q ∙ sym (eq-eqb b a (sym q))
          by (no q) = ne_eqb a b q ∙ sym (ne_eqb b a (λ z. q (sym z)))

      go : (b : Bool) → leb i (get_or w at.threads 0) ≡ b → eqb i (get_or w at.current 0) ≡ is_running (thread_at (threads_of w) i).status
      go true e =
          let le = leb-true i (get_or w at.threads 0) e in
          same i (get_or w at.current 0) ∙ (p.threads i one le).runs ∙ ap (λ (n : ℕ). eqb n 1) (sym (status-is i one le)) ∙ runs_number (thread_at (threads_of w) i).status
      go false e =
          let lt = leb-false i (get_or w at.threads 0) e in
          ne_eqb i (get_or w at.current 0) (λ q. omega (arith, q, lt, p.header.current-in)) ∙ ap (λ (t : Thread). is_running t.status) (sym (thread-past w i lt))

  pub standing : Standing (threads_of w) (ready_to w 31) (chain_of w 4096 waiters_chain) (get_or w at.current 0) (get_or w at.sequence 0)
  standing =
      record {
        placed_ready = stand 2 is_ready (ready_to w 31) ready-number refl p.ready.standing p.ready.exact;
        placed_once = p.ready.standing.once;
        waiters_waiting = stand 3 is_waiting (chain_of w 4096 waiters_chain) waiting-number refl p.waiters.standing p.waiters.exact;
        waiters_rising = rising-same (form.sequence_at w) (sequence_at (threads_of w)) (chain_of w 4096 waiters_chain) sequence-is along.0;
        below = λ i m. omega (arith, sequence-is i m, along.1 i m, next-sequence);
        current_runs = current_runs;
      }
