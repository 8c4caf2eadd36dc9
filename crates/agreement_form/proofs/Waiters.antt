-- The chains of threads in words that agree with a state in form: waiters' sequences rise, and waiters stand in their chain once.
use Prim.Native.Nat.{ℕ, zero, suc, ◌+◌, ◌≤◌, ◌<◌}
use mathlib.Core.List.{List, [], ◌∷◌}
use mathlib.Core.Bool.{Bool, cond, true, false}
use mathlib.Core.Path.{◌≡◌, refl, sym, ap, ◌∙◌}
use mathlib.Core.Logic.{inl, inr}
use native.Mathlib.Omega.{arith}
use borrow.Author.Tests.{eq-eqb, ne_eqb, lt-leb, le-leb}
use lib.ListN.{get_or, length}
use lib.Dec.{eqb, leb}
use Rattle.words.specs.Layout as at
use Rattle.words.specs.Layout.{thread_at}
use Rattle.chains.specs.Chain.{link_at, first_of, next_of}
use Rattle.chains.specs.Ready.{waiters_chain}
use Rattle.form_threads.specs.Thread.{has_state, state_count_in, state_count}
use Rattle.form_chains.specs.Chain.{sequence_at, sequences_in, sequences_rise, has_priority, member_passes, chain_size, waiters_stand_once}
use Rattle.form_threads.specs.Thread as form
use Rattle.model.specs.Lists.{Mem, member}
use Rattle.model.specs.State.{State, Thread, Status, running, ready, waiting, exited, Wait}
use Rattle.model.specs.Threads.{is_waiting, status_of, wait_of}
use Rattle.model.specs.Valid.{RisingBy}
use Rattle.model.specs.Valid as model-valid
use Rattle.model.proofs.ListLaws.{mem-member, not-both}
use Rattle.agreement_chains.specs.Chains.{Linked, Standing}
use Rattle.agreement_chains.proofs.Frames.{link-first, standing-length}
use Rattle.agreement.specs.Records.{status_number, holder_of, active_address}
use Rattle.agreement.specs.Agree.{Agree}
use Rattle.agreement.proofs.Headers.{threads-few}
use Rattle.agreement.proofs.Lookups.{known_is, sequence-is, thread-count-is}
use Rattle.agreement_form.specs.Form.{Form}
use Rattle.agreement_form.proofs.Tally.{tally, tally-same, tally-list}
use Rattle.agreement_form.proofs.ThreadRecords.{has-state}
use Rattle.agreement_form.proofs.ChainPasses.{size_is}

is-waiting : (x : Status) → is_waiting x ≡ true → (y : Wait) × (x ≡ waiting y)
is-waiting running e = absurd (not-both (sym e))
is-waiting ready e = absurd (not-both (sym e))
is-waiting (waiting y) e = (y, refl)
is-waiting (exited n) e = absurd (not-both (sym e))

pub waiting-number : (x : Status) → eqb (status_number x) 3 ≡ is_waiting x
waiting-number running = refl
waiting-number ready = refl
waiting-number (waiting y) = refl
waiting-number (exited n) = refl

-- the count of a state is a tally
pub state-tally : (w : List ℕ) (state m i : ℕ) → state_count_in m w i state ≡ tally (λ y. has_state w y state) m i
unfolding state_count_in form.one_if
state-tally w state zero i = refl
state-tally w state (suc m) i = ap (λ (n : ℕ). cond (has_state w i state) 1 0 + n) (state-tally w state m (i + 1))

module _ (w : List ℕ) (s : State) (a : Agree w s) (v : Form s) where
  abbrev threads : List Thread
  threads = s.dispatcher.threads

  -- threads of a state are exactly those of a list
  pub state-count : (state : ℕ) (xs : List ℕ) → Standing (length threads) xs
      → ((i : ℕ) → 1 ≤ i → i ≤ length threads → has_state w i state ≡ member i xs) → state_count w state ≡ length xs
  unfolding state_count
  state-count state xs st h =
      ap (λ (m : ℕ). state_count_in m w 1 state) (thread-count-is w s (holder_of s.dispatcher.objects) (active_address s.dpcs.table) a)
      ∙ state-tally w state (length threads) 1
      ∙ tally-same (λ y. has_state w y state) (λ y. member y xs) (length threads) 1 (λ y p q. h y p (omega arith))
      ∙ tally-list (length threads) 1 xs st.once (λ y m. ((st.within y m).0, omega (arith, (st.within y m).1)))

  -- a thread of the table, of a state and with a priority that is asked, may stand in a chain
  pub member-passes : (i state p : ℕ) → 1 ≤ i → i ≤ length threads → has_state w i state ≡ true → has_priority w i p ≡ true → member_passes w i state p ≡ true
  unfolding member_passes
  member-passes i state p one le h k =
      simp (known_is w s (holder_of s.dispatcher.objects) (active_address s.dpcs.table) a i, ne_eqb i 0 (λ q. omega arith), le-leb i (length threads) le, h, k)

  waiter : (i : ℕ) → Mem i s.dispatcher.waiters → (1 ≤ i) × (i ≤ length threads)
  waiter i m = a.shape.waiting_standing.within i m

  waiter-waits : (i : ℕ) → Mem i s.dispatcher.waiters → is_waiting (status_of s.dispatcher i) ≡ true
  waiter-waits i m = sym (v.sound.standing.waiters_waiting i) ∙ mem-member i s.dispatcher.waiters m

  waiter-state : (i : ℕ) → 1 ≤ i → i ≤ length threads → has_state w i 3 ≡ member i s.dispatcher.waiters
  waiter-state i one le = has-state w s a v i one le 3 ∙ waiting-number (status_of s.dispatcher i) ∙ sym (v.sound.standing.waiters_waiting i)

  any-priority : (i : ℕ) → has_priority w i 0 ≡ true
  unfolding has_priority
  any-priority i = refl

  pub waiters-stand-once : waiters_stand_once w ≡ true
  unfolding waiters_stand_once
  waiters-stand-once =
      eq-eqb (chain_size w waiters_chain 3 0) (state_count w 3 + 1)
      (size_is w waiters_chain 3 0 s.dispatcher.waiters a.waiters each
      (omega (arith, standing-length (length threads) s.dispatcher.waiters a.shape.waiting_standing, threads-few w s (holder_of s.dispatcher.objects) (active_address s.dpcs.table) a))
      ∙ ap (λ (m : ℕ). m + 1) (sym (state-count 3 s.dispatcher.waiters a.shape.waiting_standing waiter-state)))
    where
      each : (y : ℕ) → Mem y s.dispatcher.waiters → (1 ≤ y) × (member_passes w y 3 0 ≡ true)
      each y m = (
        (waiter y m).0,
        member-passes y 3 0 (waiter y m).0 (waiter y m).1 (waiter-state y (waiter y m).0 (waiter y m).1 ∙ mem-member y s.dispatcher.waiters m) (any-priority y),
      )

  -- ---- sequences

  sequence-of : (i : ℕ) → Mem i s.dispatcher.waiters → sequence_at w i ≡ model-valid.sequence_at threads i
  unfolding sequence_at
  sequence-of i m = go (is-waiting (status_of s.dispatcher i) (waiter-waits i m))
    where
      go : ((y : Wait) × (status_of s.dispatcher i ≡ waiting y)) → cond (eqb i 0) (get_or w at.sequence 0) (get_or w (thread_at i + at.wait_sequence) 0) ≡ model-valid.sequence_at threads i
      go (y, e) =
          ap (λ (b : Bool). cond b (get_or w at.sequence 0) (get_or w (thread_at i + at.wait_sequence) 0)) (ne_eqb i 0 (λ q. omega (arith, q, (waiter i m).0)))
          ∙ sequence-is w s (holder_of s.dispatcher.objects) (active_address s.dpcs.table) a i (waiter i m).0 (waiter i m).1 y e
          ∙ ap (λ (x : Status). (wait_of x).sequence) (sym e)

  next-sequence : sequence_at w 0 ≡ s.dispatcher.sequence
  unfolding sequence_at
  next-sequence = a.numbers at.sequence s.dispatcher.sequence refl

  rises : (k b : ℕ) (xs : List ℕ) → Linked w waiters_chain b xs → ((y : ℕ) → Mem y xs → Mem y s.dispatcher.waiters)
      → RisingBy (model-valid.sequence_at threads) xs → length xs < k → sequences_in k w (get_or w (link_at waiters_chain b) 0) ≡ true
  unfolding sequences_in next_of
  rises zero b xs l h r few = absurd (omega arith)
  rises (suc k) b [] l h r few = ap (sequences_in (suc k) w) l
  rises (suc k) b (x ∷ []) l h r few =
      ap (sequences_in (suc k) w) l.0
      ∙ ap (λ (t : Bool). cond t true (cond (leb (sequence_at w (next_of w waiters_chain x)) (sequence_at w x)) false (sequences_in k w (next_of w waiters_chain x)))) (ne_eqb x 0 (λ q. omega (arith, q, (waiter x (h x (inl refl))).0)))
      ∙ ap (λ (t : Bool). cond t false (sequences_in k w (next_of w waiters_chain x)))
      (lt-leb (sequence_at w (next_of w waiters_chain x)) (sequence_at w x)
      (omega (arith, sequence-of x (h x (inl refl)), v.sound.standing.below x (h x (inl refl)), ap (sequence_at w) l.1, next-sequence)))
      ∙ rises k x [] l.1 (λ y m. h y (inr m)) r.1 (omega arith)
  rises (suc k) b (x ∷ (y ∷ ys)) l h r few =
      ap (sequences_in (suc k) w) l.0
      ∙ ap (λ (t : Bool). cond t true (cond (leb (sequence_at w (next_of w waiters_chain x)) (sequence_at w x)) false (sequences_in k w (next_of w waiters_chain x)))) (ne_eqb x 0 (λ q. omega (arith, q, (waiter x (h x (inl refl))).0)))
      ∙ ap (λ (t : Bool). cond t false (sequences_in k w (next_of w waiters_chain x)))
      (lt-leb (sequence_at w (next_of w waiters_chain x)) (sequence_at w x)
      (omega (arith, sequence-of x (h x (inl refl)), r.0 y (inl refl), ap (sequence_at w) l.1.0, sequence-of y (h y (inr (inl refl))))))
      ∙ rises k x (y ∷ ys) l.1 (λ z m. h z (inr m)) r.1 (omega arith)

  pub sequences-rise : sequences_rise w ≡ true
  unfolding sequences_rise first_of
  sequences-rise =
      ap (λ (i : ℕ). sequences_in 4096 w (get_or w i 0)) (sym (link-first waiters_chain))
      ∙ rises 4096 0 s.dispatcher.waiters a.waiters.chain (λ y m. m) v.sound.standing.waiters_rising
      (omega (arith, standing-length (length threads) s.dispatcher.waiters a.shape.waiting_standing, threads-few w s (holder_of s.dispatcher.objects) (active_address s.dpcs.table) a))
