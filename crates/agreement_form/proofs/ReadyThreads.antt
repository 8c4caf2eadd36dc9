-- The ready queues in words that agree with a state in form hold the ready threads once.
use Prim.Native.Nat.{ℕ, zero, suc, ◌+◌, ◌-◌, ◌≤◌, ◌<◌}
use mathlib.Core.List.{List, [], ◌∷◌}
use mathlib.Core.Bool.{Bool, cond, true, false}
use mathlib.Core.Path.{◌≡◌, refl, sym, ap, ◌∙◌}
use mathlib.Core.Logic.{inl, inr}
use native.Mathlib.Omega.{arith}
use native.Mathlib.Decide.{ℕ_discrete}
use borrow.Author.Tests.{eq-eqb, ne_eqb}
use lib.ListN.{get_or, length}
use lib.Dec.{eqb}
use Rattle.words.specs.Word.{bit_at}
use Rattle.words.specs.Layout as at
use Rattle.chains.specs.Ready.{ready_chain}
use Rattle.form_threads.specs.Thread.{has_state, state_count}
use Rattle.form_chains.specs.Chain.{flag, bit_passes, queue_size, queues_in, ready_size, ready_stand_once, has_priority, member_passes}
use Rattle.model.specs.Lists.{Mem, member}
use Rattle.model.specs.State.{State, Thread, Status, running, ready, waiting, exited}
use Rattle.model.specs.Threads.{is_ready, status_of, priority_of, thread_of}
use Rattle.model.proofs.ListLaws.{mem-member}
use Rattle.agreement_chains.specs.Chains.{last_from}
use Rattle.agreement_chains.specs.Ready.{some_one, by_priority}
use Rattle.agreement_chains.proofs.Frames.{standing-length}
use Rattle.agreement_chains.proofs.ChainLaws.{standing-keep}
use Rattle.agreement_chains.proofs.Placed.{in-queue}
use Rattle.agreement.specs.Records.{status_number, holder_of, active_address}
use Rattle.agreement.specs.Chains.{queues_of}
use Rattle.agreement.specs.Agree.{Agree}
use Rattle.agreement.proofs.Headers.{threads-few}
use Rattle.agreement.proofs.Lookups.{thread-word-is}
use Rattle.agreement_form.specs.Form.{Form}
use Rattle.agreement_form.proofs.ThreadRecords.{has-state}
use Rattle.agreement_form.proofs.ChainPasses.{size_is}
use Rattle.agreement_form.proofs.Waiters.{state-count, member-passes}

-- ---- how many stand in the queues of `k` priorities from `p` on

abbrev pub total : (ℕ → ℕ) → List ℕ → ℕ → ℕ → ℕ
total prio l zero p = 0
total prio l (suc k) p = length (by_priority prio l p) + total prio l k (p + 1)

module _ (prio : ℕ → ℕ) where
  total-none : (k p : ℕ) → total prio [] k p ≡ 0
  total-none zero p = refl
  total-none (suc k) p = omega (arith, total-none k (p + 1))

  here : (x : ℕ) (xs : List ℕ) (p : ℕ) → prio x ≡ p → length (by_priority prio (x ∷ xs) p) ≡ suc (length (by_priority prio xs p))
  here x xs p e = ap (λ (b : Bool). length (cond b (x ∷ by_priority prio xs p) (by_priority prio xs p))) (eq-eqb (prio x) p e)

  elsewhere : (x : ℕ) (xs : List ℕ) (p : ℕ) → (prio x ≡ p → ⊥) → length (by_priority prio (x ∷ xs) p) ≡ length (by_priority prio xs p)
  elsewhere x xs p e = ap (λ (b : Bool). length (cond b (x ∷ by_priority prio xs p) (by_priority prio xs p))) (ne_eqb (prio x) p e)

  total-past : (x : ℕ) (xs : List ℕ) (k p : ℕ) → prio x < p → total prio (x ∷ xs) k p ≡ total prio xs k p
  total-past x xs zero p h = refl
  total-past x xs (suc k) p h = omega (arith, elsewhere x xs p (λ q. omega arith), total-past x xs k (p + 1) (omega arith))

  total-more : (x : ℕ) (xs : List ℕ) (k p : ℕ) → p ≤ prio x → prio x < p + k → total prio (x ∷ xs) k p ≡ suc (total prio xs k p)
  total-more x xs zero p h q = absurd (omega arith)
  total-more x xs (suc k) p h q = go (ℕ_discrete (prio x) p) (λ r. total-more x xs k (p + 1) (omega arith) (omega arith))
    where
      go : Dec (prio x ≡ p) → ((prio x ≡ p → ⊥) → total prio (x ∷ xs) k (p + 1) ≡ suc (total prio xs k (p + 1))) → total prio (x ∷ xs) (suc k) p ≡ suc (total prio xs (suc k) p)
      go (yes e) ih = omega (arith, here x xs p e, total-past x xs k (p + 1) (omega arith))
      go (no e) ih = omega (arith, elsewhere x xs p e, ih e)

  pub total-is : (xs : List ℕ) (k p : ℕ) → ((y : ℕ) → Mem y xs → (p ≤ prio y) × (prio y < p + k)) → total prio xs k p ≡ length xs
  total-is [] k p h = total-none k p
  total-is (x ∷ xs) k p h =
      total-more x xs k p (h x (inl refl)).0 (h x (inl refl)).1 ∙ ap suc (total-is xs k p (λ y m. h y (inr m)))

pub ready-number : (x : Status) → eqb (status_number x) 2 ≡ is_ready x
ready-number running = refl
ready-number ready = refl
ready-number (waiting y) = refl
ready-number (exited n) = refl

flag_is : (n : ℕ) → flag n ≡ some_one n
unfolding flag
flag_is zero = refl
flag_is (suc n) = ap (λ (b : Bool). cond b 0 1) (ne_eqb (suc n) 0 (λ q. omega arith))

module _ (w : List ℕ) (s : State) (a : Agree w s) (v : Form s) where
  abbrev threads : List Thread
  threads = s.dispatcher.threads

  abbrev placed : List ℕ
  placed = s.dispatcher.placed

  abbrev queues : ℕ → List ℕ
  queues p = queues_of threads placed p

  ready-state : (i : ℕ) → 1 ≤ i → i ≤ length threads → has_state w i 2 ≡ member i placed
  ready-state i one le = has-state w s a v i one le 2 ∙ ready-number (status_of s.dispatcher i) ∙ sym (v.sound.standing.placed_ready i)

  has-priority : (i p : ℕ) → 1 ≤ i → i ≤ length threads → priority_of s.dispatcher i ≡ p → has_priority w i p ≡ true
  unfolding has_priority
  has-priority i p one le e = go (eqb p 0)
    where
      go : (b : Bool) → cond b true (eqb (get_or w (at.thread_at i + at.priority) 0) p) ≡ true
      go true = refl
      go false = eq-eqb (get_or w (at.thread_at i + at.priority) 0) p (thread-word-is w s (holder_of s.dispatcher.objects) (active_address s.dpcs.table) a i one le 0 (thread_of s.dispatcher i).priority refl ∙ e)

  queue-size : (p : ℕ) → 1 ≤ p → p ≤ 31 → queue_size w p ≡ length (queues p) + 1
  unfolding queue_size
  queue-size p one le =
      size_is w (ready_chain p) 2 p (queues p) (a.queues.queues p one le) (λ y m. each y (in-queue (priority_of s.dispatcher) placed p y m))
      (omega (arith, standing-length (length threads) (queues p) (standing-keep (length threads) (λ x. eqb (priority_of s.dispatcher x) p) placed a.shape.ready_standing), threads-few w s (holder_of s.dispatcher.objects) (active_address s.dpcs.table) a))
    where
      each : (y : ℕ) → (Mem y placed) × (priority_of s.dispatcher y ≡ p) → (1 ≤ y) × (member_passes w y 2 p ≡ true)
      each y (m, e) =
          let h = a.shape.ready_standing.within y m in
          (h.0, member-passes w s a v y 2 p h.0 h.1 (ready-state y h.0 h.1 ∙ mem-member y placed m) (has-priority y p h.0 h.1 e))

  bit-passes : (p : ℕ) → 1 ≤ p → p ≤ 31 → bit_passes w p ≡ true
  unfolding bit_passes
  bit-passes p one le =
      eq-eqb (bit_at (get_or w at.ready 0) p) (flag (get_or w (ready_chain p).last 0))
      (a.queues.bits p one le ∙ sym (flag_is (last_from 0 (queues p))) ∙ ap flag (sym (a.queues.queues p one le).last))

  queues-in : (k p m : ℕ) → 1 ≤ p → p + k ≤ 32 → queues_in k w p m ≡ m + total (priority_of s.dispatcher) placed k p
  unfolding queues_in
  queues-in zero p m one le = omega arith
  queues-in (suc k) p m one le =
      ap (λ (b : Bool). cond b 0 (cond (bit_passes w p) (queues_in k w (p + 1) (m + (queue_size w p - 1))) 0))
      (ne_eqb (queue_size w p) 0 (λ q. omega (arith, q, queue-size p one (omega arith))))
      ∙ ap (λ (b : Bool). cond b (queues_in k w (p + 1) (m + (queue_size w p - 1))) 0) (bit-passes p one (omega arith))
      ∙ queues-in k (p + 1) (m + (queue_size w p - 1)) (omega arith) (omega arith)
      ∙ (let z : m + (queue_size w p - 1) + total (priority_of s.dispatcher) placed k (p + 1) ≡ m + (length (queues p) + total (priority_of s.dispatcher) placed k (p + 1))
      = omega (arith, queue-size p one (omega arith)) in z)

  priorities : (y : ℕ) → Mem y placed → (1 ≤ priority_of s.dispatcher y) × (priority_of s.dispatcher y < 32)
  priorities y m =
      let h = a.shape.ready_standing.within y m in
      let p = v.sound.priorities y h.0 h.1 in
      (p.0, omega (arith, p.1))

  pub ready-stand-once : ready_stand_once w ≡ true
  unfolding ready_stand_once ready_size
  ready-stand-once =
      eq-eqb (queues_in 31 w 1 1) (state_count w 2 + 1)
      (queues-in 31 1 1 (omega arith) (omega arith)
      ∙ ap (λ (m : ℕ). 1 + m) (total-is (priority_of s.dispatcher) placed 31 1 priorities)
      ∙ (let z : 1 + length placed ≡ state_count w 2 + 1 = omega (arith, state-count w s a v 2 placed a.shape.ready_standing ready-state) in z))
