-- The ready queues of words in form hold the ready threads once, and the list of all of them sorts into the queues.
use Prim.Native.Nat.{ℕ, zero, suc, ◌+◌, ◌≤◌, ◌<◌}
use mathlib.Core.List.{List, [], ◌∷◌, ◌++◌}
use mathlib.Core.Bool.{Bool, true, false}
use mathlib.Core.Path.{◌≡◌, refl, sym, ap, ◌∙◌, subst}
use mathlib.Core.Logic.{◌⊎◌, inl, inr}
use native.Mathlib.Omega.{arith}
use native.Mathlib.Decide.{ℕ_discrete}
use borrow.Author.Tests.{eq-eqb, ne_eqb, eqb-true}
use lib.ListN.{get_or, length}
use lib.Dec.{eqb}
use Rattle.words.specs.Layout as at
use Rattle.chains.specs.Ready.{ready_chain}
use Rattle.form_threads.specs.Thread.{has_state, state_count}
use Rattle.form_chains.specs.Chain.{queue_size, queues_in, ready_size, ready_stand_once}
use Rattle.model.specs.Lists.{Mem, Distinct, member, keep}
use Rattle.model.specs.Threads.{thread_at}
use Rattle.model.proofs.ListLaws.{mem-append, keep-yes, keep-no}
use Rattle.agreement_chains.specs.Chains.{Standing, Holds, last_from}
use Rattle.agreement_chains.specs.Ready.{some_one, ReadyQueues}
use Rattle.agreement_chains.proofs.Placed.{keep_append}
use Rattle.agreement.specs.Chains.{queues_of}
use Rattle.agreement_form.specs.Decoded.{chain_of, ready_to, threads_of}
use Rattle.agreement_form.proofs.HeaderForm.{Counted}
use Rattle.agreement_form.proofs.Members.{Member, state-exact}
use Rattle.agreement_form.proofs.ReadyQueue.{QueueIs, sizes, queues-each, sizes-last, queue-holds, queue-member, queue-once, queue-length, queue-priority, queue-bit}

keep_all : (f : ℕ → Bool) (l : List ℕ) → ((y : ℕ) → Mem y l → f y ≡ true) → keep f l ≡ l
keep_all f [] h = refl
keep_all f (x ∷ l) h = keep-yes f x l (h x (inl refl)) ∙ ap (λ (k : List ℕ). x ∷ k) (keep_all f l (λ y m. h y (inr m)))

keep-none : (f : ℕ → Bool) (l : List ℕ) → ((y : ℕ) → Mem y l → f y ≡ false) → keep f l ≡ []
keep-none f [] h = refl
keep-none f (x ∷ l) h = keep-no f x l (h x (inl refl)) ∙ keep-none f l (λ y m. h y (inr m))

append-none : (l : List ℕ) → l ++ [] ≡ l
append-none [] = refl
append-none (x ∷ l) = ap (λ (k : List ℕ). x ∷ k) (append-none l)

length-append : (k l : List ℕ) → length (k ++ l) ≡ length k + length l
length-append [] l = (let z : length l ≡ 0 + length l = omega arith in z)
length-append (x ∷ k) l = omega (arith, length-append k l)

distinct_append : (k l : List ℕ) → Distinct k → Distinct l → ((y : ℕ) → Mem y k → Mem y l → ⊥) → Distinct (k ++ l)
distinct_append [] l a b h = b
distinct_append (x ∷ k) l a b h = (
  (λ m. go (mem-append x k l m)),
  distinct_append k l a.1 b (λ y m n. h y (inr m) n),
)
  where
    go : Mem x k ⊎ Mem x l → ⊥
    go (inl m) = a.0 m
    go (inr m) = h x (inl refl) m

module _ (w : List ℕ) (c : Counted w) (is : (q : ℕ) → 1 ≤ q → q < 32 → QueueIs w q) where
  abbrev priority : ℕ → ℕ
  priority y = (thread_at (threads_of w) y).priority

  -- a member of the list of the priorities up to `p`
  low : (p y : ℕ) → p < 32 → Mem y (ready_to w p) → (priority y ≤ p) × (Member w y 2 (priority y))
  unfolding ready_to
  low zero y h m = absurd m
  low (suc p) y h m = go (mem-append y (chain_of w 4096 (ready_chain (suc p))) (ready_to w p) m) (low p y (omega arith))
    where
      go : Mem y (chain_of w 4096 (ready_chain (suc p))) ⊎ Mem y (ready_to w p) → (Mem y (ready_to w p) → (priority y ≤ p) × (Member w y 2 (priority y))) → (priority y ≤ suc p) × (Member w y 2 (priority y))
      go (inl k) ih =
          let q = is (suc p) (omega arith) h in
          let e = queue-priority w (suc p) q (omega arith) c y k in
          (omega (arith, e), subst (Member w y 2) (sym e) (queue-member w (suc p) q (omega arith) y k))
      go (inr k) ih = (omega (arith, (ih k).0), (ih k).1)

  once : (p : ℕ) → p < 32 → Distinct (ready_to w p)
  unfolding ready_to
  once zero h = tt
  once (suc p) h =
      let q = is (suc p) (omega arith) h in
      distinct_append (chain_of w 4096 (ready_chain (suc p))) (ready_to w p) (queue-once w (suc p) q (omega arith)) (once p (omega arith))
      (λ y m n. omega (arith, queue-priority w (suc p) q (omega arith) c y m, (low p y (omega arith) n).0))

  above : (p q : ℕ) → q < p → q < 32 → keep (λ x. eqb (priority x) p) (ready_to w q) ≡ []
  above p q h k = keep-none (λ x. eqb (priority x) p) (ready_to w q) (λ y m. ne_eqb (priority y) p (λ e. omega (arith, e, (low q y k m).0)))

  pub sorts : (p q : ℕ) → 1 ≤ p → p ≤ q → q < 32 → keep (λ x. eqb (priority x) p) (ready_to w q) ≡ chain_of w 4096 (ready_chain p)
  unfolding ready_to
  sorts p zero one le h = absurd (omega arith)
  sorts p (suc q) one le h = go (ℕ_discrete p (suc q)) (λ r. sorts p q one (omega arith) (omega arith))
    where
      f : ℕ → Bool
      f x = eqb (priority x) p

      top : List ℕ
      top = chain_of w 4096 (ready_chain (suc q))

      here : (y : ℕ) → Mem y top → priority y ≡ suc q
      here y m = queue-priority w (suc q) (is (suc q) (omega arith) h) (omega arith) c y m

      go : Dec (p ≡ suc q) → ((p ≡ suc q → ⊥) → keep (λ x. eqb (priority x) p) (ready_to w q) ≡ chain_of w 4096 (ready_chain p)) → keep f (top ++ ready_to w q) ≡ chain_of w 4096 (ready_chain p)
      go (yes e) ih =
          keep_append f top (ready_to w q)
          ∙ ap (λ (l : List ℕ). l ++ keep f (ready_to w q)) (keep_all f top (λ y m. eq-eqb (priority y) p (here y m ∙ sym e)))
          ∙ ap (λ (l : List ℕ). top ++ l) (above p q (omega (arith, e)) (omega arith)) ∙ append-none top
          ∙ ap (λ (n : ℕ). chain_of w 4096 (ready_chain n)) (sym e)
      go (no e) ih =
          keep_append f top (ready_to w q)
          ∙ ap (λ (l : List ℕ). l ++ keep f (ready_to w q)) (keep-none f top (λ y m. ne_eqb (priority y) p (λ z. e (sym z ∙ here y m))))
          ∙ ih e

  long : (p : ℕ) → p < 32 → length (ready_to w p) ≡ sizes w p 1
  unfolding ready_to sizes
  long zero h = refl
  long (suc p) h =
      let e = ap (queue_size w) (let z : 1 + p ≡ suc p = omega arith in z) in
      omega (arith, length-append (chain_of w 4096 (ready_chain (suc p))) (ready_to w p), long p (omega arith), queue-length w (suc p) (is (suc p) (omega arith) h) (omega arith), sizes-last w p 1, e)

  pub ready-queues : ReadyQueues w (queues_of (threads_of w) (ready_to w 31))
  ready-queues =
      record {
        small = c.ready-small;
        no_zero = c.no_zero;
        bits = λ p a b. queue-bit w p (is p a (omega arith)) a ∙ ap (λ (l : List ℕ). some_one (last_from 0 l)) (sym (sorts p 31 a b (omega arith)));
        queues = λ p a b. subst (Holds w (ready_chain p)) (sym (sorts p 31 a b (omega arith))) (queue-holds w p (is p a (omega arith)) a);
      }

-- ---- the ready threads

pub record ReadyForm (w : List ℕ) : Type 0 where
  pub queues : ReadyQueues w (queues_of (threads_of w) (ready_to w 31))
  pub standing : Standing (get_or w at.threads 0) (ready_to w 31)
  pub exact : (y : ℕ) → 1 ≤ y → y ≤ get_or w at.threads 0 → has_state w y 2 ≡ member y (ready_to w 31)

pub ready-form : (w : List ℕ) → Counted w → ready_stand_once w ≡ true → ReadyForm w
unfolding ready_stand_once ready_size
ready-form w c e =
    record {
      queues = ready-queues w c is;
      standing = standing;
      exact = state-exact w c 2 (ready_to w 31) standing (λ y m. (low w c is 31 y (omega arith) m).1.state-is) (omega (arith, long w c is 31 (omega arith), size, walk.1));
    }
  where
    size : queues_in 31 w 1 1 ≡ state_count w 2 + 1
    size = eqb-true (queues_in 31 w 1 1) (state_count w 2 + 1) e

    walk : ((q : ℕ) → 1 ≤ q → q < 1 + 31 → QueueIs w q) × (queues_in 31 w 1 1 ≡ 1 + sizes w 31 1)
    walk = queues-each w 31 1 1 (λ q. omega (arith, q, size))

    is : (q : ℕ) → 1 ≤ q → q < 32 → QueueIs w q
    is = walk.0

    standing : Standing (get_or w at.threads 0) (ready_to w 31)
    standing = record {
      within = λ y m. let k = (low w c is 31 y (omega arith) m).1 in (k.one, k.le);
      once = once w c is 31 (omega arith);
    }
