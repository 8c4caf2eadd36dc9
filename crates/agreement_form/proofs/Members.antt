-- The waiters' chain of words in form holds the waiting threads once.
use Prim.Native.Nat.{ℕ, ◌+◌, ◌≤◌}
use mathlib.Core.List.{List}
use mathlib.Core.Bool.{cond, true, false}
use mathlib.Core.Path.{◌≡◌, sym, ap, ◌∙◌}
use native.Mathlib.Omega.{arith}
use borrow.Author.Tests.{eqb-true, leb-true, ltb-false}
use lib.ListN.{get_or, length}
use lib.Dec.{leb, ltb}
use Rattle.words.specs.Layout as at
use Rattle.chains.specs.Ready.{waiters_chain}
use Rattle.threads.specs.Thread.{known}
use Rattle.form_threads.specs.Thread.{has_state, state_count_in, state_count}
use Rattle.form_chains.specs.Chain.{has_priority, member_passes, chain_size, waiters_stand_once}
use Rattle.model.specs.Lists.{Mem, member}
use Rattle.agreement_chains.specs.Chains.{Holds, Standing}
use Rattle.agreement_form.specs.Decoded.{chain_of}
use Rattle.agreement_form.proofs.Clauses.{both, not_first}
use Rattle.agreement_form.proofs.Tally.{tally-exact}
use Rattle.agreement_form.proofs.Waiters.{state-tally}
use Rattle.agreement_form.proofs.HeaderForm.{Counted, thread-count}
use Rattle.agreement_form.proofs.ChainForm.{Walked, walked_once, chain-walk}

-- ---- members

pub known-form : (w : List ℕ) (id : ℕ) → known w id ≡ true → (1 ≤ id) × (id ≤ get_or w at.threads 0)
unfolding known
known-form w id e =
    let h = not_first (ltb id 1) (leb id (get_or w at.threads 0)) e in
    (ltb-false id 1 h.0, leb-true id (get_or w at.threads 0) h.1)

pub record Member (w : List ℕ) (id state p : ℕ) : Type 0 where
  pub one : 1 ≤ id
  pub le : id ≤ get_or w at.threads 0
  pub state-is : has_state w id state ≡ true
  pub priority-is : has_priority w id p ≡ true

pub member-form : (w : List ℕ) (id state p : ℕ) → member_passes w id state p ≡ true → Member w id state p
unfolding member_passes
member-form w id state p e =
    let a = both (known w id) (cond (has_state w id state) (has_priority w id p) false) e in
    let b = both (has_state w id state) (has_priority w id p) a.1 in
    record { one = (known-form w id a.0).0; le = (known-form w id a.0).1; state-is = b.0; priority-is = b.1 }

-- ---- a list without repeats of threads of a state, as long as they are many, has all of them

pub state-exact : (w : List ℕ) → Counted w → (state : ℕ) (xs : List ℕ) → Standing (get_or w at.threads 0) xs → ((y : ℕ) → Mem y xs → has_state w y state ≡ true) → state_count w state ≡ length xs
    → (y : ℕ) → 1 ≤ y → y ≤ get_or w at.threads 0 → has_state w y state ≡ member y xs
unfolding state_count
state-exact w c state xs st h e y one le =
    tally-exact (λ i. has_state w i state) (get_or w at.threads 0) 1 xs st.once (λ z m. ((st.within z m).0, omega (arith, (st.within z m).1))) h
    (sym (state-tally w state (get_or w at.threads 0) 1) ∙ ap (λ (m : ℕ). state_count_in m w 1 state) (sym (thread-count w c)) ∙ e) y one (omega arith)

-- ---- the waiters

pub record WaitersForm (w : List ℕ) : Type 0 where
  pub holds : Holds w waiters_chain (chain_of w 4096 waiters_chain)
  pub standing : Standing (get_or w at.threads 0) (chain_of w 4096 waiters_chain)
  pub exact : (y : ℕ) → 1 ≤ y → y ≤ get_or w at.threads 0 → has_state w y 3 ≡ member y (chain_of w 4096 waiters_chain)

pub waiters-form : (w : List ℕ) → Counted w → waiters_stand_once w ≡ true → WaitersForm w
unfolding waiters_stand_once
waiters-form w c e =
    record {
      holds = record { chain = walk.links; last = walk.last };
      standing = standing;
      exact = state-exact w c 3 xs standing (λ y m. (of y m).state-is) (omega (arith, size, walk.counts));
    }
  where
    xs : List ℕ
    xs = chain_of w 4096 waiters_chain

    size : chain_size w waiters_chain 3 0 ≡ state_count w 3 + 1
    size = eqb-true (chain_size w waiters_chain 3 0) (state_count w 3 + 1) e

    walk : Walked w waiters_chain (λ y. member_passes w y 3 0) 0 xs 1 (chain_size w waiters_chain 3 0)
    walk = chain-walk w waiters_chain 3 0 (λ q. omega (arith, q, size))

    of : (y : ℕ) → Mem y xs → Member w y 3 0
    of y m = member-form w y 3 0 (walk.each-passes y m).1

    standing : Standing (get_or w at.threads 0) xs
    standing = record { within = λ y m. ((of y m).one, (of y m).le); once = walked_once w waiters_chain (λ y. member_passes w y 3 0) 0 1 (chain_size w waiters_chain 3 0) xs walk }
