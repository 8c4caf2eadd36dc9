-- Words in which every number of a thread or a DPC that a call goes by is one that the limits allow; and the steps that keep the rest.
use Prim.Native.Nat.{ℕ, zero, suc, ◌+◌, ◌≤◌, ◌<◌}
use mathlib.Core.List.{List, [], ◌∷◌}
use mathlib.Core.Bool.{Bool, true, false, cond}
use mathlib.Core.Logic.{inl, inr}
use mathlib.Core.Path.{◌≡◌, refl, sym, ap, ◌∙◌, subst}
use native.Mathlib.Omega.{arith}
use lib.Dec.{eqb, leb}
use lib.ListN.{get_or, set}
use Rattle.words.specs.Layout as at
use Rattle.chains.specs.declared.Chain.{Chain}
use Rattle.chains.specs.Chain.{link_at, first_of, next_of, unlinked, before_in, find_before, removed}
use Rattle.chains.specs.Ready.{ready_chain, marked, placed_last, unplaced}
use Rattle.threads.specs.declared.Thread as stored
use Rattle.threads.specs.Thread.{thread_of, put_thread}
use Rattle.wakes.specs.Wake.{made_ready}
use Rattle.model.specs.Lists.{Mem}
use Rattle.model.specs.State.{Limits}
use Rattle.agreement_chains.specs.Chains.{Same, Linked, last_from}
use Rattle.agreement_chains.proofs.Marks.{marked_other, unmarked-other}
use Rattle.agreement.proofs.Threads.{thread-writes}
use Rattle.agreement_past.specs.Past.{Beyond}
use Rattle.agreement_past.proofs.Words.{pushed-kept, unlinked-kept, ready-strung}

-- a word after a store holds what it held, or what is stored
pub set-most : (w : List ℕ) (i v j most : ℕ) → v ≤ most → get_or w j 0 ≤ most → get_or (set w i v) j 0 ≤ most
set-most [] i v j most h k = k
set-most (x ∷ w) zero v zero most h k = h
set-most (x ∷ w) zero v (suc j) most h k = k
set-most (x ∷ w) (suc i) v zero most h k = k
set-most (x ∷ w) (suc i) v (suc j) most h k = set-most w i v j most h k

-- ---- chains whose records are numbers up to `most`

-- behind the records of a chain come its records, or none
next-of : (w : List ℕ) (c : Chain) (before : ℕ) (xs : List ℕ) → Linked w c before xs → (y : ℕ) → Mem y (before ∷ xs) → Mem (next_of w c y) (0 ∷ xs)
unfolding next_of
next-of w c before [] h y (inl e) = inl (ap (λ (z : ℕ). get_or w (link_at c z) 0) e ∙ h)
next-of w c before [] h y (inr m) = elim m [ ]
next-of w c before (x ∷ xs) h y (inl e) = inr (inl (ap (λ (z : ℕ). get_or w (link_at c z) 0) e ∙ h.0))
next-of w c before (x ∷ xs) h y (inr m) = lift (next-of w c x xs h.1 y m)
  where
    lift : Mem (get_or w (link_at c y) 0) (0 ∷ xs) → Mem (get_or w (link_at c y) 0) (0 ∷ x ∷ xs)
    lift (inl e) = inl e
    lift (inr n) = inr (inr n)

-- whoever comes before a record, be it in the chain or not
module _ (w : List ℕ) (c : Chain) (most : ℕ) (xs : List ℕ) (chain : Linked w c 0 xs) (within : (y : ℕ) → Mem y xs → y ≤ most) where
  in-most : (y : ℕ) → Mem y (0 ∷ xs) → y ≤ most
  in-most y (inl e) = omega arith
  in-most y (inr m) = within y m

  before-most : (k before at n : ℕ) → Mem before (0 ∷ xs) → Mem at (0 ∷ xs) → before_in k w c before at n ≤ most
  unfolding before_in
  before-most zero before at n m p = in-most before m
  before-most (suc k) before at n m p = go (eqb at n) (before-most k at (next_of w c at) n p (next-of w c 0 xs chain at p))
    where
      go : (b : Bool) → before_in k w c at (next_of w c at) n ≤ most → cond b before (before_in k w c at (next_of w c at) n) ≤ most
      go true h = in-most before m
      go false h = h

  pub find-most : (id : ℕ) → find_before w c id ≤ most
  unfolding find_before first_of link_at next_of
  find-most id = before-most 4096 0 (get_or w c.first 0) id (inl refl) (next-of w c 0 xs chain 0 (inl refl))

  pub first-most : first_of w c ≤ most
  unfolding first_of link_at next_of
  first-most = in-most (get_or w c.first 0) (next-of w c 0 xs chain 0 (inl refl))

pub last-most : (d most : ℕ) (xs : List ℕ) → d ≤ most → ((y : ℕ) → Mem y xs → y ≤ most) → last_from d xs ≤ most
last-most d most [] h within = h
last-most d most (x ∷ xs) h within = last-most x most xs (within x (inl refl)) (λ y m. within y (inr m))

-- ---- the ready queues

module _ (l : Limits) (w : List ℕ) (p id : ℕ) where
  pub placed-kept : id ≤ l.threads → get_or w (ready_chain p).last 0 ≤ l.threads → Same (Beyond l) w (placed_last w p id)
  unfolding placed_last
  placed-kept h k j r =
      pushed-kept l (ready_chain p) l.threads (ready-strung l p) (marked w p) id h
      (subst (λ (n : ℕ). n ≤ l.threads) (sym (marked_other w p (ready_chain p).last apart)) k) j r
      ∙ marked_other w p j (λ e. omega arith)
    where
      apart : (ready_chain p).last ≡ at.ready → ⊥
      apart = unfold ready_chain in go (leb p 31)
        where
          go : (b : Bool) → (cond {A = Chain} b (record { first = at.ready_first + p; last = at.ready_last + p; link = at.ready_link; stride = at.thread_size }) (record { first = at.ready_first; last = at.ready_last; link = at.ready_link; stride = at.thread_size })).last ≡ at.ready → ⊥
          go true e = omega arith
          go false e = omega arith

  pub unplaced-kept : find_before w (ready_chain p) id ≤ l.threads → Same (Beyond l) w (unplaced w p id)
  unfolding unplaced removed
  unplaced-kept h j r =
      unmarked-other (unlinked w (ready_chain p) (find_before w (ready_chain p) id) id) p j (λ e. omega arith)
      ∙ unlinked-kept l (ready_chain p) l.threads (ready-strung l p) w (find_before w (ready_chain p) id) id h j r

-- a thread's own record, and the header
pub thread-kept : (l : Limits) (w : List ℕ) (id : ℕ) (t : stored.Thread) → id ≤ l.threads → l.threads ≤ at.most_threads → Same (Beyond l) w (put_thread w id t)
thread-kept l w id t h k j r = thread-writes w id t (omega arith) j (λ o. omega (arith, o.here, o.has.small))

pub thread-header : (w : List ℕ) (id : ℕ) (t : stored.Thread) (j : ℕ) → 1 ≤ id → id ≤ at.most_threads → j < at.header_size → get_or (put_thread w id t) j 0 ≡ get_or w j 0
thread-header w id t j one h k = thread-writes w id t h j (λ o. omega (arith, o.here))

-- a thread made ready, whose priority is one of the 31
pub ready-kept : (l : Limits) (w : List ℕ) (id result : ℕ) → 1 ≤ id → id ≤ l.threads → l.threads ≤ at.most_threads → get_or w (ready_chain (thread_of w id).priority).last 0 ≤ l.threads → Same (Beyond l) w (made_ready w id result)
unfolding made_ready
ready-kept l w id result one h k last j r =
    let t = thread_of w id in
    let x : stored.Thread = record { priority = t.priority; state = 2; result = result; status = t.status } in
    placed-kept l (put_thread w id x) t.priority id h
    (subst (λ (n : ℕ). n ≤ l.threads) (sym (thread-header w id x (ready_chain t.priority).last one (omega arith) (ready-strung l t.priority).last)) last) j r
    ∙ thread-kept l w id x h k j r
