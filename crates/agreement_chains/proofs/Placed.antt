-- The ready queues of one list of placed threads, told apart by priority: a thread placed last, and one taken out.
use Prim.Native.Nat.{ℕ, ◌≤◌}
use mathlib.Core.List.{List, [], ◌∷◌, ◌++◌, append-nil}
use mathlib.Core.Bool.{Bool, true, false, cond, not}
use mathlib.Core.Path.{◌≡◌, refl, sym, ap, ◌∙◌}
use mathlib.Core.Logic.{inl, inr}
use borrow.Author.Tests.{eq-eqb, ne_eqb, eqb-true}
use lib.Dec.{eqb}
use lib.ListN.{length}
use Rattle.chains.specs.Ready.{placed_last, unplaced}
use Rattle.model.specs.Lists.{Mem, keep, without}
use Rattle.model.proofs.ListLaws.{keep-yes, keep-no, keep-mem, mem-keep, without-absent}
use Rattle.agreement_chains.specs.Chains.{Standing, Same}
use Rattle.agreement_chains.specs.Ready.{ReadyQueues, Sorted, Room, ReadyPlace, by_priority}
use Rattle.agreement_chains.proofs.Frames.{own-place}
use Rattle.agreement_chains.proofs.ChainLaws.{standing-keep}
use Rattle.agreement_chains.proofs.ReadyLaws.{ready-lists, placed-outside, ready-placed, unplaced-outside, ready-unplaced, standing-more}

-- ---- `keep`

pub keep_append : (f : ℕ → Bool) (xs ys : List ℕ) → keep f (xs ++ ys) ≡ keep f xs ++ keep f ys
keep_append f [] ys = refl
keep_append f (x ∷ xs) ys = go (f x) (keep_append f xs ys)
  where
    go : (b : Bool) → keep f (xs ++ ys) ≡ keep f xs ++ keep f ys
        → cond b (x ∷ keep f (xs ++ ys)) (keep f (xs ++ ys)) ≡ cond b (x ∷ keep f xs) (keep f xs) ++ keep f ys
    go true e = ap (λ (l : List ℕ). x ∷ l) e
    go false e = e

-- tests that agree on the list keep the same
pub keep_same : (f g : ℕ → Bool) (l : List ℕ) → ((y : ℕ) → Mem y l → f y ≡ g y) → keep f l ≡ keep g l
keep_same f g [] h = refl
keep_same f g (x ∷ xs) h =
    ap (λ (b : Bool). cond b (x ∷ keep f xs) (keep f xs)) (h x (inl refl))
    ∙ ap (λ (l : List ℕ). cond (g x) (x ∷ l) l) (keep_same f g xs (λ y m. h y (inr m)))

-- two tests one after the other, in either order
pub keep-keep : (f g : ℕ → Bool) (l : List ℕ) → keep f (keep g l) ≡ keep g (keep f l)
keep-keep f g [] = refl
keep-keep f g (x ∷ xs) = go (f x) (g x) refl refl (keep-keep f g xs)
  where
    go : (a b : Bool) → f x ≡ a → g x ≡ b → keep f (keep g xs) ≡ keep g (keep f xs)
        → keep f (cond b (x ∷ keep g xs) (keep g xs)) ≡ keep g (cond a (x ∷ keep f xs) (keep f xs))
    go true true p q e = keep-yes f x (keep g xs) p ∙ ap (λ (l : List ℕ). x ∷ l) e ∙ sym (keep-yes g x (keep f xs) q)
    go true false p q e = e ∙ sym (keep-no g x (keep f xs) q)
    go false true p q e = keep-no f x (keep g xs) p ∙ e
    go false false p q e = e

-- ---- who stands in a queue

-- it is placed, and has the priority
pub in-queue : (prio : ℕ → ℕ) (placed : List ℕ) (p y : ℕ) → Mem y (by_priority prio placed p) → (Mem y placed) × (prio y ≡ p)
in-queue prio placed p y m = let h = mem-keep (λ x. eqb (prio x) p) y placed m in (h.0, eqb-true (prio y) p h.1)

pub queue-in : (prio : ℕ → ℕ) (placed : List ℕ) (p y : ℕ) → Mem y placed → prio y ≡ p → Mem y (by_priority prio placed p)
queue-in prio placed p y m e = keep-mem (λ x. eqb (prio x) p) y placed m (eq-eqb (prio y) p e)

pub sorted_of : (n : ℕ) (prio : ℕ → ℕ) (placed : List ℕ) → Standing n placed → Sorted n (by_priority prio placed)
sorted_of n prio placed st = record {
  standing = λ p. standing-keep n (λ x. eqb (prio x) p) placed st;
  apart = λ p q y a b. sym (in-queue prio placed p y a).1 ∙ (in-queue prio placed q y b).1;
}

same-queues : (f g : ℕ → ℕ) (placed : List ℕ) → ((y : ℕ) → Mem y placed → f y ≡ g y) → (p : ℕ) → by_priority f placed p ≡ by_priority g placed p
same-queues f g placed e p = keep_same (λ x. eqb (f x) p) (λ x. eqb (g x) p) placed (λ y m. ap (λ (k : ℕ). eqb k p) (e y m))

-- the priorities of placed threads are all that matters
pub ready-priorities : (w : List ℕ) (f g : ℕ → ℕ) (placed : List ℕ) → ((y : ℕ) → Mem y placed → f y ≡ g y)
    → ReadyQueues w (by_priority f placed) → ReadyQueues w (by_priority g placed)
ready-priorities w f g placed e = ready-lists w (by_priority f placed) (by_priority g placed) (same-queues f g placed e)

module _ (n : ℕ) (w : List ℕ) (prio : ℕ → ℕ) (placed : List ℕ) (room : Room n (length w)) (st : Standing n placed)
    (r : ReadyQueues w (by_priority prio placed)) (p id : ℕ) (hp : 1 ≤ p) (kp : p ≤ 31) where
  -- ---- placed last, where it may have another priority by now
  module _ (one : 1 ≤ id) (le : id ≤ n) (absent : Mem id placed → ⊥) where
    not-queued : (q : ℕ) → Mem id (by_priority prio placed q) → ⊥
    not-queued q m = absent (in-queue prio placed q id m).0

    pub placed-last : (prio' : ℕ → ℕ) → prio' id ≡ p → ((y : ℕ) → Mem y placed → prio' y ≡ prio y) → ReadyQueues (placed_last w p id) (by_priority prio' (placed ++ (id ∷ [])))
    placed-last prio' own same =
        ready-placed n w (by_priority prio placed) room (sorted_of n prio placed st) r p id hp kp one le not-queued (by_priority prio' (placed ++ (id ∷ [])))
        (keep_append (λ x. eqb (prio' x) p) placed (id ∷ []) ∙ ap (λ (l : List ℕ). l ++ keep (λ x. eqb (prio' x) p) (id ∷ [])) (same-queues prio' prio placed same p)
        ∙ ap (λ (l : List ℕ). by_priority prio placed p ++ l) (keep-yes (λ x. eqb (prio' x) p) id [] (eq-eqb (prio' id) p own)))
        (λ q ne. keep_append (λ x. eqb (prio' x) q) placed (id ∷ []) ∙ ap (λ (l : List ℕ). l ++ keep (λ x. eqb (prio' x) q) (id ∷ [])) (same-queues prio' prio placed same q)
        ∙ ap (λ (l : List ℕ). by_priority prio placed q ++ l) (keep-no (λ x. eqb (prio' x) q) id [] (ne_eqb (prio' id) q (λ e. ne (sym e ∙ own))))
        ∙ append-nil (by_priority prio placed q))

    -- it writes places of the ready queues
    pub placed-frame : (R : ℕ → Type 0) → ((j : ℕ) → ReadyPlace n j → R j → ⊥) → Same R w (placed_last w p id)
    placed-frame R out =
        let sorted = sorted_of n prio placed st in
        placed-outside n w (by_priority prio placed) room sorted r p id hp kp one le not-queued R (out _ (inl refl))
        (λ j own. out j (inr (p, hp, kp, own-place n (id ∷ by_priority prio placed p) (standing-more n w (by_priority prio placed) room sorted r p id hp kp one le not-queued) _ j own)))

  -- ---- taken out

  module _ (present : Mem id placed) (own : prio id ≡ p) where
    queued : Mem id (by_priority prio placed p)
    queued = queue-in prio placed p id present own

    pub taken_out : ReadyQueues (unplaced w p id) (by_priority prio (without id placed))
    taken_out =
        ready-unplaced n w (by_priority prio placed) room (sorted_of n prio placed st) r p id hp kp queued (by_priority prio (without id placed))
        (keep-keep (λ x. eqb (prio x) p) (λ x. not (eqb x id)) placed)
        (λ q ne. keep-keep (λ x. eqb (prio x) q) (λ x. not (eqb x id)) placed
        ∙ without-absent id (by_priority prio placed q) (λ m. ne (sym (in-queue prio placed q id m).1 ∙ own)))

    pub taken-frame : (R : ℕ → Type 0) → ((j : ℕ) → ReadyPlace n j → R j → ⊥) → Same R w (unplaced w p id)
    taken-frame R out =
        let sorted = sorted_of n prio placed st in
        unplaced-outside n w (by_priority prio placed) room sorted r p id hp kp queued R (out _ (inl refl))
        (λ j place. out j (inr (p, hp, kp, own-place n (by_priority prio placed p) (sorted.standing p) _ j place)))
