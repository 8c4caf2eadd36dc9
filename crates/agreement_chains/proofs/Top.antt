-- The top bit of the ready word is the highest priority of a ready thread, 0 where there is none, and the first of its queue is the one to run.
use Prim.Native.Nat.{ℕ, ◌≤◌, ◌<◌}
use mathlib.Core.List.{List, [], ◌∷◌}
use mathlib.Core.Path.{◌≡◌, refl, sym, ap, ◌∙◌, subst}
use mathlib.Core.Logic.{◌⊎◌, inl, inr}
use native.Mathlib.Omega.{arith}
use native.Mathlib.Decide.{ℕ_discrete, dec_le}
use lib.ListN.{get_or}
use Rattle.words.specs.Word.{top_bit}
use Rattle.words.specs.Layout as at
use Rattle.words.proofs.ReadyWord.{Top, top-bit}
use Rattle.chains.specs.Chain.{first_of}
use Rattle.chains.specs.Ready.{ready_chain}
use Rattle.model.specs.Lists.{Mem, first, largest}
use Rattle.model.proofs.ListLaws.{largest-above, largest-reached}
use Rattle.agreement_chains.specs.Chains.{last_from}
use Rattle.agreement_chains.specs.Ready.{some_one, ReadyQueues, by_priority}
use Rattle.agreement_chains.proofs.Links.{last_mem}
use Rattle.agreement_chains.proofs.Frames.{first-is}
use Rattle.agreement_chains.proofs.Marks.{some_one_lem}
use Rattle.agreement_chains.proofs.Placed.{in-queue, queue-in}

-- ---- a list with a member, by its last

pub some-member : (l : List ℕ) → some_one (last_from 0 l) ≡ 1 → (y : ℕ) × Mem y l
some-member [] e = let z : ◌≡◌ {A = ℕ} 0 1 = e in absurd (omega arith)
some-member (x ∷ xs) e = (x, inl refl)

pub member-some : (l : List ℕ) (y : ℕ) → Mem y l → ((z : ℕ) → Mem z l → 1 ≤ z) → some_one (last_from 0 l) ≡ 1
member-some [] y m pos = absurd m
member-some (x ∷ xs) y m pos = some_one_lem (last_from x xs) (pos (last_from x xs) (last_mem x xs))

pub none-member : (l : List ℕ) → ((z : ℕ) → Mem z l → 1 ≤ z) → some_one (last_from 0 l) ≡ 0 → l ≡ []
none-member [] pos e = refl
none-member (x ∷ xs) pos e =
    let z : ◌≡◌ {A = ℕ} 0 1 = sym e ∙ member-some (x ∷ xs) x (inl refl) pos in absurd (omega arith)

-- ---- any lists

-- the highest list with a member, of lists 1 to 31; 0 where all are empty
pub record Highest (lists : ℕ → List ℕ) (t : ℕ) : Type 0 where
  pub small : t ≤ 31
  pub above : (q : ℕ) → t < q → q ≤ 31 → lists q ≡ []
  pub one_in : 1 ≤ t → (y : ℕ) × Mem y (lists t)

pub top-highest : (w : List ℕ) (lists : ℕ → List ℕ) → ((p y : ℕ) → Mem y (lists p) → 1 ≤ y) → ReadyQueues w lists → Highest lists (top_bit (get_or w at.ready 0))
top-highest w lists pos r =
    let t : ℕ = top_bit (get_or w at.ready 0) in
    let top : Top (get_or w at.ready 0) t = top-bit (get_or w at.ready 0) r.small in
    record {
      small = top.small;
      above = λ q l k. none-member (lists q) (pos q) (sym (r.bits q (omega (arith, l)) k) ∙ top.above q l);
      one_in = λ o. some-member (lists t) (sym (r.bits t o top.small) ∙ top.is_set o);
    }

-- ---- one list of placed threads, told apart by priority

module _ (w : List ℕ) (prio : ℕ → ℕ) (placed : List ℕ) (pos : (y : ℕ) → Mem y placed → 1 ≤ y)
    (range : (y : ℕ) → Mem y placed → (1 ≤ prio y) × (prio y ≤ 31)) (r : ReadyQueues w (by_priority prio placed)) where
  t : ℕ
  t = top_bit (get_or w at.ready 0)

  top : Highest (by_priority prio placed) t
  unfolding t
  top = top-highest w (by_priority prio placed) (λ p y m. pos y (in-queue prio placed p y m).0) r

  -- a priority with a ready thread is not above the largest
  top-le : t ≤ largest prio placed
  top-le = go (ℕ_discrete t 0)
    where
      go : Dec (t ≡ 0) → t ≤ largest prio placed
      go (yes e) = omega arith
      go (no n) =
          let f = top.one_in (omega (arith, n)) in
          let q = in-queue prio placed t f.0 f.1 in omega (arith, largest-above prio f.0 placed q.0, q.1)

  -- one of the largest priority, unless none is placed
  reached : (l : List ℕ) → placed ≡ l → (placed ≡ []) ⊎ ((y : ℕ) × (Mem y placed) × (prio y ≡ largest prio placed))
  reached [] e = inl e
  reached (x ∷ xs) e = inr (subst (λ (l : List ℕ). (y : ℕ) × (Mem y l) × (prio y ≡ largest prio l)) (sym e) (largest-reached prio x xs))

  -- the largest has a ready thread, so it is not above the top
  top-ge : largest prio placed ≤ t
  top-ge = go (reached placed refl)
    where
      go : (placed ≡ []) ⊎ ((y : ℕ) × (Mem y placed) × (prio y ≡ largest prio placed)) → largest prio placed ≤ t
      go (inl e) = omega (arith, ap (largest prio) e)
      go (inr f) = elim (dec_le (largest prio placed) t) [
        | yes h ↦ h
        | no n ↦
            let empty : by_priority prio placed (largest prio placed) ≡ [] = top.above (largest prio placed) (omega (arith, n)) (omega (arith, range f.0 f.1, f.2)) in
            absurd (subst (Mem f.0) empty (queue-in prio placed (largest prio placed) f.0 f.1 f.2))
      ]

  pub top-is : top_bit (get_or w at.ready 0) ≡ largest prio placed
  unfolding t
  top-is = omega (arith, top-le, top-ge)

  -- 0 says that none is ready
  pub none-ready : largest prio placed ≡ 0 → placed ≡ []
  none-ready e = go (reached placed refl)
    where
      go : (placed ≡ []) ⊎ ((y : ℕ) × (Mem y placed) × (prio y ≡ largest prio placed)) → placed ≡ []
      go (inl n) = n
      go (inr f) = absurd (omega (arith, range f.0 f.1, f.2))

  -- else the first of the highest queue stands first in its chain, and is a thread
  pub some-ready : (largest prio placed ≡ 0 → ⊥)
      → (first_of w (ready_chain (largest prio placed)) ≡ first (by_priority prio placed (largest prio placed))) × (1 ≤ first (by_priority prio placed (largest prio placed)))
  some-ready n = go (reached placed refl)
    where
      positive : (l : List ℕ) (y : ℕ) → Mem y l → ((z : ℕ) → Mem z l → 1 ≤ z) → 1 ≤ first l
      positive [] y m h = absurd m
      positive (x ∷ xs) y m h = h x (inl refl)

      go : (placed ≡ []) ⊎ ((y : ℕ) × (Mem y placed) × (prio y ≡ largest prio placed))
          → (first_of w (ready_chain (largest prio placed)) ≡ first (by_priority prio placed (largest prio placed))) × (1 ≤ first (by_priority prio placed (largest prio placed)))
      go (inl e) = absurd (n (ap (largest prio) e))
      go (inr f) =
          let p : ℕ = largest prio placed in
          let k = range f.0 f.1 in (
            first-is w (ready_chain p) (by_priority prio placed p) (r.queues p (omega (arith, k.0, f.2)) (omega (arith, k.1, f.2))),
            positive (by_priority prio placed p) f.0 (queue-in prio placed p f.0 f.1 f.2) (λ z m. pos z (in-queue prio placed p z m).0),
          )
