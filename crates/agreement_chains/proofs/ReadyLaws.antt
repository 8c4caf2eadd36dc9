-- A thread placed last in a ready queue and one taken out: the queues hold the new lists, and the ready word says which are not empty.
use Prim.Native.Nat.{ℕ, ◌+◌, ◌^◌, ◌≤◌, ◌<◌}
use mathlib.Core.List.{List, [], ◌∷◌, ◌++◌}
use mathlib.Core.Path.{◌≡◌, refl, sym, ap, ◌∙◌, subst}
use mathlib.Core.Logic.{inl, inr}
use native.Mathlib.Omega.{arith}
use native.Mathlib.Decide.{ℕ_discrete}
use lib.ListN.{get_or, length}
use Rattle.words.specs.Word.{bit_at}
use Rattle.words.specs.Layout as at
use Rattle.words.proofs.ReadyWord.{bit-zero}
use Rattle.chains.specs.declared.Chain.{Chain}
use Rattle.chains.specs.Chain.{removed}
use Rattle.chains.specs.Ready.{ready_chain, marked, unmarked, placed_last, unplaced}
use Rattle.model.specs.Lists.{Mem, without}
use Rattle.agreement_chains.specs.Chains.{last_from, Holds, Standing, Same, Own, Apart}
use Rattle.agreement_chains.specs.Ready.{some_one, ReadyQueues, Sorted, Room, ReadyPlace}
use Rattle.agreement_chains.proofs.Links.{last_mem, last_snoc}
use Rattle.agreement_chains.proofs.Frames.{own-place, holds-none, holds-depends, length_removed, pushed-outside}
use Rattle.agreement_chains.proofs.ChainLaws.{standing-out, holds_pushed, holds-removed, removed-outside}
use Rattle.agreement_chains.proofs.Places.{queue_of, ready-is, ready-apart, ready-ready, ready-word}
use Rattle.agreement_chains.proofs.Marks.{some_one_lem, marked_other, unmarked-other, length_marked, Word, marked-word, unmarked-word}

-- ---- the queues depend on their places alone

pub ready-depends : (n : ℕ) (w w' : List ℕ) (lists : ℕ → List ℕ) → Sorted n lists → Same (ReadyPlace n) w w' → ReadyQueues w lists → ReadyQueues w' lists
ready-depends n w w' lists sorted same r =
    let word : get_or w' at.ready 0 ≡ get_or w at.ready 0 = same at.ready (inl refl) in
    record {
      small = subst (λ (m : ℕ). m < 2 ^ 32) (sym word) r.small;
      no_zero = ap (λ (m : ℕ). bit_at m 0) word ∙ r.no_zero;
      bits = λ p one le. ap (λ (m : ℕ). bit_at m p) word ∙ r.bits p one le;
      queues = λ p one le. holds-depends w (ready_chain p) (lists p) (r.queues p one le) w'
          (λ j own. same j (inr (p, one, le, own-place n (lists p) (sorted.standing p) (ready_chain p) j own)));
    }

-- the same lists
pub ready-lists : (w : List ℕ) (lists lists' : ℕ → List ℕ) → ((p : ℕ) → lists p ≡ lists' p) → ReadyQueues w lists → ReadyQueues w lists'
ready-lists w lists lists' e r = record {
  small = r.small;
  no_zero = r.no_zero;
  bits = λ p one le. r.bits p one le ∙ ap (λ (l : List ℕ). some_one (last_from 0 l)) (e p);
  queues = λ p one le. subst (Holds w (ready_chain p)) (e p) (r.queues p one le);
}

-- all empty
pub ready-none : (w : List ℕ) → get_or w at.ready 0 ≡ 0 → ((p : ℕ) → p ≤ 31 → (get_or w (32 + p) 0 ≡ 0) × (get_or w (64 + p) 0 ≡ 0)) → ReadyQueues w (λ (p : ℕ). [])
ready-none w word ends = record {
  small = omega (arith, word);
  no_zero = ap (λ (m : ℕ). bit_at m 0) word ∙ bit-zero 0;
  bits = λ p one le. ap (λ (m : ℕ). bit_at m p) word ∙ bit-zero p;
  queues = λ p one le. subst (λ (c : Chain). Holds w c []) (sym (ready-is p le)) (holds-none w (queue_of p) (ends p le).0 (ends p le).1);
}

-- ---- one queue changed, with the word

module _ (n : ℕ) (w w' : List ℕ) (lists lists' : ℕ → List ℕ) (p : ℕ) (one : 1 ≤ p) (r : ReadyQueues w lists)
    (word : Word (get_or w at.ready 0) p (some_one (last_from 0 (lists' p))) (get_or w' at.ready 0))
    (own : Holds w' (ready_chain p) (lists' p))
    (others : (q : ℕ) → (q ≡ p → ⊥) → lists' q ≡ lists q)
    (same : (q : ℕ) → q ≤ 31 → (q ≡ p → ⊥) → Same (Own (ready_chain q) (lists q)) w w') where
  ready-changed : ReadyQueues w' lists'
  ready-changed = record {
    small = word.small;
    no_zero = word.others 0 (omega arith) (λ e. omega (arith, e)) ∙ r.no_zero;
    bits = λ q o k. bit q o k (ℕ_discrete q p);
    queues = λ q o k. queue q o k (ℕ_discrete q p);
  }
    where
      bit : (q : ℕ) → 1 ≤ q → q ≤ 31 → Dec (q ≡ p) → bit_at (get_or w' at.ready 0) q ≡ some_one (last_from 0 (lists' q))
      bit q o k (yes e) = subst (λ (x : ℕ). bit_at (get_or w' at.ready 0) x ≡ some_one (last_from 0 (lists' x))) (sym e) word.own
      bit q o k (no ne) = word.others q k ne ∙ r.bits q o k ∙ ap (λ (l : List ℕ). some_one (last_from 0 l)) (sym (others q ne))

      queue : (q : ℕ) → 1 ≤ q → q ≤ 31 → Dec (q ≡ p) → Holds w' (ready_chain q) (lists' q)
      queue q o k (yes e) = subst (λ (x : ℕ). Holds w' (ready_chain x) (lists' x)) (sym e) own
      queue q o k (no ne) =
          subst (Holds w' (ready_chain q)) (sym (others q ne)) (holds-depends w (ready_chain q) (lists q) (r.queues q o k) w' (same q k ne))

-- ---- placed last

module _ (n : ℕ) (w : List ℕ) (lists : ℕ → List ℕ) (room : Room n (length w)) (sorted : Sorted n lists) (r : ReadyQueues w lists)
    (p id : ℕ) (hp : 1 ≤ p) (kp : p ≤ 31) where
  c : Chain
  c = ready_chain p

  not-word : (xs : List ℕ) → Standing n xs → (j : ℕ) → Own c xs j → j ≡ at.ready → ⊥
  unfolding c
  not-word xs st j own = ready-word n j room.few p kp (own-place n xs st c j own)

  module _ (one : 1 ≤ id) (le : id ≤ n) (absent : (q : ℕ) → Mem id (lists q) → ⊥) where
    pub standing-more : Standing n (id ∷ lists p)
    standing-more = record { within = within; once = (absent p, (sorted.standing p).once) }
      where
        within : (y : ℕ) → Mem y (id ∷ lists p) → (1 ≤ y) × (y ≤ n)
        within y (inl e) = (omega (arith, e), omega (arith, e))
        within y (inr m) = (sorted.standing p).within y m

    holds-marked : Holds (marked w p) c (lists p)
    unfolding c
    holds-marked = holds-depends w c (lists p) (r.queues p hp kp) (marked w p)
        (λ j own. marked_other w p j (not-word (lists p) (sorted.standing p) j own))

    -- it writes the ready word and the queue's own places
    pub placed-outside : (R : ℕ → Type 0) → (R at.ready → ⊥) → ((j : ℕ) → Own (ready_chain p) (id ∷ lists p) j → R j → ⊥) → Same R w (placed_last w p id)
    unfolding placed_last c
    placed-outside R word out j x =
        pushed-outside R (marked w p) c (lists p) holds-marked id out j x ∙ marked_other w p j (λ e. word (subst R e x))

    placed-word : get_or (placed_last w p id) at.ready 0 ≡ get_or (marked w p) at.ready 0
    unfolding placed_last c
    placed-word =
        pushed-outside (λ (j : ℕ). j ≡ at.ready) (marked w p) c (lists p) holds-marked id (λ j own e. not-word (id ∷ lists p) standing-more j own e) at.ready refl

    placed-others : (q : ℕ) → q ≤ 31 → (q ≡ p → ⊥) → Same (Own (ready_chain q) (lists q)) w (placed_last w p id)
    placed-others q kq ne = placed-outside (Own (ready_chain q) (lists q))
        (λ own. ready-word n at.ready room.few q kq (own-place n (lists q) (sorted.standing q) (ready_chain q) at.ready own) refl)
        (ready-ready n p q (id ∷ lists p) (lists q) room.few kp kq (λ e. ne (sym e)) standing-more (sorted.standing q) two)
      where
        two : (y : ℕ) → Mem y (id ∷ lists p) → Mem y (lists q) → ⊥
        two y (inl e) b = absent q (subst (λ (x : ℕ). Mem x (lists q)) e b)
        two y (inr a) b = ne (sorted.apart q p y b a)

    placed-own : Holds (placed_last w p id) c (lists p ++ (id ∷ []))
    unfolding placed_last c
    placed-own = holds_pushed n (marked w p) c (lists p) (subst (Apart c n) (sym (length_marked w p)) (ready-apart n (length w) p room kp))
        (sorted.standing p) holds-marked id one le (absent p)

    pub ready-placed : (lists' : ℕ → List ℕ) → lists' p ≡ lists p ++ (id ∷ []) → ((q : ℕ) → (q ≡ p → ⊥) → lists' q ≡ lists q) → ReadyQueues (placed_last w p id) lists'
    unfolding c
    ready-placed lists' own others =
        ready-changed n w (placed_last w p id) lists lists' p hp r
        (subst (λ (b : ℕ). Word (get_or w at.ready 0) p b (get_or (placed_last w p id) at.ready 0)) (sym bit)
        (subst (Word (get_or w at.ready 0) p 1) (sym placed-word)
        (marked-word w p kp (omega (arith, room.long)) r.small (r.bits p hp kp ∙ ap some_one (sym (r.queues p hp kp).last)))))
        (subst (Holds (placed_last w p id) (ready_chain p)) (sym own) placed-own) others placed-others
      where
        bit : some_one (last_from 0 (lists' p)) ≡ 1
        bit = ap (λ (l : List ℕ). some_one (last_from 0 l)) own ∙ ap some_one (last_snoc 0 (lists p) id) ∙ some_one_lem id one

  -- ---- taken out

  module _ (present : Mem id (lists p)) where
    taken : List ℕ
    taken = removed w c id

    taken-outside : (R : ℕ → Type 0) → ((j : ℕ) → Own c (lists p) j → R j → ⊥) → Same R w taken
    unfolding taken c
    taken-outside = removed-outside n w c (lists p) (ready-apart n (length w) p room kp) (sorted.standing p) (r.queues p hp kp) id present

    holds-taken : Holds taken c (without id (lists p))
    unfolding taken c
    holds-taken = holds-removed n w c (lists p) (ready-apart n (length w) p room kp) (sorted.standing p) (r.queues p hp kp) id present

    taken_word : get_or taken at.ready 0 ≡ get_or w at.ready 0
    taken_word = taken-outside (λ (j : ℕ). j ≡ at.ready) (λ j own e. not-word (lists p) (sorted.standing p) j own e) at.ready refl

    taken-length : length taken ≡ length w
    unfolding taken
    taken-length = length_removed w c id

    -- it writes the ready word and the queue's own places
    pub unplaced-outside : (R : ℕ → Type 0) → (R at.ready → ⊥) → ((j : ℕ) → Own (ready_chain p) (lists p) j → R j → ⊥) → Same R w (unplaced w p id)
    unfolding unplaced c taken
    unplaced-outside R word out j x = unmarked-other taken p j (λ e. word (subst R e x)) ∙ taken-outside R out j x

    unplaced-others : (q : ℕ) → q ≤ 31 → (q ≡ p → ⊥) → Same (Own (ready_chain q) (lists q)) w (unplaced w p id)
    unplaced-others q kq ne = unplaced-outside (Own (ready_chain q) (lists q))
        (λ own. ready-word n at.ready room.few q kq (own-place n (lists q) (sorted.standing q) (ready_chain q) at.ready own) refl)
        (ready-ready n p q (lists p) (lists q) room.few kp kq (λ e. ne (sym e)) (sorted.standing p) (sorted.standing q) (λ y a b. ne (sorted.apart q p y b a)))

    standing-less : Standing n (without id (lists p))
    standing-less = standing-out n (lists p) id (sorted.standing p)

    unplaced-own : Holds (unplaced w p id) c (without id (lists p))
    unfolding unplaced c taken
    unplaced-own = holds-depends taken c (without id (lists p)) holds-taken (unplaced w p id)
        (λ j own. unmarked-other taken p j (not-word (without id (lists p)) standing-less j own))

    old_bit : bit_at (get_or w at.ready 0) p ≡ 1
    old_bit = r.bits p hp kp ∙ go (lists p) present (sorted.standing p)
      where
        go : (l : List ℕ) → Mem id l → Standing n l → some_one (last_from 0 l) ≡ 1
        go [] m st = absurd m
        go (x ∷ xs) m st = some_one_lem (last_from x xs) (st.within (last_from x xs) (last_mem x xs)).0

    new_word : Word (get_or w at.ready 0) p (some_one (last_from 0 (without id (lists p)))) (get_or (unplaced w p id) at.ready 0)
    unfolding unplaced c taken
    new_word =
        subst (λ (m : ℕ). Word m p (some_one (last_from 0 (without id (lists p)))) (get_or (unmarked taken p) at.ready 0)) taken_word
        (subst (λ (e : ℕ). Word (get_or taken at.ready 0) p (some_one e) (get_or (unmarked taken p) at.ready 0)) holds-taken.last
        (unmarked-word taken p kp (omega (arith, room.long, taken-length)) (subst (λ (m : ℕ). m < 2 ^ 32) (sym taken_word) r.small)
        (ap (λ (m : ℕ). bit_at m p) taken_word ∙ old_bit)))

    pub ready-unplaced : (lists' : ℕ → List ℕ) → lists' p ≡ without id (lists p) → ((q : ℕ) → (q ≡ p → ⊥) → lists' q ≡ lists q) → ReadyQueues (unplaced w p id) lists'
    unfolding c
    ready-unplaced lists' own others =
        ready-changed n w (unplaced w p id) lists lists' p hp r
        (subst (λ (l : List ℕ). Word (get_or w at.ready 0) p (some_one (last_from 0 l)) (get_or (unplaced w p id) at.ready 0)) (sym own) new_word)
        (subst (Holds (unplaced w p id) (ready_chain p)) (sym own) unplaced-own) others unplaced-others
