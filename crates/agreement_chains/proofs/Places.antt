-- Where the chains stand: no place of one is a place of another, but for the links of threads, which the ready queues share.
use Prim.Native.Nat.{ℕ, zero, suc, ◌+◌, ◌-◌, ◌*◌, ◌≤◌, ◌<◌}
use mathlib.Core.List.{List}
use mathlib.Core.Bool.{Bool, cond}
use mathlib.Core.Path.{◌≡◌, refl, sym, ap, ◌∙◌, subst}
use mathlib.Core.Logic.{◌⊎◌, inl, inr}
use native.Mathlib.Nat.{mul_comm, eq_of_mul-eq-mul_right}
use native.Mathlib.Omega.{arith}
use borrow.Author.Tests.{ne_eqb, le-leb, le-ltb}
use lib.Dec.{leb}
use lib.ListN.{get_or}
use Rattle.words.specs.Layout as at
use Rattle.words.specs.Layout.{objects_at, entry_at}
use Rattle.chains.specs.declared.Chain.{Chain}
use Rattle.chains.specs.Chain.{link_at}
use Rattle.chains.specs.Ready.{ready_chain, waiters_chain}
use Rattle.objects.specs.Objects.{objects_base, dpcs_base}
use Rattle.dpcs.specs.Record.{queue_chain, place_at}
use Rattle.dpcs.proofs.RecordLaws.{base-least}
use Rattle.model.specs.Lists.{Mem}
use Rattle.agreement_chains.specs.Chains.{Standing, Same, Own, Places, Apart}
use Rattle.agreement_chains.specs.Ready.{Room, ReadyPlace}
use Rattle.agreement_chains.proofs.Frames.{link-first, link-of}

-- ---- the places of any chain, one by one: the last, the first, a link of a record

module _ (c : Chain) where
  pub own-cases : (n : ℕ) (xs : List ℕ) (j : ℕ) → n ≤ 4096 → Standing n xs → Own c xs j
      → (j ≡ c.last) ⊎ ((j ≡ c.first) ⊎ ((y : ℕ) × (Mem y xs) × (j ≡ c.link + c.stride * y)))
  own-cases n xs j few st (inl e) = inl e
  own-cases n xs j few st (inr (y, inl z, e)) = inr (inl (e ∙ ap (link_at c) z ∙ link-first c))
  own-cases n xs j few st (inr (y, inr m, e)) = inr (inr (y, m, e ∙ link-of c y (st.within y m).0 (omega (arith, (st.within y m).1))))

  pub place-cases : (n j : ℕ) → n ≤ 4096 → Places c n j
      → (j ≡ c.last) ⊎ ((j ≡ c.first) ⊎ ((y : ℕ) × (1 ≤ y) × (y ≤ n) × (j ≡ c.link + c.stride * y)))
  place-cases n j few (inl e) = inl e
  place-cases n j few (inr (zero, le, e)) = inr (inl (e ∙ link-first c))
  place-cases n j few (inr (suc y, le, e)) = inr (inr (suc y, omega arith, le, e ∙ link-of c (suc y) (omega arith) (omega arith)))

  -- first and last stand before the links, and are two
  pub apart_of : (n m : ℕ) → n ≤ 4096 → 1 ≤ c.stride → (c.first ≡ c.last → ⊥) → c.first < m → c.last < m
      → ((y : ℕ) → 1 ≤ y → y ≤ n → (c.first < c.link + c.stride * y) × (c.last < c.link + c.stride * y) × (c.link + c.stride * y < m)) → Apart c n m
  apart_of n m few one two first-in last_in h = record { few = few; links = links; not_last = not_last; link_in = link_in; last_in = last_in }
    where
      place : (y : ℕ) → suc y ≤ n → link_at c (suc y) ≡ c.link + c.stride * suc y
      place y le = link-of c (suc y) (omega arith) (omega arith)

      links : (y z : ℕ) → y ≤ n → z ≤ n → link_at c y ≡ link_at c z → y ≡ z
      links zero zero a b e = refl
      links zero (suc z) a b e = absurd (omega (arith, h (suc z) (omega arith) b, sym (link-first c) ∙ e ∙ place z b))
      links (suc y) zero a b e = absurd (omega (arith, h (suc y) (omega arith) a, sym (place y a) ∙ e ∙ link-first c))
      links (suc y) (suc z) a b e =
          let q : c.link + c.stride * suc y ≡ c.link + c.stride * suc z = sym (place y a) ∙ e ∙ place z b in
          let r : c.stride * suc y ≡ c.stride * suc z = omega (arith, q) in
          eq_of_mul-eq-mul_right c.stride one (suc y) (suc z) (mul_comm (suc y) c.stride ∙ r ∙ mul_comm c.stride (suc z))

      not_last : (y : ℕ) → y ≤ n → link_at c y ≡ c.last → ⊥
      not_last zero a e = two (sym (link-first c) ∙ e)
      not_last (suc y) a e = omega (arith, h (suc y) (omega arith) a, sym (place y a) ∙ e)

      link_in : (y : ℕ) → y ≤ n → link_at c y < m
      link_in zero a = subst (λ (k : ℕ). k < m) (sym (link-first c)) first-in
      link_in (suc y) a = subst (λ (k : ℕ). k < m) (sym (place y a)) (h (suc y) (omega arith) a).2

-- ---- the three kinds of chains

-- words 32 to 63 are firsts, 64 to 95 lasts; the link is word 2 of a thread's record
abbrev pub queue_of : ℕ → Chain
queue_of p = record { first = at.ready_first + p; last = at.ready_last + p; link = at.ready_link; stride = at.thread_size }

pub ready-is : (p : ℕ) → p ≤ 31 → ready_chain p ≡ queue_of p
unfolding ready_chain
ready-is p h = simp (le-leb p 31 h)

pub ready-apart : (n m p : ℕ) → Room n m → p ≤ 31 → Apart (ready_chain p) n m
ready-apart n m p room hp =
    subst (λ (c : Chain). Apart c n m) (sym (ready-is p hp))
    (apart_of (queue_of p) n m (omega (arith, room.few)) (omega arith) (λ e. omega (arith, e)) (omega (arith, room.long)) (omega (arith, room.long))
    (λ y one le. (omega arith, omega arith, omega (arith, room.long))))

pub waiters-apart : (n m : ℕ) → Room n m → Apart waiters_chain n m
unfolding waiters_chain
waiters-apart n m room =
    apart_of waiters_chain n m (omega (arith, room.few)) (omega arith) (λ e. omega (arith, e)) (omega (arith, room.long)) (omega (arith, room.long))
    (λ y one le. (omega arith, omega arith, omega (arith, room.long)))

-- the records of `n` DPCs stand in `m` words
pub queue-apart : (w : List ℕ) (n m : ℕ) → n ≤ 4096 → dpcs_base w + 32 * n ≤ m → Apart (queue_chain w) n m
unfolding queue_chain
queue-apart w n m few long =
    let low : at.unused ≤ dpcs_base w = base-least w in
    apart_of (queue_chain w) n m few (omega arith) (λ e. omega (arith, e)) (omega (arith, low, long)) (omega (arith, low, long))
    (λ y one le. (omega (arith, low), omega (arith, low), omega (arith, low, long)))

-- ---- the places of the chains, as numbers

module _ (n j : ℕ) (few : n ≤ at.most_threads) where
  pub ready-cases : (p : ℕ) → p ≤ 31 → Places (ready_chain p) n j → (j ≡ 64 + p) ⊎ ((j ≡ 32 + p) ⊎ ((y : ℕ) × (1 ≤ y) × (y ≤ n) × (j ≡ at.thread_word at.next_ready y)))
  ready-cases p hp m = place-cases (queue_of p) n j (omega arith) (subst (λ (c : Chain). Places c n j) (ready-is p hp) m)

  pub waiters-cases : Places waiters_chain n j → (j ≡ 22) ⊎ ((j ≡ 21) ⊎ ((y : ℕ) × (1 ≤ y) × (y ≤ n) × (j ≡ at.thread_word at.next_waiter y)))
  unfolding waiters_chain
  waiters-cases m = place-cases waiters_chain n j (omega arith) m

pub queue-cases : (w : List ℕ) (n j : ℕ) → n ≤ 4096 → Places (queue_chain w) n j
    → (j ≡ at.queue_last) ⊎ ((j ≡ at.queue_first) ⊎ ((y : ℕ) × (1 ≤ y) × (y ≤ n) × (j ≡ dpcs_base w - at.queue_link_before + 32 * y)))
unfolding queue_chain
queue-cases w n j few m = place-cases (queue_chain w) n j few m

-- ---- where the table of DPCs stands depends on the limits alone

pub base-depends : (w v : List ℕ) → Same (λ (j : ℕ). j ≤ 1) w v → dpcs_base v ≡ dpcs_base w
unfolding dpcs_base objects_base
base-depends w v same =
    let t : get_or v at.thread_limit 0 ≡ get_or w at.thread_limit 0 = same at.thread_limit (omega arith) in
    let o : get_or v at.object_limit 0 ≡ get_or w at.object_limit 0 = same at.object_limit (omega arith) in cc

-- word 2 of a DPC's record
abbrev pub queue_from : ℕ → Chain
queue_from base = record { first = at.queue_first; last = at.queue_last; link = base - at.queue_link_before; stride = at.record_size }

pub queue-is : (w : List ℕ) (base : ℕ) → dpcs_base w ≡ base → queue_chain w ≡ queue_from base
unfolding queue_chain
queue-is w base e = ap queue_from e

pub queue-depends : (w v : List ℕ) → Same (λ (j : ℕ). j ≤ 1) w v → queue_chain v ≡ queue_chain w
queue-depends w v same = queue-is v (dpcs_base w) (base-depends w v same) ∙ sym (queue-is w (dpcs_base w) refl)

pub entry-is : (base i : ℕ) → base ≤ 1000000 → i ≤ 8192 → entry_at base i ≡ base + 32 * i
unfolding entry_at
entry-is base i near few = simp (le-leb base 1000000 near, le-leb i 8192 few)

pub base-is : (w : List ℕ) (t o : ℕ) → get_or w at.thread_limit 0 ≡ t → get_or w at.object_limit 0 ≡ o → t ≤ at.most_threads → o ≤ 4096 → dpcs_base w ≡ at.header_size + at.thread_size * t + 32 * o
unfolding dpcs_base objects_base objects_at
base-is w t o a b ht ho =
    ap (λ (x : ℕ). entry_at (cond (leb x at.most_threads) (at.header_size + at.thread_size * x) at.header_size) (get_or w at.object_limit 0)) a
    ∙ ap (λ (y : ℕ). entry_at (cond (leb t at.most_threads) (at.header_size + at.thread_size * t) at.header_size) y) b
    ∙ ap (λ (k : Bool). entry_at (cond k (at.header_size + at.thread_size * t) at.header_size) o) (le-leb t at.most_threads ht)
    ∙ entry-is (at.header_size + at.thread_size * t) o (omega arith) (omega arith)

pub place_is : (w : List ℕ) (y : ℕ) → dpcs_base w ≤ 1000000 → 1 ≤ y → y ≤ 4096 → place_at w y ≡ dpcs_base w + 32 * (y - 1)
unfolding place_at
place_is w y near one few = simp (ne_eqb y 0 (λ e. omega (arith, e)), le-ltb 4096 y few, entry-is (dpcs_base w) (y - 1) near (omega arith))

-- ---- no two chains have a place in common

-- two ready queues, where no thread stands in both
pub ready-ready : (n p q : ℕ) (xs ys : List ℕ) → n ≤ at.most_threads → p ≤ 31 → q ≤ 31 → (p ≡ q → ⊥) → Standing n xs → Standing n ys
    → ((y : ℕ) → Mem y xs → Mem y ys → ⊥) → (j : ℕ) → Own (ready_chain p) xs j → Own (ready_chain q) ys j → ⊥
ready-ready n p q xs ys few hp hq ne sx sy two j a b =
    go (own-cases (queue_of p) n xs j (omega arith) sx (subst (λ (c : Chain). Own c xs j) (ready-is p hp) a))
    (own-cases (queue_of q) n ys j (omega arith) sy (subst (λ (c : Chain). Own c ys j) (ready-is q hq) b))
  where
    go : (j ≡ 64 + p) ⊎ ((j ≡ 32 + p) ⊎ ((y : ℕ) × (Mem y xs) × (j ≡ at.thread_word at.next_ready y)))
        → (j ≡ 64 + q) ⊎ ((j ≡ 32 + q) ⊎ ((y : ℕ) × (Mem y ys) × (j ≡ at.thread_word at.next_ready y))) → ⊥
    go (inl e) (inl f) = ne (omega arith)
    go (inl e) (inr (inl f)) = omega arith
    go (inl e) (inr (inr (y, m, f))) = omega arith
    go (inr (inl e)) (inl f) = omega arith
    go (inr (inl e)) (inr (inl f)) = ne (omega arith)
    go (inr (inl e)) (inr (inr (y, m, f))) = omega arith
    go (inr (inr (x, k, e))) (inl f) = omega arith
    go (inr (inr (x, k, e))) (inr (inl f)) = omega arith
    go (inr (inr (x, k, e))) (inr (inr (y, m, f))) =
        let z : y ≡ x = omega arith in two x k (subst (λ (i : ℕ). Mem i ys) z m)

module _ (n j : ℕ) (few : n ≤ at.most_threads) where
  pub ready-waiters : (p : ℕ) → p ≤ 31 → Places (ready_chain p) n j → Places waiters_chain n j → ⊥
  ready-waiters p hp a b = go (ready-cases n j few p hp a) (waiters-cases n j few b)
    where
      go : (j ≡ 64 + p) ⊎ ((j ≡ 32 + p) ⊎ ((y : ℕ) × (1 ≤ y) × (y ≤ n) × (j ≡ at.thread_word at.next_ready y)))
          → (j ≡ 22) ⊎ ((j ≡ 21) ⊎ ((y : ℕ) × (1 ≤ y) × (y ≤ n) × (j ≡ at.thread_word at.next_waiter y))) → ⊥
      go (inl e) (inl f) = omega arith
      go (inl e) (inr (inl f)) = omega arith
      go (inl e) (inr (inr (y, o, k, f))) = omega arith
      go (inr (inl e)) (inl f) = omega arith
      go (inr (inl e)) (inr (inl f)) = omega arith
      go (inr (inl e)) (inr (inr (y, o, k, f))) = omega arith
      go (inr (inr (x, u, v, e))) (inl f) = omega arith
      go (inr (inr (x, u, v, e))) (inr (inl f)) = omega arith
      go (inr (inr (x, u, v, e))) (inr (inr (y, o, k, f))) = omega arith

  pub ready-word : (p : ℕ) → p ≤ 31 → Places (ready_chain p) n j → j ≡ at.ready → ⊥
  ready-word p hp a e = go (ready-cases n j few p hp a)
    where
      go : (j ≡ 64 + p) ⊎ ((j ≡ 32 + p) ⊎ ((y : ℕ) × (1 ≤ y) × (y ≤ n) × (j ≡ at.thread_word at.next_ready y))) → ⊥
      go (inl f) = omega arith
      go (inr (inl f)) = omega arith
      go (inr (inr (y, o, k, f))) = omega arith

  pub waiters-word : Places waiters_chain n j → j ≡ at.ready → ⊥
  waiters-word a e = go (waiters-cases n j few a)
    where
      go : (j ≡ 22) ⊎ ((j ≡ 21) ⊎ ((y : ℕ) × (1 ≤ y) × (y ≤ n) × (j ≡ at.thread_word at.next_waiter y))) → ⊥
      go (inl f) = omega arith
      go (inr (inl f)) = omega arith
      go (inr (inr (y, o, k, f))) = omega arith

  -- the waiters' chain is none of the ready queues
  pub waiters-ready : Places waiters_chain n j → ReadyPlace n j → ⊥
  waiters-ready a (inl e) = waiters-word a e
  waiters-ready a (inr (p, one, hp, b)) = ready-waiters p hp b a

  -- the DPCs stand behind the threads
  module _ (w : List ℕ) (d : ℕ) (most : d ≤ 4096) (behind : at.header_size + at.thread_size * n ≤ dpcs_base w) (b : Places (queue_chain w) d j) where
    pub queue-waiters : Places waiters_chain n j → ⊥
    queue-waiters a = go (waiters-cases n j few a) (queue-cases w d j most b)
      where
        go : (j ≡ 22) ⊎ ((j ≡ 21) ⊎ ((y : ℕ) × (1 ≤ y) × (y ≤ n) × (j ≡ at.thread_word at.next_waiter y)))
            → (j ≡ at.queue_last) ⊎ ((j ≡ at.queue_first) ⊎ ((y : ℕ) × (1 ≤ y) × (y ≤ d) × (j ≡ dpcs_base w - at.queue_link_before + 32 * y))) → ⊥
        go (inl e) (inl f) = omega arith
        go (inl e) (inr (inl f)) = omega arith
        go (inl e) (inr (inr (y, o, k, f))) = omega arith
        go (inr (inl e)) (inl f) = omega arith
        go (inr (inl e)) (inr (inl f)) = omega arith
        go (inr (inl e)) (inr (inr (y, o, k, f))) = omega arith
        go (inr (inr (x, u, v, e))) (inl f) = omega arith
        go (inr (inr (x, u, v, e))) (inr (inl f)) = omega arith
        go (inr (inr (x, u, v, e))) (inr (inr (y, o, k, f))) = omega arith

    pub queue-ready : ReadyPlace n j → ⊥
    queue-ready (inl e) = word (queue-cases w d j most b)
      where
        word : (j ≡ at.queue_last) ⊎ ((j ≡ at.queue_first) ⊎ ((y : ℕ) × (1 ≤ y) × (y ≤ d) × (j ≡ dpcs_base w - at.queue_link_before + 32 * y))) → ⊥
        word (inl f) = omega arith
        word (inr (inl f)) = omega arith
        word (inr (inr (y, o, k, f))) = omega arith
    queue-ready (inr (p, one, hp, a)) = go (ready-cases n j few p hp a) (queue-cases w d j most b)
      where
        go : (j ≡ 64 + p) ⊎ ((j ≡ 32 + p) ⊎ ((y : ℕ) × (1 ≤ y) × (y ≤ n) × (j ≡ at.thread_word at.next_ready y)))
            → (j ≡ at.queue_last) ⊎ ((j ≡ at.queue_first) ⊎ ((y : ℕ) × (1 ≤ y) × (y ≤ d) × (j ≡ dpcs_base w - at.queue_link_before + 32 * y))) → ⊥
        go (inl e) (inl f) = omega arith
        go (inl e) (inr (inl f)) = omega arith
        go (inl e) (inr (inr (y, o, k, f))) = omega arith
        go (inr (inl e)) (inl f) = omega arith
        go (inr (inl e)) (inr (inl f)) = omega arith
        go (inr (inl e)) (inr (inr (y, o, k, f))) = omega arith
        go (inr (inr (x, u, v, e))) (inl f) = omega arith
        go (inr (inr (x, u, v, e))) (inr (inl f)) = omega arith
        go (inr (inr (x, u, v, e))) (inr (inr (y, o, k, f))) = omega arith
