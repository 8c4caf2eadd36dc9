-- What the words themselves tell of the places that a call writes to: an object, a DPC or a thread found by them stands within the words that
-- the limits need.
use Prim.Native.Nat.{ℕ, ◌+◌, ◌-◌, ◌*◌, ◌≤◌, ◌<◌}
use mathlib.Core.List.{List}
use mathlib.Core.Bool.{Bool, true, false, cond}
use mathlib.Core.Path.{◌≡◌, refl, ap, ◌∙◌}
use native.Mathlib.Omega.{arith}
use borrow.Author.Tests.{eqb-false, leb-true, leb-false, le-leb}
use lib.Dec.{eqb, leb, ltb}
use lib.ListN.{get_or, set, length}
use Rattle.words.specs.Layout as at
use Rattle.words.specs.Layout.{entry_at, objects_at}
use Rattle.tables.specs.Table.{position, key_at}
use Rattle.objects.specs.Objects.{objects_base, dpcs_base, found_at, object_found, dpc_found, place_of}
use Rattle.dpcs.specs.Record.{number_of, place_at, queue_chain}
use Rattle.chains.specs.declared.Chain.{Chain}
use Rattle.chains.specs.Chain.{link_at, pushed, unlinked}
use Rattle.chains.specs.Ready.{waiters_chain, ready_chain}
use Rattle.model.specs.State.{Limits, State}
use Rattle.agreement_chains.specs.Chains.{Same}
use Rattle.agreement_chains.proofs.Frames.{set-outside, pushed-other, unlinked-other}
use Rattle.agreement.specs.Agree.{Agreeing, objects_from, dpcs_from}
use Rattle.agreement.proofs.Lookups.{base-is, dpcs-base-is}
use Rattle.agreement_past.specs.Past.{Beyond}

-- a place at which a record has room: 0 stands for none, and is a place of the header
pub record Spot (l : Limits) (place : ℕ) : Type 0 where
  pub inside : place + 32 ≤ at.header_size + at.thread_size * l.threads + at.record_size * (l.objects + l.dpcs)

pub spot-kept : (l : Limits) (w : List ℕ) (place k v : ℕ) → Spot l place → k < 32 → Same (Beyond l) w (set w (place + k) v)
spot-kept l w place k v p h = set-outside (Beyond l) w (place + k) v (λ r. omega (arith, p.inside))

-- words that have the limits, and no more objects and DPCs than they allow
pub record Sized (l : Limits) (w : List ℕ) : Type 0 where
  pub objects-at : objects_base w ≡ objects_from l
  pub dpcs-at : dpcs_base w ≡ dpcs_from l
  pub objects : get_or w at.objects 0 ≤ l.objects
  pub dpcs : get_or w at.dpcs 0 ≤ l.dpcs
  pub threads-most : l.threads ≤ at.most_threads
  pub objects-most : l.objects ≤ 4096
  pub dpcs-most : l.dpcs ≤ 4096

pub sized : (w : List ℕ) (s : State) (holder : ℕ → ℕ) (active : ℕ) → Agreeing w s holder active → Sized s.limits w
sized w s holder active a =
    record {
      objects-at = base-is w s holder active a;
      dpcs-at = dpcs-base-is w s holder active a;
      objects = omega (arith, a.numbers at.objects (length s.dispatcher.objects) refl, a.shape.sizes.objects_fit);
      dpcs = omega (arith, a.numbers at.dpcs (length s.dpcs.table) refl, a.shape.sizes.dpcs_fit);
      threads-most = a.shape.sizes.limits.threads;
      objects-most = a.shape.sizes.limits.objects;
      dpcs-most = a.shape.sizes.limits.dpcs;
    }

entry-is : (base i : ℕ) → base ≤ 1000000 → i ≤ 8192 → entry_at base i ≡ base + 32 * i
unfolding entry_at
entry-is base i h k = simp (le-leb base 1000000 h, le-leb i 8192 k)

-- a record found in a table of `n`, or none
found-spot : (l : Limits) (w : List ℕ) (base n key : ℕ) → base ≤ 1000000 → n ≤ 8192 → base + 32 * n ≤ at.header_size + at.thread_size * l.threads + at.record_size * (l.objects + l.dpcs) → Spot l (found_at w base n key)
unfolding found_at
found-spot l w base n key low few long = go (leb n i) (eqb (key_at w base i) key) refl
  where
    i : ℕ
    i = position w base n key

    go : (b c : Bool) → leb n i ≡ b → Spot l (cond b 0 (cond c (entry_at base i) 0))
    go true c e = record { inside = omega arith }
    go false false e = record { inside = omega arith }
    go false true e =
        let inside = leb-false n i e in
        let here = entry-is base i low (omega arith) in
        record { inside = omega arith }

module _ (l : Limits) (w : List ℕ) (z : Sized l w) where
  pub place-spot : (kind key : ℕ) → Spot l (place_of w kind key)
  unfolding place_of object_found
  place-spot kind key = go (eqb (object_found w key) 0) (eqb (get_or w (object_found w key + at.kind) 0) kind)
    where
      found : Spot l (object_found w key)
      found = found-spot l w (objects_base w) (get_or w at.objects 0) key (omega (arith, z.objects-at, z.threads-most)) (omega (arith, z.objects, z.objects-most)) (omega (arith, z.objects-at, z.objects))

      go : (b c : Bool) → Spot l (cond b 0 (cond c (object_found w key) 0))
      go true c = record { inside = omega arith }
      go false true = found
      go false false = record { inside = omega arith }

  pub dpc-spot : (address : ℕ) → Spot l (dpc_found w address)
  unfolding dpc_found
  dpc-spot address =
      found-spot l w (dpcs_base w) (get_or w at.dpcs 0) address (omega (arith, z.dpcs-at, z.threads-most, z.objects-most)) (omega (arith, z.dpcs, z.dpcs-most)) (omega (arith, z.dpcs-at, z.dpcs))

  -- a DPC by its number
  pub number-spot : (n : ℕ) → n ≤ l.dpcs → Spot l (place_at w n)
  unfolding place_at
  number-spot n h = go (eqb n 0) (ltb 4096 n) refl
    where
      go : (b c : Bool) → eqb n 0 ≡ b → Spot l (cond b at.unused (cond c at.unused (entry_at (dpcs_base w) (n - 1))))
      go true c e = record { inside = omega arith }
      go false true e = record { inside = omega arith }
      go false false e =
          let some = eqb-false n 0 e in
          let here = entry-is (dpcs_base w) (n - 1) (omega (arith, z.dpcs-at, z.threads-most, z.objects-most)) (omega (arith, h, z.dpcs-most)) in
          record { inside = omega (arith, z.dpcs-at) }

  pub number-most : (address : ℕ) → number_of w address ≤ l.dpcs
  unfolding number_of
  number-most address = go (leb (get_or w at.dpcs 0) i) (eqb (key_at w (dpcs_base w) i) address) refl
    where
      i : ℕ
      i = position w (dpcs_base w) (get_or w at.dpcs 0) address

      go : (b c : Bool) → leb (get_or w at.dpcs 0) i ≡ b → cond b 0 (cond c (i + 1) 0) ≤ l.dpcs
      go true c e = omega arith
      go false true e = let inside = leb-false (get_or w at.dpcs 0) i e in omega (arith, z.dpcs)
      go false false e = omega arith

-- ---- records behind the header

-- a region that has no word of a record
abbrev pub Clear : Limits → (ℕ → Type 0) → Type 0
Clear l Q = (j : ℕ) → at.unused ≤ j → j < at.header_size + at.thread_size * l.threads + at.record_size * (l.objects + l.dpcs) → Q j → ⊥

-- the words of the limits and of how many there are
abbrev pub Low : ℕ → Type 0
Low j = j ≤ 5

pub clear-beyond : (l : Limits) → Clear l (Beyond l)
clear-beyond l j h k r = omega arith

pub clear-low : (l : Limits) → Clear l Low
clear-low l j h k r = omega arith

found-high : (w : List ℕ) (base n key : ℕ) → at.unused ≤ base → (found_at w base n key ≡ 0 → ⊥) → at.unused ≤ found_at w base n key
unfolding found_at entry_at
found-high w base n key h = go (leb n i) (eqb (key_at w base i) key) (leb base 1000000) (leb i 8192)
  where
    i : ℕ
    i = position w base n key

    go : (b c d e : Bool) → (cond b 0 (cond c (cond d (cond e (base + 32 * i) at.unused) at.unused) 0) ≡ 0 → ⊥) → at.unused ≤ cond b 0 (cond c (cond d (cond e (base + 32 * i) at.unused) at.unused) 0)
    go true c d e f = absurd (f refl)
    go false false d e f = absurd (f refl)
    go false true true true f = omega arith
    go false true true false f = omega arith
    go false true false e f = omega arith

-- a store in a record that there is
pub record Here (l : Limits) (place : ℕ) : Type 0 where
  pub inside : Spot l place
  pub high : at.unused ≤ place

pub here-kept : (l : Limits) (Q : ℕ → Type 0) → Clear l Q → (w : List ℕ) (place k v : ℕ) → Here l place → k < 32 → Same Q w (set w (place + k) v)
here-kept l Q c w place k v p h = set-outside Q w (place + k) v (c (place + k) (omega (arith, p.high)) (omega (arith, p.inside.inside)))

module _ (l : Limits) (w : List ℕ) (z : Sized l w) where
  pub place_here : (kind key : ℕ) → (place_of w kind key ≡ 0 → ⊥) → Here l (place_of w kind key)
  unfolding found_at object_found
  place_here kind key some = record { inside = place-spot l w z kind key; high = high }
    where
      high : at.unused ≤ place_of w kind key
      high = unfold place_of object_found in go (eqb (object_found w key) 0) (eqb (get_or w (object_found w key + at.kind) 0) kind) refl some
        where
          go : (b c : Bool) → eqb (object_found w key) 0 ≡ b → (cond b 0 (cond c (object_found w key) 0) ≡ 0 → ⊥) → at.unused ≤ cond b 0 (cond c (object_found w key) 0)
          go true c e n = absurd (n refl)
          go false false e n = absurd (n refl)
          go false true e n = found-high w (objects_base w) (get_or w at.objects 0) key (omega (arith, z.objects-at)) n

  pub dpc-here : (address : ℕ) → (dpc_found w address ≡ 0 → ⊥) → Here l (dpc_found w address)
  unfolding dpc_found
  dpc-here address some = record { inside = dpc-spot l w z address; high = found-high w (dpcs_base w) (get_or w at.dpcs 0) address (omega (arith, z.dpcs-at)) some }

  pub sized-still : (w' : List ℕ) → Same Low w w' → Sized l w'
  unfolding objects_base dpcs_base
  sized-still w' k =
      record {
        objects-at = ap objects_at (k at.thread_limit (omega arith)) ∙ z.objects-at;
        dpcs-at = (λ i. entry_at (objects_at (k at.thread_limit (omega arith) i)) (k at.object_limit (omega arith) i)) ∙ z.dpcs-at;
        objects = omega (arith, k at.objects (omega arith), z.objects);
        dpcs = omega (arith, k at.dpcs (omega arith), z.dpcs);
        threads-most = z.threads-most;
        objects-most = z.objects-most;
        dpcs-most = z.dpcs-most;
      }

-- ---- chains

-- the ends of a chain stand in the header, and the links of its records 1 to `most` within the words
pub record Strung (l : Limits) (c : Chain) (most : ℕ) : Type 0 where
  pub first : c.first < at.header_size
  pub last : c.last < at.header_size
  pub links : (m : ℕ) → 1 ≤ m → m ≤ most → c.link + c.stride * m < at.header_size + at.thread_size * l.threads + at.record_size * (l.objects + l.dpcs)

module _ (l : Limits) (c : Chain) (most : ℕ) (g : Strung l c most) where
  link_in : (m : ℕ) → m ≤ most → link_at c m < at.header_size + at.thread_size * l.threads + at.record_size * (l.objects + l.dpcs)
  unfolding link_at
  link_in m h = go (eqb m 0) (leb m 4096) refl
    where
      go : (b t : Bool) → eqb m 0 ≡ b → cond b c.first (cond t (c.link + c.stride * m) c.first) < at.header_size + at.thread_size * l.threads + at.record_size * (l.objects + l.dpcs)
      go true t e = omega (arith, g.first)
      go false true e = let some = eqb-false m 0 e in g.links m (omega arith) h
      go false false e = omega (arith, g.first)

  pub pushed-kept : (w : List ℕ) (id : ℕ) → id ≤ most → get_or w c.last 0 ≤ most → Same (Beyond l) w (pushed w c id)
  pushed-kept w id h k j r =
      pushed-other w c id j (λ e. omega (arith, link_in id h)) (λ e. omega (arith, link_in (get_or w c.last 0) k)) (λ e. omega (arith, g.last))

  pub unlinked-kept : (w : List ℕ) (before id : ℕ) → before ≤ most → Same (Beyond l) w (unlinked w c before id)
  unlinked-kept w before id h j r = unlinked-other w c before id j (λ e. omega (arith, link_in before h)) (λ e. omega (arith, g.last))

pub waiters-strung : (l : Limits) → Strung l waiters_chain l.threads
unfolding waiters_chain
waiters-strung l = record { first = omega arith; last = omega arith; links = λ m h k. omega arith }

pub ready-strung : (l : Limits) (p : ℕ) → Strung l (ready_chain p) l.threads
unfolding ready_chain
ready-strung l p = go (leb p 31) refl
  where
    go : (b : Bool) → leb p 31 ≡ b
        → Strung l (cond b (record { first = at.ready_first + p; last = at.ready_last + p; link = at.ready_link; stride = at.thread_size })
        (record { first = at.ready_first; last = at.ready_last; link = at.ready_link; stride = at.thread_size })) l.threads
    go true e = let h = leb-true p 31 e in record { first = omega arith; last = omega arith; links = λ m h k. omega arith }
    go false e = record { first = omega arith; last = omega arith; links = λ m h k. omega arith }

pub queue-strung : (l : Limits) (w : List ℕ) → Sized l w → Strung l (queue_chain w) l.dpcs
unfolding queue_chain
queue-strung l w z = record { first = omega arith; last = omega arith; links = λ m h k. omega (arith, z.dpcs-at) }
