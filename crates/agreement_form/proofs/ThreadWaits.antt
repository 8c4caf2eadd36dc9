-- Who waits, in words that agree with a state in form: the objects exist, and none is named twice. With it, every thread passes.
use Prim.Native.Nat.{ℕ, zero, suc, ◌+◌, ◌*◌, ◌≤◌, ◌<◌}
use mathlib.Core.List.{List, [], ◌∷◌}
use mathlib.Core.Bool.{Bool, cond, true, false, not, ◌&&◌}
use mathlib.Core.Option.{Option, none, some}
use mathlib.Core.Path.{◌≡◌, refl, ap, ◌∙◌, subst}
use native.Mathlib.Omega.{arith}
use borrow.Author.Tests.{ne_eqb}
use lib.ListN.{length}
use lib.Dec.{eqb}
use Rattle.threads.specs.Thread as words
use Rattle.objects.specs.Objects.{place_of}
use Rattle.waits.specs.Object.{valid}
use Rattle.waits.specs.Lists.{kind_in, key_in, is_pair, has_pair, duplicate_in, unknown_in}
use Rattle.form_threads.specs.Thread.{has_state, waits_for_known, waits_for_each_once, thread_passes, threads_in, threads_pass}
use Rattle.model.specs.Lists.{nth, present, given}
use Rattle.model.specs.State.{State, Status, running, ready, waiting, exited, Wait, Named, Object}
use Rattle.model.specs.Threads.{status_of, is_thread}
use Rattle.model.specs.Waits.{key_of, kind_of, object_at, of_kind, exists, same_named, listed}
use Rattle.model.specs.Valid.{WaitValid, WaitingValid}
use Rattle.model.specs.Refusal.{has_duplicate}
use Rattle.agreement_tables.specs.Tables.{below}
use Rattle.agreement_tables.proofs.Lists.{nth-some, nth-mem}
use Rattle.agreement.specs.Records.{status_number, holder_of, active_address}
use Rattle.agreement.specs.Agree.{Agreeing, Agree, objects_from}
use Rattle.agreement.proofs.Lookups.{known_is, place-of, count-is, pair_is, thread-count-is}
use Rattle.agreement_form.specs.Form.{Form}
use Rattle.agreement_form.proofs.ThreadRecords.{has-state, thread-numbers, runs-if-current}

-- ---- lists that stand in the words

module _ (w : List ℕ) (place : ℕ) where
  unknown-none : (m i : ℕ) → ((k : ℕ) → i ≤ k → k < i + m → valid w (kind_in w place k) (key_in w place k) ≡ true) → unknown_in m w w place i ≡ false
  unfolding unknown_in
  unknown-none zero i h = refl
  unknown-none (suc m) i h =
      ap (λ (t : Bool). cond t (unknown_in m w w place (i + 1)) true) (h i (omega arith) (omega arith)) ∙ unknown-none m (i + 1) (λ k p q. h k (omega arith) (omega arith))

  -- the pairs from position `i` on are those of the list
  abbrev pub Pairs : ℕ → List Named → Type 0
  Pairs i l = (k : ℕ) (n : Named) → nth l k ≡ some n → (kind_in w place (i + k) ≡ n.kind) × (key_in w place (i + k) ≡ n.key)

  next-pairs : (i : ℕ) (x : Named) (l : List Named) → Pairs i (x ∷ l) → Pairs (i + 1) l
  next-pairs i x l h k n e =
      let z : i + suc k ≡ i + 1 + k = omega arith in
      subst (λ (j : ℕ). (kind_in w place j ≡ n.kind) × (key_in w place j ≡ n.key)) z (h (suc k) n e)

  first-pair : (i : ℕ) (x : Named) (l : List Named) → Pairs i (x ∷ l) → (kind_in w place i ≡ x.kind) × (key_in w place i ≡ x.key)
  first-pair i x l h = subst (λ (j : ℕ). (kind_in w place j ≡ x.kind) × (key_in w place j ≡ x.key)) (let z : i + 0 ≡ i = omega arith in z) (h 0 x refl)

  and-swap : (a b : Bool) → cond a b false ≡ (b && a)
  and-swap true true = refl
  and-swap true false = refl
  and-swap false true = refl
  and-swap false false = refl

  has-pair : (i : ℕ) (l : List Named) (n : Named) → Pairs i l → has_pair (length l) w place i n.kind n.key ≡ listed n l
  unfolding has_pair is_pair
  has-pair i [] n h = refl
  has-pair i (x ∷ l) n h =
      let p = first-pair i x l h in
      ap (λ (k : ℕ). cond (cond (eqb k n.key) (eqb (kind_in w place i) n.kind) false) true (has_pair (length l) w place (i + 1) n.kind n.key)) p.1
      ∙ ap (λ (k : ℕ). cond (cond (eqb x.key n.key) (eqb k n.kind) false) true (has_pair (length l) w place (i + 1) n.kind n.key)) p.0
      ∙ ap (λ (b : Bool). cond b true (has_pair (length l) w place (i + 1) n.kind n.key)) (and-swap (eqb x.key n.key) (eqb x.kind n.kind))
      ∙ ap (λ (b : Bool). cond (same_named x n) true b) (has-pair (i + 1) l n (next-pairs i x l h))

  pub duplicate-is : (i : ℕ) (l : List Named) → Pairs i l → duplicate_in (length l) w place i ≡ has_duplicate l
  unfolding duplicate_in
  duplicate-is i [] h = refl
  duplicate-is i (x ∷ l) h =
      let p = first-pair i x l h in
      ap (λ (k : ℕ). cond (has_pair (length l) w place (i + 1) k (key_in w place i)) true (duplicate_in (length l) w place (i + 1))) p.0
      ∙ ap (λ (k : ℕ). cond (has_pair (length l) w place (i + 1) x.kind k) true (duplicate_in (length l) w place (i + 1))) p.1
      ∙ ap (λ (b : Bool). cond b true (duplicate_in (length l) w place (i + 1))) (has-pair (i + 1) l x (next-pairs i x l h))
      ∙ ap (λ (b : Bool). cond (listed x l) true b) (duplicate-is (i + 1) l (next-pairs i x l h))

module _ (w : List ℕ) (s : State) (holder : ℕ → ℕ) (active : ℕ) (a : Agreeing w s holder active) where
  -- an object that a list names
  pub valid-is : (n : Named) → valid w n.kind n.key ≡ exists s.dispatcher n
  unfolding valid
  valid-is n =
      ap (λ (b : Bool). cond (eqb n.kind 3) b (not (eqb (place_of w n.kind n.key) 0))) (known_is w s holder active a n.key)
      ∙ ap (λ (p : ℕ). cond (eqb n.kind 3) (is_thread s.dispatcher n.key) (not (eqb p 0))) (place-of w s holder active a n.kind n.key)
      ∙ ap (λ (b : Bool). cond (eqb n.kind 3) (is_thread s.dispatcher n.key) b) (go (object_at s.dispatcher.objects n.key))
    where
      place : ℕ
      place = objects_from s.limits + 32 * below key_of n.key s.dispatcher.objects

      of-kind : (x : Object) (b : Bool) → not (eqb (cond b place 0) 0) ≡ present (cond b (some x) none)
      of-kind x true = ap not (ne_eqb place 0 (λ q. omega arith))
      of-kind x false = refl

      go : (o : Option Object) → not (eqb (given o 0 (λ x. cond (eqb (kind_of x) n.kind) place 0)) 0) ≡ present (of_kind n.kind o)
      go none = refl
      go (some x) = of-kind x (eqb (kind_of x) n.kind)

module _ (w : List ℕ) (s : State) (a : Agree w s) (v : Form s) (id : ℕ) (one : 1 ≤ id) (le : id ≤ length s.dispatcher.threads) where
  -- what the check asks of a waiting thread alone
  of-waiting : (b : Bool) → ((x : Wait) → status_of s.dispatcher id ≡ waiting x → b ≡ true) → cond (has_state w id 3) b true ≡ true
  of-waiting b h = ap (λ (t : Bool). cond t b true) (has-state w s a v id one le 3) ∙ go (status_of s.dispatcher id) refl
    where
      go : (x : Status) → status_of s.dispatcher id ≡ x → cond (eqb (status_number (status_of s.dispatcher id)) 3) b true ≡ true
      go running e = simp e
      go ready e = simp e
      go (exited m) e = simp e
      go (waiting x) e = ap (λ (y : Status). cond (eqb (status_number y) 3) b true) e ∙ h x e

  module _ (x : Wait) (e : status_of s.dispatcher id ≡ waiting x) where
    fits : WaitValid s.dispatcher x
    fits = subst (WaitingValid s.dispatcher) e (v.sound.waits id)

    pairs : Pairs w (words.places_at id) 0 x.objects
    pairs k m q =
        let z : k ≡ 0 + k = omega arith in
        subst (λ (j : ℕ). (kind_in w (words.places_at id) j ≡ m.kind) × (key_in w (words.places_at id) j ≡ m.key)) z
        (pair_is w s (holder_of s.dispatcher.objects) (active_address s.dpcs.table) a id one le x e k m q)

    counted : words.count_of w id ≡ length x.objects
    counted = count-is w s (holder_of s.dispatcher.objects) (active_address s.dpcs.table) a id one le x e

    known-each : (k : ℕ) → k < length x.objects → valid w (kind_in w (words.places_at id) k) (key_in w (words.places_at id) k) ≡ true
    known-each k h = go (nth-some x.objects k h)
      where
        go : ((m : Named) × (nth x.objects k ≡ some m)) → valid w (kind_in w (words.places_at id) k) (key_in w (words.places_at id) k) ≡ true
        go (m, q) =
            let p = pair_is w s (holder_of s.dispatcher.objects) (active_address s.dpcs.table) a id one le x e k m q in
            ap (λ (i : ℕ). valid w i (key_in w (words.places_at id) k)) p.0 ∙ ap (valid w m.kind) p.1 ∙ valid-is w s (holder_of s.dispatcher.objects) (active_address s.dpcs.table) a m
            ∙ fits.exist m (nth-mem x.objects k m q)

    known-all : not (unknown_in (words.count_of w id) w w (words.places_at id) 0) ≡ true
    known-all =
        ap (λ (m : ℕ). not (unknown_in m w w (words.places_at id) 0)) counted
        ∙ ap not (unknown-none w (words.places_at id) (length x.objects) 0 (λ k p q. known-each k (omega arith)))

    each-once : not (duplicate_in (words.count_of w id) w (words.places_at id) 0) ≡ true
    each-once =
        ap (λ (m : ℕ). not (duplicate_in m w (words.places_at id) 0)) counted
        ∙ ap not (duplicate-is w (words.places_at id) 0 x.objects pairs ∙ fits.once)

  waits-for-known : waits_for_known w id ≡ true
  unfolding waits_for_known
  waits-for-known = of-waiting (not (unknown_in (words.count_of w id) w w (words.places_at id) 0)) known-all

  waits-for-each-once : waits_for_each_once w id ≡ true
  unfolding waits_for_each_once
  waits-for-each-once = of-waiting (not (duplicate_in (words.count_of w id) w (words.places_at id) 0)) each-once

  pub thread-passes : thread_passes w id ≡ true
  unfolding thread_passes
  thread-passes = simp (thread-numbers w s a v id one le, runs-if-current w s a v id one le, waits-for-known, waits-for-each-once)

-- ---- all of them

threads-in : (w : List ℕ) (m i : ℕ) → ((y : ℕ) → i ≤ y → y < i + m → thread_passes w y ≡ true) → threads_in m w i ≡ true
unfolding threads_in
threads-in w zero i h = refl
threads-in w (suc m) i h = ap (λ (t : Bool). cond t (threads_in m w (i + 1)) false) (h i (omega arith) (omega arith)) ∙ threads-in w m (i + 1) (λ y p q. h y (omega arith) (omega arith))

pub threads-pass : (w : List ℕ) (s : State) → Agree w s → Form s → threads_pass w ≡ true
unfolding threads_pass
threads-pass w s a v =
    ap (λ (m : ℕ). threads_in m w 1) (thread-count-is w s (holder_of s.dispatcher.objects) (active_address s.dpcs.table) a)
    ∙ threads-in w (length s.dispatcher.threads) 1 (λ y p q. thread-passes w s a v y p (omega arith))
