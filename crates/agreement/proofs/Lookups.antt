-- What the words' definitions read from agreeing words is what the log says.
use Prim.Native.Nat.{ℕ, zero, suc, ◌+◌, ◌-◌, ◌*◌, ◌≤◌, ◌<◌}
use mathlib.Core.List.{List, [], ◌∷◌}
use mathlib.Core.Bool.{Bool, cond}
use mathlib.Core.Option.{Option, none, some}
use mathlib.Core.Path.{◌≡◌, refl, ap, ◌∙◌, subst}
use native.Mathlib.Omega.{arith}
use borrow.Author.Tests.{eq-eqb, ne_eqb, le-leb, le-ltb}
use lib.ListN.{get_or, length}
use lib.Dec.{eqb}
use Rattle.words.specs.Layout as at
use Rattle.threads.specs.Thread as words
use Rattle.objects.specs.Objects.{objects_base, dpcs_base, object_count, place_of, dpc_found}
use Rattle.dpcs.specs.Record.{dpc_count, place_at, number_of, queue_chain}
use Rattle.waits.specs.Lists.{kind_in, key_in}
use Rattle.images.specs.declared.Dpc.{Dpc}
use Rattle.model.specs.Lists.{nth, given}
use Rattle.model.specs.State.{State, waiting, Wait, Named, Object, mutex, event, timer}
use Rattle.model.specs.Threads.{thread_of, is_thread, status_of}
use Rattle.model.specs.Waits.{key_of, kind_of, object_at}
use Rattle.model.specs.Dpcs.{address_of, dpc_at}
use Rattle.model.proofs.TableLaws.{none-some, some_same}
use Rattle.agreement_tables.specs.Tables.{below}
use Rattle.agreement_tables.proofs.Lists.{find_at}
use Rattle.agreement_tables.proofs.Lookups as tables
use Rattle.agreement.specs.Row.{Row}
use Rattle.agreement.specs.Records.{flag, timed, status_number, result_number, exit_status, thread_row, places_row, object_row, dpc_row}
use Rattle.agreement.specs.Chains.{queue_from}
use Rattle.agreement.specs.Agree.{objects_from, dpcs_from, WaitIs, WaitOf, Agreeing}
use Rattle.agreement.proofs.Places.{thread-place, objects-place, entry_place}
use Rattle.agreement.proofs.Threads.{stored_of}
use Rattle.agreement.proofs.Headers.{threads-few, objects-few, dpcs-few}

module _ (w : List ℕ) (s : State) (holder : ℕ → ℕ) (active : ℕ) (a : Agreeing w s holder active) where
  -- ---- where the tables begin, and how many records they have

  pub base-is : objects_base w ≡ objects_from s.limits
  unfolding objects_base
  base-is = ap at.objects_at (a.numbers at.thread_limit s.limits.threads refl) ∙ objects-place s.limits.threads a.shape.sizes.limits.threads

  pub dpcs-base-is : dpcs_base w ≡ dpcs_from s.limits
  unfolding dpcs_base
  dpcs-base-is =
      ap (λ (b : ℕ). at.entry_at b (get_or w at.object_limit 0)) base-is ∙ ap (at.entry_at (objects_from s.limits)) (a.numbers at.object_limit s.limits.objects refl)
      ∙ entry_place (objects_from s.limits) s.limits.objects (omega (arith, a.shape.sizes.limits.threads)) (omega (arith, a.shape.sizes.limits.objects))

  pub queue-chain-is : queue_chain w ≡ queue_from (dpcs_from s.limits)
  unfolding queue_chain
  queue-chain-is = ap queue_from dpcs-base-is

  pub thread-count-is : words.thread_count w ≡ length s.dispatcher.threads
  unfolding words.thread_count
  thread-count-is = simp (a.numbers at.threads (length s.dispatcher.threads) refl, le-leb (length s.dispatcher.threads) at.most_threads (threads-few w s holder active a))

  pub object-count-is : object_count w ≡ length s.dispatcher.objects
  unfolding object_count
  object-count-is = simp (a.numbers at.objects (length s.dispatcher.objects) refl, le-leb (length s.dispatcher.objects) 4096 (objects-few w s holder active a))

  pub dpc-count-is : dpc_count w ≡ length s.dpcs.table
  unfolding dpc_count
  dpc-count-is = simp (a.numbers at.dpcs (length s.dpcs.table) refl, le-leb (length s.dpcs.table) 4096 (dpcs-few w s holder active a))

  -- DPC `n` of the table is record `n - 1`
  pub place_is : (i : ℕ) → i < length s.dpcs.table → place_at w (i + 1) ≡ dpcs_from s.limits + 32 * i
  unfolding place_at
  place_is i h =
      let few = dpcs-few w s holder active a in
      let e : i + 1 - 1 ≡ i = omega arith in
      simp (
        ne_eqb (i + 1) 0 (λ q. omega arith),
        le-ltb 4096 (i + 1) (omega arith),
        e,
        dpcs-base-is,
        entry_place (dpcs_from s.limits) i (omega (arith, a.shape.sizes.limits.threads, a.shape.sizes.limits.objects)) (omega arith),
      )

  -- ---- threads

  pub known_is : (id : ℕ) → words.known w id ≡ is_thread s.dispatcher id
  unfolding words.known
  known_is zero = refl
  known_is (suc id) =
      simp (a.numbers at.threads (length s.dispatcher.threads) refl, le-ltb (suc id) 1 (omega arith), ne_eqb (suc id) 0 (λ q. omega arith))

  module _ (id : ℕ) (one : 1 ≤ id) (le : id ≤ length s.dispatcher.threads) where
    few : id ≤ at.most_threads
    few = omega (arith, threads-few w s holder active a)

    -- word `k` of the record
    pub thread-word-is : (k n : ℕ) → get_or (thread_row (thread_of s.dispatcher id)) k none ≡ some n → get_or w (at.thread_at id + k) 0 ≡ n
    thread-word-is k n e = ap (λ (p : ℕ). get_or w (p + k) 0) (thread-place id few) ∙ a.threads id one le k n e

    pub thread-is : words.thread_of w id ≡ stored_of (thread_of s.dispatcher id)
    unfolding words.thread_of
    thread-is =
        let t = thread_of s.dispatcher id in
        simp (
          thread-word-is 0 t.priority refl,
          thread-word-is 1 (status_number t.status) refl,
          thread-word-is 4 (result_number t.result) refl,
          thread-word-is 5 (exit_status t.status) refl,
        )

    -- ---- what a waiting thread waits for

    module _ (x : Wait) (e : status_of s.dispatcher id ≡ waiting x) where
      pub waits-for : WaitIs w id x
      waits-for = subst (WaitOf w id) e (a.waits.current id one le)

      pub count-is : words.count_of w id ≡ length x.objects
      unfolding words.count_of
      count-is =
          let n = ap (λ (p : ℕ). get_or w p 0) (let q : at.thread_at id + at.wait_count ≡ at.thread_word at.wait_all id + 4 = omega (arith, thread-place id few) in q) ∙ waits-for.terms 4 (length x.objects) refl in
          let fits = subst Rattle.agreement.specs.Shape.StatusFits e (a.shape.fit id one le).wait in
          simp (n, le-leb (length x.objects) 64 fits.few)

      pub all-is : words.all_of w id ≡ flag x.all
      unfolding words.all_of
      all-is = ap (λ (p : ℕ). get_or w p 0) (let q : at.thread_at id + at.wait_all ≡ at.thread_word at.wait_all id + 0 = omega (arith, thread-place id few) in q) ∙ waits-for.terms 0 (flag x.all) refl

      pub timed-is : get_or w (at.thread_at id + at.has_deadline) 0 ≡ timed x.deadline
      timed-is = ap (λ (p : ℕ). get_or w p 0) (let q : at.thread_at id + at.has_deadline ≡ at.thread_word at.wait_all id + 1 = omega (arith, thread-place id few) in q) ∙ waits-for.terms 1 (timed x.deadline) refl

      pub deadline-is : (t : ℕ) → x.deadline ≡ some t → get_or w (at.thread_at id + at.deadline) 0 ≡ t
      deadline-is t q = ap (λ (p : ℕ). get_or w p 0) (let q : at.thread_at id + at.deadline ≡ at.thread_word at.wait_all id + 2 = omega (arith, thread-place id few) in q) ∙ waits-for.terms 2 t q

      pub sequence-is : get_or w (at.thread_at id + at.wait_sequence) 0 ≡ x.sequence
      sequence-is = ap (λ (p : ℕ). get_or w p 0) (let q : at.thread_at id + at.wait_sequence ≡ at.thread_word at.wait_all id + 3 = omega (arith, thread-place id few) in q) ∙ waits-for.terms 3 x.sequence refl

      -- the pair at position `k` of its list
      pub pair_is : (k : ℕ) (n : Named) → nth x.objects k ≡ some n → (kind_in w (words.places_at id) k ≡ n.kind) × (key_in w (words.places_at id) k ≡ n.key)
      unfolding kind_in key_in words.places_at
      pair_is k n q = (
        ap (λ (p : ℕ). get_or w p 0) (let z : at.thread_at id + at.wait_places + 2 * k ≡ at.thread_word at.wait_places id + 2 * k = omega (arith, thread-place id few) in z) ∙ waits-for.places (2 * k) n.kind (kinds x.objects k q),
        ap (λ (p : ℕ). get_or w p 0) (let z : at.thread_at id + at.wait_places + (2 * k + 1) ≡ at.thread_word at.wait_places id + (2 * k + 1) = omega (arith, thread-place id few) in z) ∙ waits-for.places (2 * k + 1) n.key (keys x.objects k q),
      )
        where
          kinds : (l : List Named) (k : ℕ) → nth l k ≡ some n → get_or (places_row l) (2 * k) none ≡ some n.kind
          kinds [] k q = absurd (none-some n q)
          kinds (m ∷ l) zero q = ap (λ (v : Named). some v.kind) (some_same m n q)
          kinds (m ∷ l) (suc k) q = ap (λ (i : ℕ). get_or (places_row (m ∷ l)) i none) (let z : 2 * suc k ≡ suc (suc (2 * k)) = omega arith in z) ∙ kinds l k q

          keys : (l : List Named) (k : ℕ) → nth l k ≡ some n → get_or (places_row l) (2 * k + 1) none ≡ some n.key
          keys [] k q = absurd (none-some n q)
          keys (m ∷ l) zero q = ap (λ (v : Named). some v.key) (some_same m n q)
          keys (m ∷ l) (suc k) q = ap (λ (i : ℕ). get_or (places_row (m ∷ l)) i none) (let z : 2 * suc k + 1 ≡ suc (suc (2 * k + 1)) = omega arith in z) ∙ keys l k q

-- ---- the tables: where a key's record stands

-- word 1 of a record is its kind
pub row-kind : (x : Object) → get_or (object_row x) 1 none ≡ some (kind_of x)
row-kind (mutex m) = refl
row-kind (event v) = refl
row-kind (timer t) = refl

module _ (w : List ℕ) (s : State) (holder : ℕ → ℕ) (active : ℕ) (a : Agreeing w s holder active) where
  low : objects_from s.limits ≤ 1000000
  low = omega (arith, a.shape.sizes.limits.threads)

  low' : dpcs_from s.limits ≤ 1000000
  low' = omega (arith, a.shape.sizes.limits.threads, a.shape.sizes.limits.objects)

  -- word 0 of a record is its key
  pub object-keys : (i : ℕ) (x : Object) → nth s.dispatcher.objects i ≡ some x → get_or w (objects_from s.limits + 32 * i) 0 ≡ key_of x
  object-keys i x e = ap (λ (p : ℕ). get_or w p 0) (let q : objects_from s.limits + 32 * i ≡ objects_from s.limits + 32 * i + 0 = omega arith in q) ∙ a.objects i x e 0 (key_of x) (go x)
    where
      go : (x : Object) → get_or (object_row x) 0 none ≡ some (key_of x)
      go (mutex m) = refl
      go (event v) = refl
      go (timer t) = refl

  pub object-kinds : (i : ℕ) (x : Object) → nth s.dispatcher.objects i ≡ some x → get_or w (objects_from s.limits + 32 * i + 1) 0 ≡ kind_of x
  object-kinds i x e = a.objects i x e 1 (kind_of x) (row-kind x)

  pub dpc-keys : (i : ℕ) (d : Dpc) → nth s.dpcs.table i ≡ some d → get_or w (dpcs_from s.limits + 32 * i) 0 ≡ address_of d
  dpc-keys i d e = ap (λ (p : ℕ). get_or w p 0) (let q : dpcs_from s.limits + 32 * i ≡ dpcs_from s.limits + 32 * i + 0 = omega arith in q) ∙ a.dpcs i d e 0 d.address refl

  -- the record of an object of a kind, 0 for none
  pub place-of : (kind k : ℕ) → place_of w kind k
      ≡ given (object_at s.dispatcher.objects k) 0 (λ x. cond (eqb (kind_of x) kind) (objects_from s.limits + 32 * below key_of k s.dispatcher.objects) 0)
  place-of kind k =
      tables.place_is key_of w (objects_from s.limits) s.dispatcher.objects low (omega arith) (base-is w s holder active a)
      (a.numbers at.objects (length s.dispatcher.objects) refl) (objects-few w s holder active a) a.shape.rising object-keys kind_of object-kinds kind k

  -- an object that the log finds
  pub object-place : (k : ℕ) (x : Object) → object_at s.dispatcher.objects k ≡ some x
      → place_of w (kind_of x) k ≡ objects_from s.limits + 32 * below key_of k s.dispatcher.objects
  object-place k x e =
      place-of (kind_of x) k
      ∙ ap (λ (o : Option Object). given o 0 (λ y. cond (eqb (kind_of y) (kind_of x)) (objects_from s.limits + 32 * below key_of k s.dispatcher.objects) 0)) e
      ∙ ap (λ (b : Bool). cond b (objects_from s.limits + 32 * below key_of k s.dispatcher.objects) 0) (eq-eqb (kind_of x) (kind_of x) refl)

  pub object-row : (k : ℕ) (x : Object) → object_at s.dispatcher.objects k ≡ some x
      → Row w (objects_from s.limits + 32 * below key_of k s.dispatcher.objects) (object_row x)
  object-row k x e = a.objects (below key_of k s.dispatcher.objects) x (find_at key_of s.dispatcher.objects a.shape.rising k x e)

  pub dpc-place : (k : ℕ) (d : Dpc) → dpc_at s.dpcs.table k ≡ some d → dpc_found w k ≡ dpcs_from s.limits + 32 * below address_of k s.dpcs.table
  dpc-place k d e =
      tables.dpc-found address_of w (dpcs_from s.limits) s.dpcs.table low' (omega arith) (dpcs-base-is w s holder active a)
      (a.numbers at.dpcs (length s.dpcs.table) refl) (dpcs-few w s holder active a) a.shape.dpcs.rising dpc-keys k d e

  pub dpc-number : (k : ℕ) (d : Dpc) → dpc_at s.dpcs.table k ≡ some d → number_of w k ≡ below address_of k s.dpcs.table + 1
  dpc-number k d e =
      tables.number-found address_of w (dpcs_from s.limits) s.dpcs.table low' (omega arith) (dpcs-base-is w s holder active a)
      (a.numbers at.dpcs (length s.dpcs.table) refl) (dpcs-few w s holder active a) a.shape.dpcs.rising dpc-keys k d e

  pub dpc-row : (k : ℕ) (d : Dpc) → dpc_at s.dpcs.table k ≡ some d
      → Row w (dpcs_from s.limits + 32 * below address_of k s.dpcs.table) (dpc_row (holder d.address) d)
  dpc-row k d e = a.dpcs (below address_of k s.dpcs.table) d (find_at address_of s.dpcs.table a.shape.dpcs.rising k d e)
