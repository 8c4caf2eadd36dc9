-- Each component of agreement depends on its region of the words alone.
use Prim.Native.Nat.{ℕ, ◌+◌, ◌*◌, ◌≤◌, ◌<◌}
use mathlib.Core.List.{List, [], ◌∷◌}
use mathlib.Core.Bool.{true}
use mathlib.Core.Option.{Option, none, some}
use mathlib.Core.Logic.{inl, inr}
use mathlib.Core.Path.{◌≡◌, refl, sym, ap, ◌∙◌, subst}
use native.Mathlib.Omega.{arith}
use lib.ListN.{get_or, length}
use Rattle.words.specs.Layout as at
use Rattle.images.specs.declared.Dpc.{Dpc}
use Rattle.images.specs.declared.DpcWork.{DpcWork}
use Rattle.images.specs.declared.DpcOrigin.{DpcOrigin}
use Rattle.images.specs.declared.DpcOrigin.TheVariants as origin
use Rattle.chains.specs.declared.Chain.{Chain}
use Rattle.chains.specs.Ready.{waiters_chain}
use Rattle.model.specs.Lists.{Mem, nth, present}
use Rattle.model.specs.Table.{Rising}
use Rattle.model.specs.State.{State, Thread, Status, running, ready, waiting, exited, Named, Object, mutex, event, timer}
use Rattle.model.specs.Threads.{thread_at}
use Rattle.model.specs.Dpcs.{work_of, address_of, dpc_at}
use Rattle.model.proofs.TableLaws.{some_same, found}
use Rattle.model.proofs.DpcLaws.{present-some}
use Rattle.agreement_tables.specs.Tables.{below}
use Rattle.agreement_tables.proofs.Lists.{nth_in, find_at}
use Rattle.agreement_chains.proofs.Renumbers.{mem-map, distinct-map}
use Rattle.agreement_chains.specs.Chains.{Holds, Standing, Same, Own, Places}
use Rattle.agreement_chains.specs.Ready.{ReadyQueues}
use Rattle.agreement_chains.proofs.Frames.{holds-depends}
use Rattle.agreement_chains.proofs.ReadyLaws.{ready-depends}
use Rattle.agreement_chains.proofs.Placed.{sorted_of}
use Rattle.agreement.specs.Row.{Row, Of}
use Rattle.agreement.specs.Records.{thread_row, terms_row, places_row, object_row, work_row, origin_row, dpc_row, number_in, numbers_in}
use Rattle.agreement.specs.Chains.{queues_of, queue_from}
use Rattle.agreement.specs.Shape.{StatusFits, ThreadsFit, DpcsFit}
use Rattle.agreement.specs.Agree.{header_of, Threads, WaitOf, WaitKept, Waits, Objects, DpcTable}
use Rattle.agreement.proofs.Rows.{row-depends, says-short, silent}
use Rattle.agreement.proofs.Places.{ready-place, chain-place, Numbers, Field, Inner, Scalar, Waiting, Entry, Any, Unlinked, ChainWords, ReadyWords, WaiterWords, QueueWords}

-- ---- the header's numbers

-- the header row speaks of numbers only
pub header-word : (s : State) (active j : ℕ) → Of 0 (header_of s active) j → Numbers j
header-word s active j o =
    let e : j ≡ 0 + o.word = o.here in
    let h : o.word < 26 = says-short (header_of s active) o.word o.holds o.says in
    record {
      small = omega arith;
      no-ready = λ q. silent (header_of s active) 0 j 9 o refl (omega arith);
      no_end = λ a b. omega (arith, silent (header_of s active) 0 j 21 o refl, silent (header_of s active) 0 j 22 o refl, silent (header_of s active) 0 j 23 o refl, silent (header_of s active) 0 j 24 o refl);
    }

pub numbers-depend : (w w' : List ℕ) (s : State) (active : ℕ) → Same Numbers w w' → Row w 0 (header_of s active) → Row w' 0 (header_of s active)
numbers-depend w w' s active same a = row-depends w w' 0 (header_of s active) (λ j o. same j (header-word s active j o)) a

-- ---- threads

pub thread-word : (n i j : ℕ) (t : Thread) → 1 ≤ i → i ≤ n → Of (at.thread_from i) (thread_row t) j → Field n Scalar j
thread-word n i j t one le o =
    let h : o.word < 6 = says-short (thread_row t) o.word o.holds o.says in
    record {
      id = i;
      word = o.word;
      one = one;
      le = le;
      has = record { small = omega arith; no-next = silent (thread_row t) (at.thread_from i) j 2 o refl; no-waiter = silent (thread_row t) (at.thread_from i) j 3 o refl };
      here = o.here;
    }

pub threads-depend : (w w' : List ℕ) (l : List Thread) → Same (Field (length l) Scalar) w w' → Threads w l → Threads w' l
threads-depend w w' l same a i one le =
    row-depends w w' (at.thread_from i) (thread_row (thread_at l i)) (λ j o. same j (thread-word (length l) i j (thread_at l i) one le o)) (a i one le)

-- ---- waits

-- word `d` of the record of thread `i`
pub waiting-word : (i d j : ℕ) → at.wait_all ≤ d → d < at.thread_size → j ≡ at.thread_from i + d → Inner (at.thread_from i) Waiting j
waiting-word i d j h k e = record { word = d; has = record { from = h; to = k }; here = e }

-- a word of one thread's record is one of the threads' records
pub in_field : (n i : ℕ) (D : ℕ → Type 0) (j : ℕ) → 1 ≤ i → i ≤ n → Inner (at.thread_from i) D j → Field n D j
in_field n i D j one le o = record { id = i; word = o.word; one = one; le = le; has = o.has; here = o.here }

pub length-places : (l : List Named) → length (places_row l) ≡ 2 * length l
length-places [] = refl
length-places (x ∷ xs) = omega (arith, length-places xs)

module _ (w w' : List ℕ) (i : ℕ) (same : Same (Inner (at.thread_from i) Waiting) w w') where
  pub kept-depends : WaitKept w i → WaitKept w' i
  kept-depends a = record {
    all = subst (λ (m : ℕ). m ≤ 1) (sym (same (at.thread_word at.wait_all i) (waiting-word i at.wait_all _ (omega arith) (omega arith) (omega arith)))) a.all;
    timed = subst (λ (m : ℕ). m ≤ 1) (sym (same (at.thread_word at.has_deadline i) (waiting-word i at.has_deadline _ (omega arith) (omega arith) (omega arith)))) a.timed;
    count = subst (λ (m : ℕ). m ≤ 64) (sym count) a.count;
    kinds = λ k h. let l : k < get_or w (at.thread_word at.wait_count i) 0 = subst (λ (m : ℕ). k < m) count h in
        subst (λ (m : ℕ). m ≤ 3) (sym (same (at.thread_word at.wait_places i + 2 * k) (waiting-word i (at.wait_places + 2 * k) _ (omega arith) (omega (arith, a.count)) (omega arith)))) (a.kinds k l);
  }
    where
      count : get_or w' (at.thread_word at.wait_count i) 0 ≡ get_or w (at.thread_word at.wait_count i) 0
      count = same (at.thread_word at.wait_count i) (waiting-word i at.wait_count _ (omega arith) (omega arith) (omega arith))

  pub wait-depends : (x : Status) → StatusFits x → WaitOf w i x → WaitOf w' i x
  wait-depends running f a = tt
  wait-depends ready f a = tt
  wait-depends (exited m) f a = tt
  wait-depends (waiting x) f a = record {
    terms = row-depends w w' (at.thread_word at.wait_all i) (terms_row x)
        (λ j o. let h : o.word < 5 = says-short (terms_row x) o.word o.holds o.says in
        same j (waiting-word i (at.wait_all + o.word) j (omega arith) (omega arith) (omega (arith, o.here)))) a.terms;
    places = row-depends w w' (at.thread_word at.wait_places i) (places_row x.objects)
        (λ j o. let h = says-short (places_row x.objects) o.word o.holds o.says in
        same j (waiting-word i (at.wait_places + o.word) j (omega arith) (omega (arith, length-places x.objects, f.few)) (omega (arith, o.here)))) a.places;
  }

pub waits-depend : (w w' : List ℕ) (l : List Thread) → ThreadsFit l → Same (Field (length l) Waiting) w w' → Waits w l → Waits w' l
waits-depend w w' l f same a = record {
  kept = λ i one le. kept-depends w w' i (λ j o. same j (in_field (length l) i Waiting j one le o)) (a.kept i one le);
  current = λ i one le. wait-depends w w' i (λ j o. same j (in_field (length l) i Waiting j one le o)) (thread_at l i).status (f i one le).wait (a.current i one le);
}

-- ---- chains

pub chain-depends : (w w' : List ℕ) (c : Chain) (n : ℕ) (xs : List ℕ) → n ≤ 4096 → ((y : ℕ) → Mem y xs → y ≤ n) → Same (ChainWords c n) w w' → Holds w c xs → Holds w' c xs
chain-depends w w' c n xs few within same a = holds-depends w c xs a w' (λ j o. same j (chain-place c n j few (place j o)))
  where
    place : (j : ℕ) → Own c xs j → Places c n j
    place j (inl e) = inl e
    place j (inr (y, inl z, e)) = inr (y, omega arith, e)
    place j (inr (y, inr m, e)) = inr (y, within y m, e)

pub queues-depend : (w w' : List ℕ) (l : List Thread) (placed : List ℕ) → length l ≤ at.most_threads → Standing (length l) placed → Same (ReadyWords (length l)) w w'
    → ReadyQueues w (queues_of l placed) → ReadyQueues w' (queues_of l placed)
queues-depend w w' l placed few st same a =
    ready-depends (length l) w w' (queues_of l placed) (sorted_of (length l) (λ x. (thread_at l x).priority) placed st) (λ j r. same j (ready-place (length l) j few r)) a

pub waiters-depend : (w w' : List ℕ) (n : ℕ) (waiters : List ℕ) → n ≤ at.most_threads → Standing n waiters → Same (WaiterWords n) w w' → Holds w waiters_chain waiters → Holds w' waiters_chain waiters
waiters-depend w w' n waiters few st same a = chain-depends w w' waiters_chain n waiters (omega arith) (λ y m. (st.within y m).1) same a

-- the numbers of queued DPCs
pub number_at : (table : List Dpc) → Rising address_of table → (a : ℕ) → present (dpc_at table a) ≡ true → (d : Dpc) × (nth table (below address_of a table) ≡ some d) × (d.address ≡ a)
number_at table r a p = let q = present-some table a p in (q.0, find_at address_of table r a q.0 q.1, (found address_of table a q.0 q.1).1)

pub numbers-standing : (table : List Dpc) (queue : List ℕ) → DpcsFit table queue → Standing (length table) (numbers_in table queue)
numbers-standing table queue f = record {
  within = λ y m. let q = mem-map (number_in table) y queue m in
      let p = number_at table f.rising q.0 (f.queued q.0 q.1) in
      let h : below address_of q.0 table < length table = nth_in table (below address_of q.0 table) p.0 p.1 in (omega (arith, q.2), omega (arith, q.2));
  once = distinct-map (number_in table) queue
      (λ y z m k e. let p = number_at table f.rising y (f.queued y m) in let q = number_at table f.rising z (f.queued z k) in
      let z' : below address_of y table ≡ below address_of z table = omega arith in
      sym p.2 ∙ ap (λ (d : Dpc). d.address) (some_same p.0 q.0 (sym p.1 ∙ ap (nth table) z' ∙ q.1)) ∙ q.2) f.once;
}

pub work-depends : (w w' : List ℕ) (base : ℕ) (table : List Dpc) (queue : List ℕ) → length table ≤ 4096 → DpcsFit table queue → Same (QueueWords base (length table)) w w'
    → Holds w (queue_from base) (numbers_in table queue) → Holds w' (queue_from base) (numbers_in table queue)
work-depends w w' base table queue few f same a =
    chain-depends w w' (queue_from base) (length table) (numbers_in table queue) few (λ y m. ((numbers-standing table queue f).within y m).1) same a

-- ---- tables

pub object-short : (o : Object) → length (object_row o) < 32
object-short (mutex m) = omega arith
object-short (event e) = omega arith
object-short (timer t) = omega arith

pub object-word : (base n i j : ℕ) (x : Object) → i < n → Of (base + 32 * i) (object_row x) j → Entry base n Any j
object-word base n i j x h o =
    let k = says-short (object_row x) o.word o.holds o.says in
    record { number = i; word = o.word; below = h; has = omega (arith, object-short x); here = o.here }

pub objects-depend : (w w' : List ℕ) (base : ℕ) (l : List Object) → Same (Entry base (length l) Any) w w' → Objects w base l → Objects w' base l
objects-depend w w' base l same a i x e =
    row-depends w w' (base + 32 * i) (object_row x) (λ j o. same j (object-word base (length l) i j x (nth_in l i x e) o)) (a i x e)

work-short : (x : Option DpcWork) → length (work_row x) < 11
work-short none = omega arith
work-short (some x) = omega (arith, go x.origin)
  where
    go : (o : DpcOrigin) → length (origin_row o) ≡ 7
    go origin.Caller = refl
    go (origin.Timer a b c d e f) = refl

pub dpc-short : (holder : ℕ) (d : Dpc) → length (dpc_row holder d) < 32
dpc-short holder d = omega (arith, work-short (work_of d.phase))

pub dpc-word : (base n i j holder : ℕ) (d : Dpc) → i < n → Of (base + 32 * i) (dpc_row holder d) j → Entry base n Unlinked j
dpc-word base n i j holder d h o =
    let k = says-short (dpc_row holder d) o.word o.holds o.says in
    record {
      number = i;
      word = o.word;
      below = h;
      has = record { small = omega (arith, dpc-short holder d); no-link = silent (dpc_row holder d) (base + 32 * i) j 2 o refl };
      here = o.here;
    }

pub dpcs-depend : (w w' : List ℕ) (base : ℕ) (holder : ℕ → ℕ) (table : List Dpc) → Same (Entry base (length table) Unlinked) w w'
    → DpcTable w base holder table → DpcTable w' base holder table
dpcs-depend w w' base holder table same a i d e =
    row-depends w w' (base + 32 * i) (dpc_row (holder d.address) d)
    (λ j o. same j (dpc-word base (length table) i j (holder d.address) d (nth_in table i d e) o)) (a i d e)
