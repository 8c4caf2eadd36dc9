-- The writers of records as runs of stores. What holds of every run (what it leaves, what a row says after it) then holds of each.
use Prim.Native.Nat.{ℕ, zero, suc, ◌+◌, ◌*◌, ◌≤◌, ◌<◌}
use mathlib.Core.List.{List, [], ◌∷◌}
use mathlib.Core.Path.{◌≡◌, refl, ap, ◌∙◌, subst}
use native.Mathlib.Omega.{arith}
use lib.ListN.{get_or, set, length}
use Rattle.words.specs.Layout as at
use Rattle.words.specs.Layout.{thread_at}
use Rattle.threads.specs.declared.Thread as stored
use Rattle.threads.specs.declared.Wait as stored-wait
use Rattle.threads.specs.Thread.{put_thread, put_places, put_terms, put_wait, places_at}
use Rattle.objects.specs.declared.Object as stored-object
use Rattle.objects.specs.Objects.{put_object}
use Rattle.dpc_table.specs.declared.NewDpc.{NewDpc}
use Rattle.dpc_table.specs.Table.{put_idle, put_image, put_dpc}
use Rattle.agreement_chains.specs.Chains.{Same}
use Rattle.agreement.proofs.Rows.{Store, store, written, In, length-written, written-outside}
use Rattle.agreement.proofs.Places.{thread-place, Scalar, Waiting}

-- ---- a thread

abbrev pub thread_stores : stored.Thread → List Store
thread_stores t = store at.priority t.priority ∷ store at.state t.state ∷ store at.result t.result ∷ store at.status t.status ∷ []

pub thread-stores : (t : stored.Thread) → In Scalar (thread_stores t)
thread-stores t = (
  one 0 (omega arith) (λ e. omega arith) (λ e. omega arith),
  (
    one 1 (omega arith) (λ e. omega arith) (λ e. omega arith),
    (one 4 (omega arith) (λ e. omega arith) (λ e. omega arith), (one 5 (omega arith) (λ e. omega arith) (λ e. omega arith), tt)),
  ),
)
  where
    one : (k : ℕ) → k ≤ 5 → (k ≡ 2 → ⊥) → (k ≡ 3 → ⊥) → Scalar k
    one k h a b = record { small = h; no-next = a; no-waiter = b }

pub put-thread : (w : List ℕ) (id : ℕ) (t : stored.Thread) → id ≤ at.most_threads → put_thread w id t ≡ written w (at.thread_from id) (thread_stores t)
unfolding put_thread
put-thread w id t h = ap (λ (from : ℕ). written w from (thread_stores t)) (thread-place id h)

-- ---- a wait

abbrev pub term_stores : stored-wait.Wait → List Store
term_stores x = store at.wait_all x.all ∷ store at.has_deadline x.timed ∷ store at.deadline x.deadline ∷ store at.wait_sequence x.sequence ∷ store at.wait_count x.count ∷ []

-- the `k` words of places from `i` on
abbrev pub place_stores : ℕ → List ℕ → ℕ → List Store
place_stores zero places i = []
place_stores (suc k) places i = store i (get_or places i 0) ∷ place_stores k places (i + 1)

pub put-terms : (w : List ℕ) (id : ℕ) (x : stored-wait.Wait) → id ≤ at.most_threads → put_terms w id x ≡ written w (at.thread_from id) (term_stores x)
unfolding put_terms
put-terms w id x h = ap (λ (from : ℕ). written w from (term_stores x)) (thread-place id h)

pub put-places : (k : ℕ) (w : List ℕ) (place : ℕ) (places : List ℕ) (i : ℕ) → put_places k w place places i ≡ written w place (place_stores k places i)
unfolding put_places
put-places zero w place places i = refl
put-places (suc k) w place places i = put-places k (set w (place + i) (get_or places i 0)) place places (i + 1)

pub put-wait : (w : List ℕ) (id : ℕ) (x : stored-wait.Wait) → id ≤ at.most_threads
    → put_wait w id x ≡ written (written w (at.thread_from id) (term_stores x)) (at.thread_word at.wait_places id) (place_stores (2 * x.count) x.places 0)
unfolding put_wait places_at
put-wait w id x h =
    put-places (2 * x.count) (put_terms w id x) (thread_at id + at.wait_places) x.places 0
    ∙ ap (λ (v : List ℕ). written v (thread_at id + at.wait_places) (place_stores (2 * x.count) x.places 0)) (put-terms w id x h)
    ∙ ap (λ (from : ℕ). written (written w (at.thread_from id) (term_stores x)) from (place_stores (2 * x.count) x.places 0))
    (let e : thread_at id + at.wait_places ≡ at.thread_word at.wait_places id = omega (arith, thread-place id h) in e)

pub place-stores : (k : ℕ) (places : List ℕ) (i n : ℕ) → i + k ≤ n → In (λ j. j < n) (place_stores k places i)
place-stores zero places i n h = tt
place-stores (suc k) places i n h = (omega arith, place-stores k places (i + 1) n (omega arith))

pub term-stores : (x : stored-wait.Wait) → In Waiting (term_stores x)
term-stores x = (
  one at.wait_all (omega arith) (omega arith),
  (
    one at.has_deadline (omega arith) (omega arith),
    (
      one at.deadline (omega arith) (omega arith),
      (
        one at.wait_sequence (omega arith) (omega arith),
        (one at.wait_count (omega arith) (omega arith), tt),
      ),
    ),
  ),
)
  where
    one : (k : ℕ) → at.wait_all ≤ k → k < at.thread_size → Waiting k
    one k a b = record { from = a; to = b }

-- a wait of at most 64 places is written in its thread's record from `wait_all` on
pub wait-outside : (R : ℕ → Type 0) (w : List ℕ) (id : ℕ) (x : stored-wait.Wait) → id ≤ at.most_threads → x.count ≤ 64 → ((d : ℕ) → Waiting d → R (at.thread_from id + d) → ⊥) → Same R w (put_wait w id x)
wait-outside R w id x h few n j r = ap (λ (v : List ℕ). get_or v j 0) (put-wait w id x h)
    ∙ written-outside R (λ k. k < 128) (written w (at.thread_from id) (term_stores x)) (at.thread_word at.wait_places id) (place_stores (2 * x.count) x.places 0)
    (place-stores (2 * x.count) x.places 0 128 (omega arith))
    (λ k l q. n (32 + k) (record { from = omega arith; to = omega arith }) (subst R (omega arith) q)) j r
    ∙ written-outside R Waiting w (at.thread_from id) (term_stores x) (term-stores x) n j r

pub length-wait : (w : List ℕ) (id : ℕ) (x : stored-wait.Wait) → id ≤ at.most_threads → length (put_wait w id x) ≡ length w
length-wait w id x h = ap (λ (v : List ℕ). length v) (put-wait w id x h)
    ∙ length-written (written w (at.thread_from id) (term_stores x)) (at.thread_word at.wait_places id) (place_stores (2 * x.count) x.places 0)
    ∙ length-written w (at.thread_from id) (term_stores x)

-- ---- an object, a DPC: place + 0 is the place

abbrev pub object_stores : ℕ → stored-object.Object → List Store
object_stores key o = store at.key key ∷ store at.kind o.kind ∷ store at.manual o.manual ∷ store at.signaled o.signaled ∷ store at.owner o.owner ∷ []

pub put-object : (w : List ℕ) (place key : ℕ) (o : stored-object.Object) → put_object w place key o ≡ written w place (object_stores key o)
unfolding put_object
put-object w place key o =
    ap (λ (p : ℕ). set (set (set (set (set w p key) (place + at.kind) o.kind) (place + at.manual) o.manual) (place + at.signaled) o.signaled) (place + at.owner) o.owner)
    (let e : place ≡ place + 0 = omega arith in e)

abbrev pub dpc_stores : ℕ → NewDpc → List Store
dpc_stores address d =
    store at.address address ∷ store at.phase 0 ∷ store at.next_queued 0 ∷ store at.named_by 0 ∷ store at.dpc_architecture d.architecture ∷ store at.dpc_backing d.backing ∷ store at.dpc_base d.base ∷ store at.dpc_size d.size
    ∷ store at.dpc_mapped d.mapped ∷ store at.routine d.routine ∷ store at.context d.context ∷ []

pub put-dpc : (w : List ℕ) (place address : ℕ) (d : NewDpc) → put_dpc w place address d ≡ written w place (dpc_stores address d)
unfolding put_dpc put_image put_idle
put-dpc w place address d =
    ap (λ (p : ℕ). put_image (set (set (set (set w p address) (place + at.phase) 0) (place + at.next_queued) 0) (place + at.named_by) 0) place d)
    (let e : place ≡ place + 0 = omega arith in e)
