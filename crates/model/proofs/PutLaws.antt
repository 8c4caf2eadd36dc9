-- One record put: the one with its key is that record, and every other is as it was.
use Prim.Native.Nat.{ℕ, ◌≤◌, ◌<◌}
use mathlib.Core.List.{List}
use mathlib.Core.Bool.{Bool, true, false, cond}
use mathlib.Core.Option.{Option, none, some}
use mathlib.Core.Path.{◌≡◌, refl, sym, ap, ◌∙◌}
use native.Mathlib.Omega.{arith}
use borrow.Author.Tests.{ne_eqb, le-leb, lt-leb}
use lib.Dec.{eqb, leb}
use lib.ListN.{length}
use Rattle.images.specs.declared.Dpc.{Dpc}
use Rattle.model.specs.State.{State, Thread, Object}
use Rattle.model.specs.Threads.{thread_at, change_at, is_thread}
use Rattle.model.specs.Waits.{key_of, object_at, put_object}
use Rattle.model.specs.Dpcs.{address_of, dpc_at, put_dpc}
use Rattle.model.proofs.TableLaws.{find-put-own, find-put-other}
use Rattle.model.proofs.ThreadLaws.{length-change, change-own, change-other}
use Rattle.model.proofs.SoundLaws.{thread-is}
use Rattle.model.specs.Leaving.{thread_numbered, SameThreads, ThreadPut, ObjectPut, DpcPut}

-- the thread of a number, by the list of threads and a number of them
abbrev pub numbered_in : List Thread → ℕ → ℕ → Option Thread
numbered_in l n i = cond (cond (eqb i 0) false (leb i n)) (some (thread_at l i)) none

pub numbered-in : (l : List Thread) (n i : ℕ) → 1 ≤ i → i ≤ n → numbered_in l n i ≡ some (thread_at l i)
numbered-in l n i h k = ap (λ (b : Bool). cond (cond b false (leb i n)) (some (thread_at l i)) none) (ne_eqb i 0 (λ e. omega arith)) ∙ ap (λ (b : Bool). cond b (some (thread_at l i)) none) (le-leb i n k)

pub numbered-out : (l : List Thread) (n i : ℕ) → n < i → numbered_in l n i ≡ none
numbered-out l n i h = ap (λ (b : Bool). cond (cond (eqb i 0) false b) (some (thread_at l i)) none) (lt-leb i n h) ∙ neither (eqb i 0)
  where
    neither : (b : Bool) → cond (cond b false false) (some (thread_at l i)) none ≡ none
    neither true = refl
    neither false = refl

module _ (s after : State) where
  abbrev threads₀ : List Thread
  threads₀ = s.dispatcher.threads

  abbrev objects₀ : List Object
  objects₀ = s.dispatcher.objects

  pub thread-put : (i : ℕ) (x : Thread) → is_thread s.dispatcher i ≡ true → after.dispatcher.threads ≡ change_at s.dispatcher.threads i x → ThreadPut s after i x
  thread-put i x t e = let r = thread-is s.dispatcher i t in record {
    own = changed i ∙ ap (λ (b : Bool). cond b (some (thread_at (change_at threads₀ i x) i)) none) t ∙ ap {B = Option Thread} some (change-own threads₀ i x r.0 r.1);
    others = λ j n. changed j ∙ ap (λ (y : Thread). cond (is_thread s.dispatcher j) (some y) none) (change-other threads₀ i x j n);
  }
    where
      changed : (j : ℕ) → thread_numbered after j ≡ numbered_in (change_at threads₀ i x) (length threads₀) j
      changed j = ap (λ (l : List Thread). numbered_in l (length l) j) e ∙ ap (λ (n : ℕ). numbered_in (change_at threads₀ i x) n j) (length-change threads₀ i x)

  pub object-put : (key : ℕ) (x : Object) → key_of x ≡ key → after.dispatcher.objects ≡ put_object x s.dispatcher.objects → SameThreads s after → ObjectPut s after key x
  object-put key x e o t = record {
    own = ap (λ (l : List Object). object_at l key) o ∙ ap (object_at (put_object x objects₀)) (sym e) ∙ find-put-own key_of x objects₀;
    others = λ k n. ap (λ (l : List Object). object_at l k) o ∙ find-put-other key_of x objects₀ k (λ q. n (q ∙ e));
    threads = t;
  }

  pub dpc-put : (address : ℕ) (x : Dpc) → address_of x ≡ address → after.dpcs.table ≡ put_dpc x s.dpcs.table → after.dpcs.queue ≡ s.dpcs.queue → after.dpcs.counters ≡ s.dpcs.counters
      → after.dispatcher.objects ≡ s.dispatcher.objects → SameThreads s after → DpcPut s after address x
  dpc-put address x e o q c k t = record {
    own = ap (λ (l : List Dpc). dpc_at l address) o ∙ ap (dpc_at (put_dpc x s.dpcs.table)) (sym e) ∙ find-put-own address_of x s.dpcs.table;
    others = λ a n. ap (λ (l : List Dpc). dpc_at l a) o ∙ find-put-other address_of x s.dpcs.table a (λ z. n (z ∙ e));
    queue = q;
    counters = c;
    objects = k;
    threads = t;
  }
