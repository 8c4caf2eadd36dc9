-- An accepted `open`, on any words that are enough, agrees with the state of the log that it starts.
use Prim.Native.Nat.{ℕ, zero, suc, ◌+◌, ◌*◌, ◌≤◌, ◌<◌, zero-le}
use mathlib.Core.List.{List, [], ◌∷◌}
use mathlib.Core.Bool.{Bool, true, false, cond}
use mathlib.Core.Option.{Option, none, some}
use mathlib.Core.Path.{◌≡◌, refl, sym, ap, ◌∙◌, subst}
use native.Mathlib.Omega.{arith}
use native.Mathlib.Decide.{ℕ_discrete}
use borrow.Author.Tests.{ltb-false}
use lib.Dec.{ltb}
use lib.ListN.{get_or, set, length, length-set}
use Rattle.words.specs.Layout as at
use Rattle.threads.specs.Thread.{put_thread, put_wait, no_wait}
use Rattle.chains.specs.declared.Chain.{Chain}
use Rattle.opening.specs.Open.{bad_priority, bad_limits, words_needed, open_refusal, cleared, limited, started}
use Rattle.model.specs.State.{Limits, Counters, unselected}
use Rattle.model.specs.Threads.{thread_at, first_thread}
use Rattle.model.specs.Step.{opened}
use Rattle.model.specs.Valid.{LimitsValid}
use Rattle.model.proofs.TableLaws.{none-some, some_same}
use Rattle.agreement_chains.specs.Chains.{Holds, Same}
use Rattle.agreement_chains.proofs.Frames.{read-other, read_same, holds-none}
use Rattle.agreement_chains.proofs.ReadyLaws.{ready-none}
use Rattle.agreement.specs.Row.{Row}
use Rattle.agreement.specs.Records.{header, thread_row}
use Rattle.agreement.specs.Chains.{queue_from}
use Rattle.agreement.specs.Shape.{ThreadFits}
use Rattle.agreement.specs.Agree.{WaitOf, WaitKept, Agree}
use Rattle.agreement.proofs.Rows.{store, Store, written, row_written, row-depends, says-short, written-outside, length-written}
use Rattle.agreement.proofs.Places.{waiters-chain}
use Rattle.agreement.proofs.Frames.{kept-depends}
use Rattle.agreement.proofs.Writers.{length-wait}
use Rattle.agreement.proofs.Threads.{stored_of, thread-writes, length-thread, thread-shows}
use Rattle.agreement.proofs.Waits.{InForm, kept-shows, wait-writes}

-- ---- what an accepted open was given

pub record Accepted (w : List ℕ) (p t o d : ℕ) : Type 0 where
  pub one : 1 ≤ p
  pub small : p ≤ 31
  pub limits : LimitsValid (record { threads = t; objects = o; dpcs = d })
  pub enough : at.header_size + at.thread_size * t + 32 * (o + d) ≤ length w

pub accepted : (w : List ℕ) (p t o d : ℕ) → open_refusal w p t o d ≡ 0 → Accepted w p t o d
unfolding open_refusal bad_priority bad_limits
accepted w p t o d = go (ltb p 1) (ltb 31 p) (ltb t 1) (ltb at.most_threads t) (ltb 4096 o) (ltb 4096 d) (ltb (length w) (words_needed t o d)) refl refl refl refl refl refl refl
  where
    go : (a b c e f g h : Bool) → ltb p 1 ≡ a → ltb 31 p ≡ b → ltb t 1 ≡ c → ltb at.most_threads t ≡ e → ltb 4096 o ≡ f → ltb 4096 d ≡ g → ltb (length w) (words_needed t o d) ≡ h
        → ◌≡◌ {A = ℕ} (cond (cond a true b) 1 (cond (cond c true (cond e true (cond f true g))) 27 (cond h 27 0))) 0 → Accepted w p t o d
    go true b c e f g h q₁ q₂ q₃ q₄ q₅ q₆ q₇ q = absurd (omega arith)
    go false true c e f g h q₁ q₂ q₃ q₄ q₅ q₆ q₇ q = absurd (omega arith)
    go false false true e f g h q₁ q₂ q₃ q₄ q₅ q₆ q₇ q = absurd (omega arith)
    go false false false true f g h q₁ q₂ q₃ q₄ q₅ q₆ q₇ q = absurd (omega arith)
    go false false false false true g h q₁ q₂ q₃ q₄ q₅ q₆ q₇ q = absurd (omega arith)
    go false false false false false true h q₁ q₂ q₃ q₄ q₅ q₆ q₇ q = absurd (omega arith)
    go false false false false false false true q₁ q₂ q₃ q₄ q₅ q₆ q₇ q = absurd (omega arith)
    go false false false false false false false q₁ q₂ q₃ q₄ q₅ q₆ q₇ q = record {
      one = ltb-false p 1 q₁;
      small = ltb-false 31 p q₂;
      limits = record { some_thread = ltb-false t 1 q₃; threads = ltb-false at.most_threads t q₄; objects = ltb-false 4096 o q₅; dpcs = ltb-false 4096 d q₆ };
      enough = ltb-false (length w) (words_needed t o d) q₇;
    }

-- ---- cleared words

pub cleared-length : (k : ℕ) (w : List ℕ) → length (cleared k w) ≡ length w
unfolding cleared
cleared-length zero w = refl
cleared-length (suc k) w = length-set (cleared k w) k 0 ∙ cleared-length k w

pub cleared-read : (k : ℕ) (w : List ℕ) (j : ℕ) → k ≤ length w → j < k → get_or (cleared k w) j 0 ≡ 0
unfolding cleared
cleared-read zero w j h l = absurd (omega arith)
cleared-read (suc k) w j h l = go (ℕ_discrete j k) (cleared-read k w j (omega arith))
  where
    go : Dec (j ≡ k) → (j < k → get_or (cleared k w) j 0 ≡ 0) → get_or (set (cleared k w) k 0) j 0 ≡ 0
    go (yes e) r = ap (λ (i : ℕ). get_or (set (cleared k w) k 0) i 0) e ∙ read_same (cleared k w) k 0 (omega (arith, cleared-length k w))
    go (no n) r = read-other (cleared k w) k j 0 n ∙ r (omega (arith, n))

-- ---- rows of noughts

abbrev pub Noughts : List (Option ℕ) → Type 0
Noughts [] = Unit
Noughts (none ∷ xs) = Noughts xs
Noughts (some n ∷ xs) = (n ≡ 0) × Noughts xs

pub nought : (row : List (Option ℕ)) → Noughts row → (k n : ℕ) → get_or row k none ≡ some n → (n ≡ 0) × (k < length row)
nought [] h k n e = absurd (none-some n e)
nought (none ∷ xs) h zero n e = absurd (none-some n e)
nought (none ∷ xs) h (suc k) n e = let r = nought xs h k n e in (r.0, omega (arith, r.1))
nought (some m ∷ xs) h zero n e = (sym (some_same m n e) ∙ h.0, omega arith)
nought (some m ∷ xs) h (suc k) n e = let r = nought xs h.1 k n e in (r.0, omega (arith, r.1))

-- no threads, no time, no policy, no counts
abbrev pub no_limits : Limits
no_limits = record { threads = 0; objects = 0; dpcs = 0 }

abbrev pub no_counts : Counters
no_counts = record { accepted = 0; duplicates = 0; removed = 0; started = 0; returned = 0; restored = 0 }

abbrev pub bare : List (Option ℕ)
bare = header no_limits 0 0 0 0 0 0 unselected no_counts 0 0 0

no-noughts : Noughts bare
no-noughts = (refl, (refl, (refl, (refl, (refl, (refl, (refl, (refl, (refl, (refl, (refl, (refl, (refl, (refl, (refl, (refl, (refl, (refl, (refl, (refl, (refl, tt)))))))))))))))))))))

-- ---- the words after it

wait-in-form : InForm no_wait
unfolding no_wait
wait-in-form = record { of-all = omega arith; of-timed = omega arith; few = omega arith; kinds = λ k h. absurd (omega arith) }

abbrev limit_stores : ℕ → ℕ → ℕ → List Store
limit_stores t o d = store at.thread_limit t ∷ store at.object_limit o ∷ store at.dpc_limit d ∷ store at.threads 1 ∷ store at.current 1 ∷ []

module _ (w : List ℕ) (p t o d : ℕ) (h : Accepted w p t o d) where
  abbrev w₀ : List ℕ
  w₀ = cleared at.unused w

  abbrev w₁ : List ℕ
  w₁ = written w₀ 0 (limit_stores t o d)

  abbrev w₂ : List ℕ
  w₂ = put_wait w₁ 1 no_wait

  abbrev w₃ : List ℕ
  w₃ = put_thread w₂ 1 (stored_of (first_thread p))

  long : 416 ≤ length w
  long = omega (arith, h.enough, h.limits.some_thread)

  len₁ : length w₁ ≡ length w
  len₁ = length-written w₀ 0 (limit_stores t o d) ∙ cleared-length at.unused w

  len₂ : length w₂ ≡ length w
  len₂ = length-wait w₁ 1 no_wait (omega arith) ∙ len₁

  len₃ : length w₃ ≡ length w
  len₃ = length-thread w₂ 1 (stored_of (first_thread p)) (omega arith) ∙ len₂

  -- the words before `unused` are not of the thread
  front : Same (λ j. j < at.unused) w₁ w₃
  front j l = thread-writes w₂ 1 (stored_of (first_thread p)) (omega arith) j (λ k. omega (arith, k.here))
      ∙ wait-writes w₁ 1 no_wait (omega arith) wait-in-form.few j (λ k. omega (arith, k.here))

  -- the words of limits, counts and the current thread aside they are 0
  empty : (j : ℕ) → 7 ≤ j → j < at.unused → get_or w₃ j 0 ≡ 0
  empty j a b = front j b
      ∙ written-outside (λ i. 7 ≤ i) (λ k. k < 7) w₀ 0 (limit_stores t o d) (omega arith, (omega arith, (omega arith, (omega arith, (omega arith, tt))))) (λ k l q. omega arith) j a
      ∙ cleared-read at.unused w j (omega (arith, long)) b

  numbers : Row w₃ 0 (header (record { threads = t; objects = o; dpcs = d }) 1 0 0 1 0 0 unselected no_counts 0 0 0)
  numbers = row-depends w₁ w₃ 0 (header (record { threads = t; objects = o; dpcs = d }) 1 0 0 1 0 0 unselected no_counts 0 0 0)
      (λ j x. let q : x.word < 26 = says-short (header (record { threads = t; objects = o; dpcs = d }) 1 0 0 1 0 0 unselected no_counts 0 0 0) x.word x.holds x.says in
      front j (omega (arith, x.here)))
      (row_written (λ k. k < 7) w₀ 0 bare (limit_stores t o d) (omega arith, (omega arith, (omega arith, (omega arith, (omega arith, tt)))))
      (λ k l. omega (arith, cleared-length at.unused w, long))
      (λ k n e. let r = nought bare no-noughts k n e in let q : k < 26 = r.1 in cleared-read at.unused w (0 + k) (omega (arith, long)) (omega arith) ∙ sym r.0))

  pub agree-started : Agree (started w p t o d) (opened p t o d)
  unfolding started limited opened
  agree-started = record {
    enough = subst (λ (m : ℕ). at.header_size + at.thread_size * t + 32 * (o + d) ≤ m) (sym len₃) h.enough;
    numbers = numbers;
    threads = λ i a b. let e : i ≡ 1 = omega arith in
        subst (λ (j : ℕ). Row w₃ (at.thread_from j) (thread_row (thread_at (first_thread p ∷ []) j))) (sym e) (thread-shows w₂ 1 (first_thread p) (omega arith) (omega (arith, len₂, long)));
    waits = record {
      kept = λ i a b. let e : i ≡ 1 = omega arith in subst (WaitKept w₃) (sym e)
          (kept-depends w₂ w₃ 1 (λ j f. thread-writes w₂ 1 (stored_of (first_thread p)) (omega arith) j (λ k. omega (arith, k.here, k.has.small, f.here, f.has.from)))
          (kept-shows w₁ 1 no_wait (omega arith) (omega (arith, len₁, long)) wait-in-form.few wait-in-form));
      current = λ i a b. let e : i ≡ 1 = omega arith in subst (λ (j : ℕ). WaitOf w₃ j (thread_at (first_thread p ∷ []) j).status) (sym e) tt;
    };
    queues = ready-none w₃ (empty 9 (omega arith) (omega arith)) (λ q b. (empty (32 + q) (omega arith) (omega arith), empty (64 + q) (omega arith) (omega arith)));
    waiters = subst (λ (c : Chain). Holds w₃ c []) (sym waiters-chain)
        (holds-none w₃ (record { first = at.waiters_first; last = at.waiters_last; link = at.waiters_link; stride = at.thread_size }) (empty at.waiters_first (omega arith) (omega arith)) (empty at.waiters_last (omega arith) (omega arith)));
    objects = λ i x e. absurd (none-some x e);
    dpcs = λ i x e. absurd (none-some x e);
    work = holds-none w₃ (queue_from (at.header_size + at.thread_size * t + 32 * o)) (empty at.queue_first (omega arith) (omega arith)) (empty at.queue_last (omega arith) (omega arith));
    shape = record {
      sizes = record { limits = h.limits; threads_fit = h.limits.some_thread; objects_fit = zero-le; dpcs_fit = zero-le };
      fit = λ i a b. let e : i ≡ 1 = omega arith in subst (λ (j : ℕ). ThreadFits (thread_at (first_thread p ∷ []) j)) (sym e) (record { one = h.one; small = h.small; wait = tt });
      ready_standing = record { within = λ i m. absurd m; once = tt };
      waiting_standing = record { within = λ i m. absurd m; once = tt };
      rising = tt;
      bounded = λ k x e. absurd (none-some x e);
      dpcs = record { rising = tt; placed = λ x m. absurd m; queued = λ x m. absurd m; once = tt };
      counted = zero-le;
    };
  }

-- any words: an accepted open agrees with the opened state
pub agree-opened : (w : List ℕ) (p t o d : ℕ) → open_refusal w p t o d ≡ 0 → Agree (started w p t o d) (opened p t o d)
agree-opened w p t o d e = agree-started w p t o d (accepted w p t o d e)
