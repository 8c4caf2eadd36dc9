-- A wait written: the words then hold it, and of a thread that does not wait nothing else is said.
use Prim.Native.Nat.{ℕ, zero, suc, ◌+◌, ◌*◌, ◌≤◌, ◌<◌}
use mathlib.Core.List.{List, [], ◌∷◌, ◌++◌}
use mathlib.Core.Bool.{false}
use mathlib.Core.Option.{Option, none, some}
use mathlib.Core.Path.{◌≡◌, refl, sym, ap, ◌∙◌, subst}
use native.Mathlib.Omega.{arith}
use native.Mathlib.Decide.{ℕ_discrete}
use lib.ListN.{get_or, length}
use Rattle.words.specs.Layout as at
use Rattle.threads.specs.declared.Wait as stored-wait
use Rattle.threads.specs.Thread.{put_wait}
use Rattle.model.specs.State.{State, Status, running, ready, waiting, exited, Wait}
use Rattle.model.specs.Threads.{thread_at, is_waiting}
use Rattle.model.proofs.ListLaws.{not-both}
use Rattle.agreement_chains.specs.Chains.{Same}
use Rattle.agreement_chains.proofs.Frames.{read_same}
use Rattle.agreement.specs.Row.{Row}
use Rattle.agreement.specs.Records.{flag, timed, terms_row, places_row, thread_row}
use Rattle.agreement.specs.Agree.{WaitIs, WaitOf, WaitKept, Agreeing}
use Rattle.agreement.proofs.Rows.{row-depends, says-short, blank, row-blank, row_drop, row_written, written, written-outside, length-written}
use Rattle.agreement.proofs.Places.{Field, Scalar, Waiting, Own, Inner}
use Rattle.agreement.proofs.Frames.{length-places, thread-word, kept-depends, wait-depends}
use Rattle.agreement.proofs.Writers.{term_stores, place_stores, put-wait, place-stores, term-stores, wait-outside, length-wait}
use Rattle.agreement.proofs.Headers.{threads-few}
use Rattle.agreement.proofs.Threads.{stays-enough, stays-numbers, stays-queues, stays-waiters, stays-objects, stays-dpcs, stays-work}

-- ---- a wait of the log as the code writes it

pub record Stored (y : stored-wait.Wait) (x : Wait) : Type 0 where
  pub of-all : y.all ≡ flag x.all
  pub of-timed : y.timed ≡ timed x.deadline
  pub of-deadline : (d : ℕ) → x.deadline ≡ some d → y.deadline ≡ d
  pub of-sequence : y.sequence ≡ x.sequence
  pub of-count : y.count ≡ length x.objects
  pub of_places : Row y.places 0 (places_row x.objects)

-- flags, at most 64 places, kinds 0 to 3
pub record InForm (y : stored-wait.Wait) : Type 0 where
  pub of-all : y.all ≤ 1
  pub of-timed : y.timed ≤ 1
  pub few : y.count ≤ 64
  pub kinds : (k : ℕ) → k < y.count → get_or y.places (2 * k) 0 ≤ 3

-- the row of a wait with a deadline in the place of its own
abbrev pub row_with : Wait → Option ℕ → List (Option ℕ)
row_with x d = some (flag x.all) ∷ some (timed x.deadline) ∷ d ∷ some x.sequence ∷ some (length x.objects) ∷ []

pub wait-writes : (w : List ℕ) (id : ℕ) (y : stored-wait.Wait) → id ≤ at.most_threads → y.count ≤ 64 → Same (λ j. Inner (at.thread_from id) Waiting j → ⊥) w (put_wait w id y)
wait-writes w id y h few = wait-outside (λ j. Inner (at.thread_from id) Waiting j → ⊥) w id y h few (λ k d q. q (record { word = k; has = d; here = refl }))

-- ---- what the words then hold

pub places-show : (k : ℕ) (w : List ℕ) (place : ℕ) (places : List ℕ) (i m : ℕ) → place + i + k ≤ length w → m < k
    → get_or (written w place (place_stores k places i)) (place + i + m) 0 ≡ get_or places (i + m) 0
places-show zero w place places i m h l = absurd (omega arith)
places-show (suc k) w place places i zero h l =
    written-outside (λ j. j ≡ place + i + 0) (λ j. i < j) (lib.ListN.set w (place + i) (get_or places i 0)) place (place_stores k places (i + 1)) (later k (i + 1) (omega arith))
    (λ j q e. omega arith) (place + i + 0) refl
    ∙ ap (λ (j : ℕ). get_or (lib.ListN.set w (place + i) (get_or places i 0)) j 0) (let e : place + i + 0 ≡ place + i = omega arith in e)
    ∙ read_same w (place + i) (get_or places i 0) (omega arith)
    ∙ ap (λ (j : ℕ). get_or places j 0) (let e : i ≡ i + 0 = omega arith in e)
  where
    later : (k j : ℕ) → i < j → Rattle.agreement.proofs.Rows.In (λ z. i < z) (place_stores k places j)
    later zero j q = tt
    later (suc k) j q = (q, later k (j + 1) (omega arith))
places-show (suc k) w place places i (suc m) h l =
    ap (λ (j : ℕ). get_or (written (lib.ListN.set w (place + i) (get_or places i 0)) place (place_stores k places (i + 1))) j 0)
    (let e : place + i + suc m ≡ place + (i + 1) + m = omega arith in e)
    ∙ places-show k (lib.ListN.set w (place + i) (get_or places i 0)) place places (i + 1) m (omega (arith, lib.ListN.length-set w (place + i) (get_or places i 0))) (omega arith)
    ∙ ap (λ (j : ℕ). get_or places j 0) (let e : i + 1 + m ≡ i + suc m = omega arith in e)

module _ (w : List ℕ) (id : ℕ) (y : stored-wait.Wait) (h : id ≤ at.most_threads) (long : at.header_size + at.thread_size * id ≤ length w) (few : y.count ≤ 64) where
  abbrev terms : List ℕ
  terms = written w (at.thread_from id) (term_stores y)

  abbrev row : List (Option ℕ)
  row = some y.all ∷ some y.timed ∷ some y.deadline ∷ some y.sequence ∷ some y.count ∷ []

  -- the terms
  pub terms-show : Row (put_wait w id y) (at.thread_word at.wait_all id) (some y.all ∷ some y.timed ∷ some y.deadline ∷ some y.sequence ∷ some y.count ∷ [])
  terms-show = subst (λ (v : List ℕ). Row v (at.thread_word at.wait_all id) row) (sym (put-wait w id y h))
      (row-depends terms (written terms (at.thread_word at.wait_places id) (place_stores (2 * y.count) y.places 0)) (at.thread_word at.wait_all id) row
      (λ j o. let z : o.word < 5 = says-short row o.word o.holds o.says in
      written-outside (λ i. i < at.thread_word at.wait_places id) (λ k. k < 128) terms (at.thread_word at.wait_places id) (place_stores (2 * y.count) y.places 0)
      (place-stores (2 * y.count) y.places 0 128 (omega arith)) (λ k l q. omega arith) j (omega (arith, o.here)))
      (subst (λ (p : ℕ). Row terms p row) (let e : at.thread_from id + at.wait_all ≡ at.thread_word at.wait_all id = omega arith in e)
      (row_drop terms (at.thread_from id) (blank at.wait_all ++ row) at.wait_all
      (row_written Waiting w (at.thread_from id) (blank (at.wait_count + 1)) (term_stores y) (term-stores y) (λ k d. omega (arith, d.to)) (row-blank w (at.thread_from id) (at.wait_count + 1))))))

  -- and the places
  pub place-shows : (k : ℕ) → k < 2 * y.count → get_or (put_wait w id y) (at.thread_word at.wait_places id + k) 0 ≡ get_or y.places k 0
  place-shows k l =
      ap (λ (v : List ℕ). get_or v (at.thread_word at.wait_places id + k) 0) (put-wait w id y h)
      ∙ ap (λ (j : ℕ). get_or (written terms (at.thread_word at.wait_places id) (place_stores (2 * y.count) y.places 0)) j 0) (let e : at.thread_word at.wait_places id + k ≡ at.thread_word at.wait_places id + 0 + k = omega arith in e)
      ∙ places-show (2 * y.count) terms (at.thread_word at.wait_places id) y.places 0 k (omega (arith, length-written w (at.thread_from id) (term_stores y))) l
      ∙ ap (λ (j : ℕ). get_or y.places j 0) (let e : 0 + k ≡ k = omega arith in e)

  pub wait-shows : (x : Wait) → Stored y x → WaitIs (put_wait w id y) id x
  wait-shows x s = record {
    terms = λ k n e. go x.deadline refl k n e;
    places = λ k n e. place-shows k (omega (arith, says-short (places_row x.objects) k n e, length-places x.objects, s.of-count))
        ∙ ap (λ (j : ℕ). get_or y.places j 0) (let q : k ≡ 0 + k = omega arith in q) ∙ s.of_places k n e;
  }
    where
      shown : (m : ℕ) → y.deadline ≡ m → Row (put_wait w id y) (at.thread_word at.wait_all id) (row_with x (some m))
      shown m e =
          subst (λ (v : ℕ). Row (put_wait w id y) (at.thread_word at.wait_all id) (some (flag x.all) ∷ some (timed x.deadline) ∷ some m ∷ some x.sequence ∷ some v ∷ [])) s.of-count
          (subst (λ (v : ℕ). Row (put_wait w id y) (at.thread_word at.wait_all id) (some (flag x.all) ∷ some (timed x.deadline) ∷ some m ∷ some v ∷ some y.count ∷ [])) s.of-sequence
          (subst (λ (v : ℕ). Row (put_wait w id y) (at.thread_word at.wait_all id) (some (flag x.all) ∷ some (timed x.deadline) ∷ some v ∷ some y.sequence ∷ some y.count ∷ [])) e
          (subst (λ (v : ℕ). Row (put_wait w id y) (at.thread_word at.wait_all id) (some (flag x.all) ∷ some v ∷ some y.deadline ∷ some y.sequence ∷ some y.count ∷ [])) s.of-timed
          (subst (λ (v : ℕ). Row (put_wait w id y) (at.thread_word at.wait_all id) (some v ∷ some y.timed ∷ some y.deadline ∷ some y.sequence ∷ some y.count ∷ [])) s.of-all terms-show))))

      -- a row that leaves the deadline out
      less : (k n m : ℕ) → get_or (row_with x none) k none ≡ some n → get_or (row_with x (some m)) k none ≡ some n
      less zero n m e = e
      less (suc zero) n m e = e
      less (suc (suc zero)) n m e = absurd (Rattle.model.proofs.TableLaws.none-some n e)
      less (suc (suc (suc k))) n m e = e

      go : (d : Option ℕ) → x.deadline ≡ d → Row (put_wait w id y) (at.thread_word at.wait_all id) (terms_row x)
      go none q k n e = shown y.deadline refl k n (less k n y.deadline (subst (λ (d : Option ℕ). get_or (some (flag x.all) ∷ some (timed x.deadline) ∷ d ∷ some x.sequence ∷ some (length x.objects) ∷ []) k none ≡ some n) q e))
      go (some m) q k n e = shown m (s.of-deadline m q) k n (subst (λ (d : Option ℕ). get_or (some (flag x.all) ∷ some (timed x.deadline) ∷ d ∷ some x.sequence ∷ some (length x.objects) ∷ []) k none ≡ some n) q e)

  pub kept-shows : InForm y → WaitKept (put_wait w id y) id
  kept-shows f = record {
    all = subst (λ (m : ℕ). m ≤ 1) (sym (word 0 y.all (at.thread_word at.wait_all id) refl (omega arith))) f.of-all;
    timed = subst (λ (m : ℕ). m ≤ 1) (sym (word 1 y.timed (at.thread_word at.has_deadline id) refl (omega arith))) f.of-timed;
    count = subst (λ (m : ℕ). m ≤ 64) (sym count) f.few;
    kinds = λ k q. let l : k < y.count = subst (λ (m : ℕ). k < m) count q in
        subst (λ (m : ℕ). m ≤ 3) (sym (place-shows (2 * k) (omega arith))) (f.kinds k l);
  }
    where
      word : (k n j : ℕ) → get_or (some y.all ∷ some y.timed ∷ some y.deadline ∷ some y.sequence ∷ some y.count ∷ []) k none ≡ some n → j ≡ at.thread_word at.wait_all id + k → get_or (put_wait w id y) j 0 ≡ n
      word k n j e q = ap (λ (i : ℕ). get_or (put_wait w id y) i 0) q ∙ terms-show k n e

      count : get_or (put_wait w id y) (at.thread_word at.wait_count id) 0 ≡ y.count
      count = word 4 y.count (at.thread_word at.wait_count id) refl (omega arith)

-- ---- the wait of a thread that does not wait

module _ (w : List ℕ) (s : State) (holder : ℕ → ℕ) (active : ℕ) (a : Agreeing w s holder active) where
  pub sim-wait : (id : ℕ) (y : stored-wait.Wait) → 1 ≤ id → id ≤ length s.dispatcher.threads → InForm y → is_waiting (thread_at s.dispatcher.threads id).status ≡ false → Agreeing (put_wait w id y) s holder active
  sim-wait id y one le f no-wait = record {
    enough = stays-enough w s holder active a id one le w' len own;
    numbers = stays-numbers w s holder active a id one le w' len own;
    threads = λ i h k. row-depends w w' (at.thread_from i) (thread_row (thread_at s.dispatcher.threads i))
        (λ j q. scalars j (thread-word (length s.dispatcher.threads) i j (thread_at s.dispatcher.threads i) h k q)) (a.threads i h k);
    waits = record { kept = λ i h k. kept i h k (ℕ_discrete i id); current = λ i h k. current i h k (ℕ_discrete i id) };
    queues = stays-queues w s holder active a id one le w' len own;
    waiters = stays-waiters w s holder active a id one le w' len own;
    objects = stays-objects w s holder active a id one le w' len own;
    dpcs = stays-dpcs w s holder active a id one le w' len own;
    work = stays-work w s holder active a id one le w' len own;
    shape = a.shape;
  }
    where
      few : id ≤ at.most_threads
      few = omega (arith, threads-few w s holder active a)

      w' : List ℕ
      w' = put_wait w id y

      len : length (put_wait w id y) ≡ length w
      len = length-wait w id y few

      long : at.header_size + at.thread_size * id ≤ length w
      long = omega (arith, a.enough, a.shape.sizes.threads_fit)

      mine : Same (λ j. Inner (at.thread_from id) Waiting j → ⊥) w (put_wait w id y)
      mine = wait-writes w id y few f.few

      own : Same (λ j. Inner (at.thread_from id) Own j → ⊥) w (put_wait w id y)
      own j q = mine j (λ o. q (record { word = o.word; has = record { small = o.has.to; no-next = λ e. omega (arith, o.has.from); no-waiter = λ e. omega (arith, o.has.from) }; here = o.here }))

      scalars : Same (Field (length s.dispatcher.threads) Scalar) w (put_wait w id y)
      scalars j f = mine j (λ o. omega (arith, o.here, o.has.from, o.has.to, f.here, f.has.small))

      others : (i : ℕ) → (i ≡ id → ⊥) → Same (Inner (at.thread_from i) Waiting) w (put_wait w id y)
      others i ne j r = mine j (λ o. omega (arith, o.here, o.has.from, o.has.to, r.here, r.has.from, r.has.to, ne))

      kept : (i : ℕ) → 1 ≤ i → i ≤ length s.dispatcher.threads → Dec (i ≡ id) → WaitKept w' i
      kept i h k (yes e) = subst (λ (j : ℕ). WaitKept w' j) (sym e) (kept-shows w id y few long f.few f)
      kept i h k (no ne) = kept-depends w w' i (others i ne) (a.waits.kept i h k)

      current : (i : ℕ) → 1 ≤ i → i ≤ length s.dispatcher.threads → Dec (i ≡ id) → WaitOf w' i (thread_at s.dispatcher.threads i).status
      current i h k (yes e) = subst (λ (j : ℕ). WaitOf w' j (thread_at s.dispatcher.threads j).status) (sym e) (go (thread_at s.dispatcher.threads id).status no-wait)
        where
          go : (x : Status) → is_waiting x ≡ false → WaitOf w' id x
          go running q = tt
          go ready q = tt
          go (waiting x) q = absurd (not-both q)
          go (exited m) q = tt
      current i h k (no ne) = wait-depends w w' i (others i ne) (thread_at s.dispatcher.threads i).status (a.shape.fit i h k).wait (a.waits.current i h k)
