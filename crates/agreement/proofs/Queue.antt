-- A DPC put last into the queue, taken out of it, and the first one taken: on the words, by numbers, and in the log, by addresses.
use Prim.Native.Nat.{ℕ, ◌+◌, ◌*◌, ◌≤◌, ◌<◌}
use mathlib.Core.List.{List, [], ◌∷◌, ◌++◌, map}
use mathlib.Core.Bool.{true, cond, not}
use mathlib.Core.Logic.{◌⊎◌, inl, inr}
use mathlib.Core.Path.{◌≡◌, refl, sym, ap, ◌∙◌, subst}
use native.Mathlib.Omega.{arith}
use native.Mathlib.Decide.{ℕ_discrete}
use borrow.Author.Tests.{eq-eqb, ne_eqb}
use lib.Dec.{eqb}
use lib.ListN.{length}
use Rattle.words.specs.Layout as at
use Rattle.images.specs.declared.Dpc.{Dpc}
use Rattle.chains.specs.declared.Chain.{Chain}
use Rattle.chains.specs.Chain.{pushed, removed, unlinked}
use Rattle.model.specs.Lists.{Mem, Distinct, without, present}
use Rattle.model.specs.State.{State}
use Rattle.model.specs.Dpcs.{address_of, dpc_at}
use Rattle.model.specs.Step.{with_dpcs}
use Rattle.model.proofs.ListLaws.{mem-without, mem-last, distinct-keep, distinct-last}
use Rattle.model.proofs.TableLaws.{some_same}
use Rattle.agreement_chains.specs.Chains.{Holds, Standing, Same, Places, Apart}
use Rattle.agreement_chains.proofs.Frames.{own-place, pushed-outside, unlinked-outside, length-pushed, length_removed, length-unlinked}
use Rattle.agreement_chains.proofs.ChainLaws.{holds_pushed, holds-removed, holds-cut, removed-outside}
use Rattle.agreement_chains.proofs.Places.{queue-apart}
use Rattle.agreement_tables.specs.Tables.{below}
use Rattle.agreement.specs.Records.{number_in, numbers_in}
use Rattle.agreement.specs.Chains.{queue_from}
use Rattle.agreement.specs.Shape.{DpcsFit}
use Rattle.agreement.specs.Agree.{objects_from, dpcs_from, Agreeing}
use Rattle.agreement.proofs.Places.{QueueWords, chain-place, queue-cases}
use Rattle.agreement.proofs.Frames.{number_at, numbers-standing, objects-depend, dpcs-depend}
use Rattle.agreement.proofs.Headers.{dpcs-few}
use Rattle.agreement.proofs.Tables.{Front, front-stays}
use Rattle.agreement.proofs.Lookups.{dpcs-base-is, queue-chain-is}

-- ---- lists of numbers

map_last : (f : ℕ → ℕ) (xs : List ℕ) (y : ℕ) → map f (xs ++ (y ∷ [])) ≡ map f xs ++ (f y ∷ [])
map_last f [] y = refl
map_last f (x ∷ xs) y = ap (λ (l : List ℕ). f x ∷ l) (map_last f xs y)

-- where no other member has the number
without-map : (f : ℕ → ℕ) (k : ℕ) (xs : List ℕ) → ((y : ℕ) → Mem y xs → f y ≡ f k → y ≡ k) → without (f k) (map f xs) ≡ map f (without k xs)
without-map f k [] h = refl
without-map f k (x ∷ xs) h = go (ℕ_discrete x k) (without-map f k xs (λ y m. h y (inr m)))
  where
    go : Dec (x ≡ k) → without (f k) (map f xs) ≡ map f (without k xs)
        → cond (not (eqb (f x) (f k))) (f x ∷ without (f k) (map f xs)) (without (f k) (map f xs)) ≡ map f (cond (not (eqb x k)) (x ∷ without k xs) (without k xs))
    go (yes e) ih = simp (eq-eqb x k e, eq-eqb (f x) (f k) (ap f e), ih)
    go (no n) ih = simp (ne_eqb x k n, ne_eqb (f x) (f k) (λ q. n (h x (inl refl) q)), ih)

module _ (w : List ℕ) (s : State) (holder : ℕ → ℕ) (active : ℕ) (a : Agreeing w s holder active) where
  abbrev table : List Dpc
  table = s.dpcs.table

  abbrev chain : Chain
  chain = queue_from (dpcs_from s.limits)

  few : length s.dpcs.table ≤ 4096
  few = dpcs-few w s holder active a

  apart : Apart (queue_from (dpcs_from s.limits)) (length s.dpcs.table) (length w)
  apart = subst (λ (c : Chain). Apart c (length s.dpcs.table) (length w)) (queue-chain-is w s holder active a)
      (queue-apart w (length s.dpcs.table) (length w) few (omega (arith, dpcs-base-is w s holder active a, a.enough, a.shape.sizes.dpcs_fit)))

  standing : Standing (length s.dpcs.table) (numbers_in s.dpcs.table s.dpcs.queue)
  standing = numbers-standing s.dpcs.table s.dpcs.queue a.shape.dpcs

  -- DPCs of the table with one number are one
  one_number : (y k : ℕ) → present (dpc_at s.dpcs.table y) ≡ true → present (dpc_at s.dpcs.table k) ≡ true → number_in s.dpcs.table y ≡ number_in s.dpcs.table k → y ≡ k
  one_number y k h g e =
      let r = a.shape.dpcs.rising in
      let p = number_at table r y h in
      let q = number_at table r k g in
      let z : below address_of y table ≡ below address_of k table = omega arith in
      sym p.2 ∙ ap (λ (d : Dpc). d.address) (some_same p.0 q.0 (sym p.1 ∙ ap (Rattle.model.specs.Lists.nth table) z ∙ q.1)) ∙ q.2

  -- words that differ in places of the DPC queue only
  queue-step : (w' : List ℕ) (queue' : List ℕ) → length w' ≡ length w → Same (λ j. Places (queue_from (dpcs_from s.limits)) (length s.dpcs.table) j → ⊥) w w'
      → Holds w' (queue_from (dpcs_from s.limits)) (numbers_in s.dpcs.table queue') → DpcsFit s.dpcs.table queue'
      → Agreeing w' (with_dpcs s (record { table = s.dpcs.table; queue = queue'; counters = s.dpcs.counters })) holder active
  queue-step w' queue' len same hs f = record {
    enough = subst (λ (m : ℕ). at.header_size + at.thread_size * s.limits.threads + 32 * (s.limits.objects + s.limits.dpcs) ≤ m) (sym len) a.enough;
    numbers = front.numbers;
    threads = front.threads;
    waits = front.waits;
    queues = front.queues;
    waiters = front.waiters;
    objects = objects-depend w w' (objects_from s.limits) s.dispatcher.objects (λ j f. same j (λ r. queue-cases ⊥ (dpcs_from s.limits) (length table) j (place j r)
        (λ e. omega (arith, f.here)) (λ e. omega (arith, f.here)) (λ l. omega (arith, f.here, f.has, f.below, l.here, l.one, a.shape.sizes.objects_fit)))) a.objects;
    dpcs = dpcs-depend w w' (dpcs_from s.limits) holder s.dpcs.table (λ j f. same j (λ r. queue-cases ⊥ (dpcs_from s.limits) (length table) j (place j r)
        (λ e. omega (arith, f.here)) (λ e. omega (arith, f.here)) (λ l. f.has.no-link (omega (arith, f.here, f.has.small, l.here, l.one))))) a.dpcs;
    work = hs;
    shape = record {
      sizes = a.shape.sizes;
      fit = a.shape.fit;
      ready_standing = a.shape.ready_standing;
      waiting_standing = a.shape.waiting_standing;
      rising = a.shape.rising;
      bounded = a.shape.bounded;
      dpcs = f;
      counted = a.shape.counted;
    };
  }
    where
      place : (j : ℕ) → Places (queue_from (dpcs_from s.limits)) (length s.dpcs.table) j → QueueWords (dpcs_from s.limits) (length s.dpcs.table) j
      place j r = chain-place (queue_from (dpcs_from s.limits)) (length s.dpcs.table) j few r

      front : Front w' s active
      front = front-stays w s holder active a w' (λ j h. same j (λ r. queue-cases ⊥ (dpcs_from s.limits) (length s.dpcs.table) j (place j r)
          h.1 h.2 (λ l. omega (arith, h.0, l.here, l.one))))

  -- last in the queue
  pub sim-enqueue : (k : ℕ) → present (dpc_at s.dpcs.table k) ≡ true → (Mem k s.dpcs.queue → ⊥)
      → Agreeing (pushed w (queue_from (dpcs_from s.limits)) (number_in s.dpcs.table k))
      (with_dpcs s (record { table = s.dpcs.table; queue = s.dpcs.queue ++ (k ∷ []); counters = s.dpcs.counters })) holder active
  sim-enqueue k known absent =
      queue-step (pushed w chain (number_in table k)) (s.dpcs.queue ++ (k ∷ [])) (length-pushed w chain (number_in table k))
      (pushed-outside (λ j. Places chain (length table) j → ⊥) w chain (numbers_in table s.dpcs.queue) a.work (number_in table k)
      (λ j o q. q (own-place (length table) (number_in table k ∷ numbers_in table s.dpcs.queue) (record { within = more; once = (new, standing.once) }) chain j o)))
      (subst (Holds (pushed w chain (number_in table k)) chain) (sym (map_last (number_in table) s.dpcs.queue k))
      (holds_pushed (length table) w chain (numbers_in table s.dpcs.queue) apart standing a.work (number_in table k) (omega arith) small new))
      (record {
        rising = a.shape.dpcs.rising;
        placed = a.shape.dpcs.placed;
        queued = λ b m. both b (mem-last b s.dpcs.queue k m);
        once = distinct-last s.dpcs.queue k a.shape.dpcs.once absent;
      })
    where
      small : number_in s.dpcs.table k ≤ length s.dpcs.table
      small = let p = number_at s.dpcs.table a.shape.dpcs.rising k known in
          let h : below address_of k s.dpcs.table < length s.dpcs.table = Rattle.agreement_tables.proofs.Lists.nth_in s.dpcs.table (below address_of k s.dpcs.table) p.0 p.1 in omega arith

      new : Mem (number_in s.dpcs.table k) (numbers_in s.dpcs.table s.dpcs.queue) → ⊥
      new m = let q = Rattle.agreement_chains.proofs.Renumbers.mem-map (number_in s.dpcs.table) (number_in s.dpcs.table k) s.dpcs.queue m in
          absent (subst (λ (z : ℕ). Mem z s.dpcs.queue) (sym (one_number k q.0 known (a.shape.dpcs.queued q.0 q.1) q.2)) q.1)

      more : (y : ℕ) → Mem y (number_in s.dpcs.table k ∷ numbers_in s.dpcs.table s.dpcs.queue) → (1 ≤ y) × (y ≤ length s.dpcs.table)
      more y (inl e) = (omega arith, omega (arith, small))
      more y (inr m) = standing.within y m

      both : (b : ℕ) → (Mem b s.dpcs.queue) ⊎ (b ≡ k) → present (dpc_at s.dpcs.table b) ≡ true
      both b (inl m) = a.shape.dpcs.queued b m
      both b (inr e) = ap (λ (z : ℕ). present (dpc_at s.dpcs.table z)) e ∙ known

  -- out of the queue
  pub sim-dequeue : (k : ℕ) → Mem k s.dpcs.queue
      → Agreeing (removed w (queue_from (dpcs_from s.limits)) (number_in s.dpcs.table k))
      (with_dpcs s (record { table = s.dpcs.table; queue = without k s.dpcs.queue; counters = s.dpcs.counters })) holder active
  sim-dequeue k m =
      queue-step (removed w chain (number_in table k)) (without k s.dpcs.queue) (length_removed w chain (number_in table k))
      (removed-outside (length table) w chain (numbers_in table s.dpcs.queue) apart standing a.work (number_in table k) (there s.dpcs.queue m) (λ j. Places chain (length table) j → ⊥)
      (λ j o q. q (own-place (length table) (numbers_in table s.dpcs.queue) standing chain j o)))
      (subst (Holds (removed w chain (number_in table k)) chain)
      (without-map (number_in table) k s.dpcs.queue (λ y h e. one_number y k (a.shape.dpcs.queued y h) (a.shape.dpcs.queued k m) e))
      (holds-removed (length table) w chain (numbers_in table s.dpcs.queue) apart standing a.work (number_in table k) (there s.dpcs.queue m)))
      (record {
        rising = a.shape.dpcs.rising;
        placed = a.shape.dpcs.placed;
        queued = λ b h. a.shape.dpcs.queued b (mem-without b k s.dpcs.queue h).0;
        once = distinct-keep (λ x. not (eqb x k)) s.dpcs.queue a.shape.dpcs.once;
      })
    where
      there : (q : List ℕ) → Mem k q → Mem (number_in s.dpcs.table k) (numbers_in s.dpcs.table q)
      there [] h = h
      there (x ∷ q) (inl e) = inl (ap (number_in s.dpcs.table) e)
      there (x ∷ q) (inr h) = inr (there q h)

  -- the first out of the queue
  pub sim-head : (k : ℕ) (rest : List ℕ) → s.dpcs.queue ≡ k ∷ rest
      → Agreeing (unlinked w (queue_from (dpcs_from s.limits)) 0 (number_in s.dpcs.table k))
      (with_dpcs s (record { table = s.dpcs.table; queue = rest; counters = s.dpcs.counters })) holder active
  sim-head k rest e =
      queue-step (unlinked w chain 0 (number_in table k)) rest (length-unlinked w chain 0 (number_in table k))
      (unlinked-outside (λ j. Places chain (length table) j → ⊥) w chain (numbers_in table s.dpcs.queue) 0 (number_in table k) (inl refl)
      (λ j o q. q (own-place (length table) (numbers_in table s.dpcs.queue) standing chain j o)))
      (holds-cut (length table) w chain [] (number_in table k) (numbers_in table rest) apart
      (subst (λ (q : List ℕ). Standing (length table) (numbers_in table q)) e standing) (subst (λ (q : List ℕ). Holds w chain (numbers_in table q)) e a.work))
      (record {
        rising = a.shape.dpcs.rising;
        placed = a.shape.dpcs.placed;
        queued = λ b h. a.shape.dpcs.queued b (subst (Mem b) (sym e) (inr h));
        once = (subst Distinct e a.shape.dpcs.once).1;
      })
