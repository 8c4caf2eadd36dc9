-- The DPC queue of the state that words in form tell: its chain holds the numbers of the queued DPCs once.
use Prim.Native.Nat.{ℕ, zero, suc, ◌+◌, ◌-◌, ◌*◌, ◌≤◌, ◌<◌}
use mathlib.Core.List.{List, [], ◌∷◌, map}
use mathlib.Core.Bool.{cond, true}
use mathlib.Core.Option.{some}
use mathlib.Core.Path.{◌≡◌, refl, sym, ap, ◌∙◌, subst}
use mathlib.Core.Logic.{inl, inr}
use native.Mathlib.Omega.{arith}
use borrow.Author.Tests.{eqb-true, ltb-false}
use lib.ListN.{get_or, length}
use lib.Dec.{ltb}
use Rattle.words.specs.Layout as at
use Rattle.words.specs.Layout.{entry_at}
use Rattle.chains.specs.Chain.{first_of}
use Rattle.dpcs.specs.Record.{dpc_count, place_at, queue_chain}
use Rattle.form_dpc.specs.Dpc.{has_phase, phase_one, phase_count_in, phase_count}
use Rattle.form_dpc.specs.Queue.{queued_at, queue_in, queue_size, queue_stands_once}
use Rattle.model.specs.Lists.{Mem, Distinct, member, nth, present}
use Rattle.model.specs.Dpcs.{address_of, dpc_at}
use Rattle.objects.specs.Objects.{dpcs_base}
use Rattle.agreement_tables.specs.Tables.{below}
use Rattle.agreement_tables.proofs.Lists.{find-nth}
use Rattle.agreement_tables.proofs.Numbers.{below-nth}
use Rattle.agreement_tables.proofs.Lookups.{place-of-number}
use Rattle.agreement_chains.specs.Chains.{Holds, Standing}
use Rattle.agreement_chains.proofs.Renumbers.{mem-map, distinct-map}
use Rattle.agreement.specs.Records.{number_in, numbers_in}
use Rattle.agreement.specs.Chains.{queue_from}
use Rattle.agreement.specs.Shape.{DpcsFit}
use Rattle.agreement.specs.Agree.{dpcs_from}
use Rattle.agreement.proofs.Places.{entry_place}
use Rattle.agreement_form.specs.Decoded.{limits_of, dpc_of, table_of, address_at, numbers_of}
use Rattle.agreement_form.proofs.Clauses.{not_first}
use Rattle.agreement_form.proofs.Tally.{tally, tally-exact}
use Rattle.agreement_form.proofs.Each.{nth-each}
use Rattle.agreement_form.proofs.HeaderForm.{Counted, dpc-count, dpcs-base, low}
use Rattle.agreement_form.proofs.ChainForm.{Walked, walked_once, queue-walk}
use Rattle.agreement_form.proofs.DpcForm.{DpcsForm}
use Rattle.agreement_form.proofs.DecodedDpcs.{address_is, dpcs-rise, dpcs-there}

-- the count of a phase is a tally of numbers
phase-tally : (w : List ℕ) (base phase m i : ℕ) → phase_count_in m w base i phase ≡ tally (λ y. has_phase w (entry_at base (y - 1)) phase) m (i + 1)
unfolding phase_count_in phase_one
phase-tally w base phase zero i = refl
phase-tally w base phase (suc m) i =
    ap (λ (j : ℕ). cond (has_phase w (entry_at base j) phase) 1 0 + phase_count_in m w base (i + 1) phase) (let z : i ≡ i + 1 - 1 = omega arith in z)
    ∙ ap (λ (n : ℕ). cond (has_phase w (entry_at base (i + 1 - 1)) phase) 1 0 + n) (phase-tally w base phase m (i + 1))

pub record QueueIs (w : List ℕ) : Type 0 where
  pub holds : Holds w (queue_from (dpcs_from (limits_of w))) (numbers_of w)
  pub standing : Standing (get_or w at.dpcs 0) (numbers_of w)
  pub long : length (numbers_of w) ≡ phase_count w 1
  pub exact : (i : ℕ) → i < get_or w at.dpcs 0 → has_phase w (dpcs_from (limits_of w) + 32 * i) 1 ≡ member (suc i) (numbers_of w)

pub queue-is : (w : List ℕ) → Counted w → queue_stands_once w ≡ true → QueueIs w
unfolding queue_stands_once queue_size queue_chain queued_at phase_count
queue-is w c e =
    record {
      holds = record { chain = walk.links; last = walk.last };
      standing = standing;
      long = omega (arith, size, walk.counts);
      exact = exact;
    }
  where
    base : ℕ
    base = dpcs_from (limits_of w)

    few : get_or w at.dpcs 0 ≤ 4096
    few = omega (arith, c.dpcs_fit, c.limits.dpcs)

    size : queue_in 4097 w (queue_from base) 0 (first_of w (queue_from base)) 1 ≡ phase_count w 1 + 1
    size =
        ap (λ (b : ℕ). queue_in 4097 w (queue_from b) 0 (first_of w (queue_from b)) 1) (sym (dpcs-base w c))
        ∙ eqb-true (queue_in 4097 w (queue_chain w) 0 (first_of w (queue_chain w)) 1) (phase_count w 1 + 1) e

    walk : Walked w (queue_from base) (queued_at w) 0 (numbers_of w) 1 (queue_in 4097 w (queue_from base) 0 (first_of w (queue_from base)) 1)
    walk = queue-walk w (queue_from base) 4097 (λ q. omega (arith, q, size))

    of : (y : ℕ) → Mem y (numbers_of w) → (1 ≤ y) × ((y ≤ get_or w at.dpcs 0) × (has_phase w (place_at w y) 1 ≡ true))
    of y m =
        let h = walk.each-passes y m in
        let k = not_first (ltb (dpc_count w) y) (has_phase w (place_at w y) 1) h.1 in
        (h.0, (omega (arith, ltb-false (dpc_count w) y k.0, dpc-count w c), k.1))

    standing : Standing (get_or w at.dpcs 0) (numbers_of w)
    standing = record {
      within = λ y m. ((of y m).0, (of y m).1.0);
      once = walked_once w (queue_from base) (queued_at w) 0 1 (queue_in 4097 w (queue_from base) 0 (first_of w (queue_from base)) 1) (numbers_of w) walk;
    }

    -- DPC `suc i` has record `i`
    place : (i : ℕ) → i < get_or w at.dpcs 0 → place_at w (suc i) ≡ base + 32 * i
    place i h = ap (place_at w) (let z : suc i ≡ i + 1 = omega arith in z) ∙ place-of-number w base (low w c) (dpcs-base w c) i (omega (arith, few))

    counted : tally (λ y. has_phase w (entry_at base (y - 1)) 1) (get_or w at.dpcs 0) 1 ≡ length (numbers_of w)
    counted =
        (let z = sym (phase-tally w base 1 (get_or w at.dpcs 0) 0) in z)
        ∙ ap (λ (b : ℕ). phase_count_in (get_or w at.dpcs 0) w b 0 1) (sym (dpcs-base w c))
        ∙ ap (λ (m : ℕ). phase_count_in m w (dpcs_base w) 0 1) (sym (dpc-count w c))
        ∙ (let z : phase_count w 1 ≡ length (numbers_of w) = omega (arith, size, walk.counts) in z)

    member-phase : (y : ℕ) → Mem y (numbers_of w) → has_phase w (entry_at base (y - 1)) 1 ≡ true
    member-phase zero m = absurd (omega (arith, (of zero m).0))
    member-phase (suc i) m =
        let z : suc i - 1 ≡ i = omega arith in
        ap (λ (j : ℕ). has_phase w (entry_at base j) 1) z
        ∙ ap (λ (p : ℕ). has_phase w p 1) (entry_place base i (low w c) (omega (arith, few, (of (suc i) m).1.0)) ∙ sym (place i (omega (arith, (of (suc i) m).1.0))))
        ∙ (of (suc i) m).1.1

    exact : (i : ℕ) → i < get_or w at.dpcs 0 → has_phase w (base + 32 * i) 1 ≡ member (suc i) (numbers_of w)
    exact i h =
        let z : i ≡ suc i - 1 = omega arith in
        ap (λ (p : ℕ). has_phase w p 1) (sym (entry_place base i (low w c) (omega (arith, few))))
        ∙ ap (λ (j : ℕ). has_phase w (entry_at base j) 1) z
        ∙ tally-exact (λ y. has_phase w (entry_at base (y - 1)) 1) (get_or w at.dpcs 0) 1 (numbers_of w) standing.once
        (λ y m. ((standing.within y m).0, omega (arith, (standing.within y m).1))) member-phase counted (suc i) (omega arith) (omega arith)

-- ---- numbers and addresses

module _ (w : List ℕ) (f : DpcsForm w) (q : QueueIs w) where
  pub record-at : (i : ℕ) → i < get_or w at.dpcs 0 → nth (table_of w) i ≡ some (dpc_of w i)
  record-at i h = nth-each (dpc_of w) (get_or w at.dpcs 0) 0 i h ∙ ap (λ (j : ℕ). some (dpc_of w j)) (let z : 0 + i ≡ i = omega arith in z)

  pub dpc-found : (i : ℕ) → i < get_or w at.dpcs 0 → dpc_at (table_of w) (dpc_of w i).address ≡ some (dpc_of w i)
  dpc-found i h = find-nth address_of (table_of w) (dpcs-rise w f) i (dpc_of w i) (record-at i h)

  address-of : (i : ℕ) → address_at w (suc i) ≡ (dpc_of w i).address
  address-of i = ap (λ (j : ℕ). get_or w (dpcs_from (limits_of w) + 32 * j) 0) (let z : suc i - 1 ≡ i = omega arith in z) ∙ sym (address_is w (dpcs_from (limits_of w) + 32 * i))

  pub number_is : (y : ℕ) → Mem y (numbers_of w) → number_in (table_of w) (address_at w y) ≡ y
  number_is zero m = absurd (omega (arith, (q.standing.within zero m).0))
  number_is (suc i) m =
      ap (λ (a : ℕ). suc (below address_of a (table_of w))) (address-of i)
      ∙ ap suc (below-nth address_of (table_of w) (dpcs-rise w f) i (dpc_of w i) (record-at i (omega (arith, (q.standing.within (suc i) m).1))))

  back : (l : List ℕ) → ((y : ℕ) → Mem y l → Mem y (numbers_of w)) → numbers_in (table_of w) (map (address_at w) l) ≡ l
  back [] h = refl
  back (y ∷ l) h =
      ap (λ (n : ℕ). n ∷ numbers_in (table_of w) (map (address_at w) l)) (number_is y (h y (inl refl)))
      ∙ ap (λ (k : List ℕ). y ∷ k) (back l (λ z m. h z (inr m)))

  pub work-holds : Holds w (queue_from (dpcs_from (limits_of w))) (numbers_in (table_of w) (map (address_at w) (numbers_of w)))
  work-holds = subst (Holds w (queue_from (dpcs_from (limits_of w)))) (sym (back (numbers_of w) (λ y m. m))) q.holds

  pub queued-there : (a : ℕ) → Mem a (map (address_at w) (numbers_of w)) → (i : ℕ) × (i < get_or w at.dpcs 0) × (Mem (suc i) (numbers_of w)) × (a ≡ (dpc_of w i).address)
  queued-there a m = go (mem-map (address_at w) a (numbers_of w) m)
    where
      by_number : (y : ℕ) → Mem y (numbers_of w) → a ≡ address_at w y → (i : ℕ) × (i < get_or w at.dpcs 0) × (Mem (suc i) (numbers_of w)) × (a ≡ (dpc_of w i).address)
      by_number zero k e = absurd (omega (arith, (q.standing.within zero k).0))
      by_number (suc i) k e = (i, omega (arith, (q.standing.within (suc i) k).1), k, e ∙ address-of i)

      go : ((y : ℕ) × (Mem y (numbers_of w)) × (a ≡ address_at w y)) → (i : ℕ) × (i < get_or w at.dpcs 0) × (Mem (suc i) (numbers_of w)) × (a ≡ (dpc_of w i).address)
      go (y, k, e) = by_number y k e

  pub there-queued : (i : ℕ) → Mem (suc i) (numbers_of w) → Mem (dpc_of w i).address (map (address_at w) (numbers_of w))
  there-queued i m = subst (λ (a : ℕ). Mem a (map (address_at w) (numbers_of w))) (address-of i) (in_map (numbers_of w) m)
    where
      in_map : (l : List ℕ) → Mem (suc i) l → Mem (address_at w (suc i)) (map (address_at w) l)
      in_map [] k = k
      in_map (x ∷ l) (inl e) = inl (ap (address_at w) e)
      in_map (x ∷ l) (inr k) = inr (in_map l k)

  pub queue-once : Distinct (map (address_at w) (numbers_of w))
  queue-once = distinct-map (address_at w) (numbers_of w) (λ y z m n e. sym (number_is y m) ∙ ap (number_in (table_of w)) e ∙ number_is z n) q.standing.once

  pub queue-fits : DpcsFit (table_of w) (map (address_at w) (numbers_of w))
  queue-fits =
      record {
        rising = dpcs-rise w f;
        placed = dpcs-there w f;
        queued = λ a m. let h = queued-there a m in ap (λ (b : ℕ). present (dpc_at (table_of w) b)) h.3 ∙ ap present (dpc-found h.0 h.1);
        once = queue-once;
      }
