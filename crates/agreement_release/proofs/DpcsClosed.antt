-- The DPCs in a range marked and taken out of their table: the records that stay, and the queue by their new numbers.
use Prim.Native.Nat.{ℕ, ◌+◌, ◌*◌, ◌≤◌, ◌<◌}
use mathlib.Core.List.{List, ◌∷◌}
use mathlib.Core.Bool.{Bool, true, false, not}
use mathlib.Core.Option.{some}
use mathlib.Core.Path.{◌≡◌, refl, sym, ap, ap₂, ◌∙◌, subst}
use native.Mathlib.Omega.{arith}
use lib.Dec.{eqb}
use lib.ListN.{get_or, length}
use Rattle.words.specs.Layout as at
use Rattle.images.specs.declared.Dpc.{Dpc}
use Rattle.images.specs.declared.DpcPhase.{DpcPhase}
use Rattle.images.specs.declared.DpcPhase.TheVariants.{Idle, Queued, Running, Returning}
use Rattle.objects.specs.Objects.{dpcs_base}
use Rattle.dpc_table.specs.Table.{closed_up}
use Rattle.timers.specs.Record.{dpc_size_at, each_in}
use Rattle.timers.specs.Release.{dpc_stands, dpc_marked, dpcs_marked}
use Rattle.model.specs.Lists.{keep, Mem}
use Rattle.model.specs.State.{State}
use Rattle.model.specs.Dpcs.{address_of, dpc_at}
use Rattle.model.specs.Refusal.{dpc_overlapped}
use Rattle.model.proofs.ListLaws.{mem-keep}
use Rattle.model.proofs.TableLaws.{found}
use Rattle.model.proofs.DpcLaws.{present-some}
use Rattle.agreement_chains.specs.Chains as chains
use Rattle.agreement_chains.proofs.Links.{last_mem}
use Rattle.agreement_chains.proofs.Frames.{standing-length}
use Rattle.agreement_chains.proofs.Renumbers.{mem-map, holds-renumbered}
use Rattle.agreement_tables.specs.Tables as tables
use Rattle.agreement_tables.specs.Tables.{NoNumber, below, new_number_of, Stays}
use Rattle.agreement_tables.proofs.Lists.{nth-mem, find_at}
use Rattle.agreement_tables.proofs.Compacts.{Marked}
use Rattle.agreement_tables.proofs.Renewals.{base-depends}
use Rattle.agreement_tables.proofs.CloseUp.{length-closed-up, closed-count, closed-holds, closed-up-outside, closed-last, closed-links}
use Rattle.agreement.specs.Row.{Row}
use Rattle.agreement.specs.Records.{dpc_row, phase_number, number_in, numbers_in}
use Rattle.agreement.specs.Chains.{queue_from}
use Rattle.agreement.specs.Agree.{dpcs_from, DpcTable, Agreeing}
use Rattle.agreement.proofs.Places.{queue-cases}
use Rattle.agreement.proofs.Frames.{numbers-standing, work-depends}
use Rattle.agreement.proofs.Headers.{dpcs-few}
use Rattle.agreement.proofs.Lookups.{dpcs-base-is, dpc-count-is}
use Rattle.agreement_release.proofs.DpcRows.{dpcs-local, linked-queued, numbers_keep}
use Rattle.agreement_release.proofs.Marks.{marked, Marks, Own, marks-all}
use Rattle.agreement_release.proofs.Stays.{stays-holds, marked-are}
use Rattle.agreement_release.proofs.TimerRefusal.{dpc-stands-is}

module _ (w : List ℕ) (s : State) (holder : ℕ → ℕ) (active : ℕ) (a : Agreeing w s holder active) (address size : ℕ)
    (unqueued : (d : Dpc) → Mem d s.dpcs.table → dpc_overlapped address size d ≡ true → Mem d.address s.dpcs.queue → ⊥) where
  abbrev test : List ℕ → ℕ → Bool
  test = λ v p. dpc_stands v p address size

  abbrev g : Dpc → Bool
  g = λ (d : Dpc). not (dpc_overlapped address size d)

  abbrev xs : List Dpc
  xs = s.dpcs.table

  abbrev base : ℕ
  base = dpcs_from s.limits

  abbrev ns : List ℕ
  ns = numbers_in xs s.dpcs.queue

  low : base ≤ 1000000
  low = omega (arith, a.shape.sizes.limits.threads, a.shape.sizes.limits.objects)

  high : at.header_size ≤ base
  high = omega arith

  few : length xs ≤ 4096
  few = dpcs-few w s holder active a

  long : base + 32 * length xs ≤ length w
  long = omega (arith, a.enough, a.shape.sizes.dpcs_fit)

  own : Own test
  unfolding dpc_stands dpc_size_at
  own v v' p c = simp (c 0 (omega arith) tt, c 4 (omega arith) tt)

  -- ---- marked

  unfoldable pub w₁ : List ℕ
  w₁ = dpcs_marked w address size

  marks₁ : Marks test base w w₁ 0 (length xs)
  unfolding w₁ dpcs_marked dpc_marked
  marks₁ = subst (λ (v : List ℕ). Marks test base w v 0 (length xs))
      (sym (ap₂ (λ (m b : ℕ). each_in m (marked test) w b 0) (dpc-count-is w s holder active a) (dpcs-base-is w s holder active a)))
      (marks-all test own base low (length xs) w few long)

  tells : tables.Holds (λ v p (d : Dpc). test v p ≡ not (g d)) w base xs
  tells i d e = dpc-stands-is w (base + 32 * i) address size (holder d.address) d (a.dpcs i d e) ∙ twice (dpc_overlapped address size d)
    where
      twice : (b : Bool) → b ≡ not (not b)
      twice true = refl
      twice false = refl

  abbrev Stay : List ℕ → ℕ → Dpc → Type 0
  Stay v p d = g d ≡ true → Row v p (dpc_row (holder d.address) d)

  stay-local : tables.Local NoNumber Stay
  stay-local v v' p q d c h t = dpcs-local holder v v' p q d c (h t)

  rows₁ : tables.Holds Stay w₁ base xs
  rows₁ = stays-holds test base g w w₁ xs marks₁ tells (λ v p (d : Dpc). Row v p (dpc_row (holder d.address) d)) (λ v v' p q d c h. dpcs-local holder v v' p q d (λ k l z. c k l tt) h) a.dpcs

  are₁ : tables.Holds (Marked g 1 9) w₁ base xs
  are₁ = marked-are test base g w w₁ xs marks₁ tells (λ (d : Dpc). phase_number d.phase) (λ d. by d.phase) (λ i d e. a.dpcs i d e 1 (phase_number d.phase) refl)
    where
      by : (p : DpcPhase) → eqb (phase_number p) 9 ≡ false
      by Idle = refl
      by (Queued x) = refl
      by (Running x) = refl
      by (Returning x) = refl

  front₁ : (j : ℕ) → j < base → get_or w₁ j 0 ≡ get_or w j 0
  front₁ j h = marks₁.others j (λ t x y e. omega arith)

  base₁ : dpcs_base w₁ ≡ base
  base₁ = base-depends w w₁ (front₁ 0 (omega arith)) (front₁ 1 (omega arith)) ∙ dpcs-base-is w s holder active a

  count₁ : get_or w₁ at.dpcs 0 ≡ length xs
  count₁ = front₁ 5 (omega arith) ∙ a.numbers at.dpcs (length xs) refl

  work₁ : chains.Holds w₁ (queue_from base) ns
  work₁ = work-depends w w₁ base xs s.dpcs.queue few a.shape.dpcs
      (λ j r. marks₁.others j (λ t x y e. queue-cases ⊥ base (length xs) j r (λ z. omega arith) (λ z. omega arith) (λ l. omega (arith, l.here, l.one)))) a.work

  -- ---- the queue's DPCs stay

  pub queued-stays : (b : ℕ) → Mem b s.dpcs.queue → (d : Dpc) × (dpc_at xs b ≡ some d) × (g d ≡ true)
  queued-stays b m =
      let p = present-some xs b (a.shape.dpcs.queued b m) in
      let f = found address_of xs b p.0 p.1 in
      (p.0, p.1, by p.0 f.0 f.1 (dpc_overlapped address size p.0) refl)
    where
      by : (d : Dpc) → Mem d xs → d.address ≡ b → (t : Bool) → dpc_overlapped address size d ≡ t → not (dpc_overlapped address size d) ≡ true
      by d i k true e = absurd (unqueued d i e (subst (λ (c : ℕ). Mem c s.dpcs.queue) (sym k) m))
      by d i k false e = ap not e

  standing : chains.Standing (length xs) ns
  standing = numbers-standing xs s.dpcs.queue a.shape.dpcs

  stay : (y : ℕ) → Mem y ns → Stays g xs y
  stay y m =
      let q = mem-map (number_in xs) y s.dpcs.queue m in
      let k = queued-stays q.0 q.1 in
      record {
        position = below address_of q.0 xs;
        one = k.0;
        number = q.2;
        here = find_at address_of xs a.shape.dpcs.rising q.0 k.0 k.1;
        passes = k.2;
      }

  last₁ : Mem (get_or w₁ at.queue_last 0) (0 ∷ ns)
  last₁ = subst (λ (y : ℕ). Mem y (0 ∷ ns)) (sym work₁.last) (last_mem 0 ns)

  short : length ns ≤ 4096
  short = omega (arith, standing-length (length xs) ns standing, few)

  queued₁ : tables.Queued w₁ (queue_from base) 0 ns
  queued₁ = linked-queued w₁ (queue_from base) 0 ns work₁.chain

  long₁ : base + 32 * length xs ≤ length w₁
  long₁ = omega (arith, marks₁.size, long)

  -- ---- closed up

  unfoldable pub w₂ : List ℕ
  w₂ = closed_up w₁

  pub length-closed : length w₂ ≡ length w
  unfolding w₂
  length-closed = length-closed-up address_of g w₁ base xs ns low high base₁ count₁ few long₁ a.shape.dpcs.rising are₁ queued₁ standing.once short stay last₁ ∙ marks₁.size

  pub dpcs-counted : get_or w₂ at.dpcs 0 ≡ length (keep g xs)
  unfolding w₂
  dpcs-counted = closed-count address_of g w₁ base xs ns low high base₁ count₁ few long₁ a.shape.dpcs.rising are₁ queued₁ standing.once short stay last₁

  pub dpcs-kept : DpcTable w₂ base holder (keep g xs)
  unfolding w₂
  dpcs-kept i d e =
      closed-holds address_of g w₁ base xs ns low high base₁ count₁ few long₁ a.shape.dpcs.rising are₁ queued₁ standing.once short stay last₁ Stay stay-local rows₁ i d e
      (mem-keep g d xs (nth-mem (keep g xs) i d e)).1

  -- the count, the ends of the queue and the table are written
  pub before-dpcs : (j : ℕ) → j < base → (j ≡ 5 → ⊥) → (j ≡ 23 → ⊥) → (j ≡ 24 → ⊥) → get_or w₂ j 0 ≡ get_or w j 0
  unfolding w₂
  before-dpcs j h five first end =
      closed-up-outside address_of g w₁ base xs ns low high base₁ count₁ few long₁ a.shape.dpcs.rising are₁ queued₁ standing.once short stay last₁
      (λ p. p ≡ j) (λ e. five (sym e)) (λ e. first (sym e)) (λ e. end (sym e)) (λ p x y e. omega arith) j refl
      ∙ front₁ j h

  pub work-kept : chains.Holds w₂ (queue_from base) (numbers_in (keep g xs) s.dpcs.queue)
  unfolding w₂
  work-kept = subst (chains.Holds w₂ (queue_from base)) (numbers_keep g xs a.shape.dpcs.rising s.dpcs.queue queued-stays)
      (holds-renumbered (new_number_of g xs) w₁ w₂ (queue_from base) (queue_from base) ns work₁ refl
      (closed-links address_of g w₁ base xs ns low high base₁ count₁ few long₁ a.shape.dpcs.rising are₁ queued₁ standing.once short stay last₁)
      (closed-last address_of g w₁ base xs ns low high base₁ count₁ few long₁ a.shape.dpcs.rising are₁ queued₁ standing.once short stay last₁))
