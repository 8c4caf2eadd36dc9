-- A DPC entered, new or anew, on the words and in the log: an idle one that no inserted timer has.
use Prim.Native.Nat.{ℕ, suc, ◌+◌, ◌*◌, ◌≤◌, ◌<◌}
use mathlib.Core.List.{List, [], ◌∷◌, map}
use mathlib.Core.Bool.{true}
use mathlib.Core.Option.{Option, none, some}
use mathlib.Core.Logic.{inl, inr, ⊎_elim}
use mathlib.Core.Path.{◌≡◌, refl, sym, ap, ◌∙◌, subst}
use native.Mathlib.Omega.{arith}
use native.Mathlib.Decide.{ℕ_discrete}
use lib.ListN.{get_or, length}
use Rattle.words.specs.Layout as at
use Rattle.chains.specs.declared.Chain.{Chain}
use Rattle.chains.specs.Chain.{link_at}
use Rattle.images.specs.declared.Dpc.{Dpc}
use Rattle.dpc_table.specs.declared.NewDpc.{NewDpc}
use Rattle.dpc_table.specs.Table as code
use Rattle.dpc_table.specs.Table.{entered, raised_number}
use Rattle.model.specs.Lists.{Mem, nth, present}
use Rattle.model.specs.Table.{Rising}
use Rattle.model.specs.State.{State}
use Rattle.model.specs.Dpcs.{address_of, dpc_at, put_dpc}
use Rattle.model.specs.Step.{with_dpcs}
use Rattle.model.proofs.TableLaws.{some_same, rising-put, mem-put, find-put-own, find-put-other, length-put-known, found}
use Rattle.model.proofs.DpcLaws.{present-some}
use Rattle.agreement_chains.specs.Chains.{Holds, Own}
use Rattle.agreement_chains.proofs.Frames.{holds-depends}
use Rattle.agreement_chains.proofs.Renumbers.{mem-map, holds-renumbered}
use Rattle.agreement_tables.specs.Tables.{below}
use Rattle.agreement_tables.proofs.Lists.{put-new, find_at}
use Rattle.agreement_tables.proofs.Links.{queue-place}
use Rattle.agreement_tables.proofs.Numbers.{raised-zero, number_put, below-put-known}
use Rattle.agreement_tables.proofs.Dpcs as rows
use Rattle.agreement.specs.Row.{Row}
use Rattle.agreement.specs.Records.{dpc_row, number_in, numbers_in}
use Rattle.agreement.specs.Chains.{queue_from}
use Rattle.agreement.specs.Shape.{DpcsFit}
use Rattle.agreement.specs.Agree.{dpcs_from, Agreeing}
use Rattle.agreement.proofs.Frames.{number_at, numbers-standing}
use Rattle.agreement.proofs.Lookups.{dpcs-base-is, dpc-keys}
use Rattle.agreement_objects.proofs.DpcRows.{eleven_row, eleven-row, dpc-local}
use Rattle.agreement_objects.proofs.WrittenDpcs.{Elsewhere, sim-dpcs}

module _ (w : List ℕ) (s : State) (holder : ℕ → ℕ) (active : ℕ) (a : Agreeing w s holder active) (x : Dpc) (d : NewDpc)
    (room : length (put_dpc x s.dpcs.table) ≤ s.limits.dpcs) where
  low : dpcs_from s.limits ≤ 1000000
  low = omega (arith, a.shape.sizes.limits.threads, a.shape.sizes.limits.objects)

  few : length (put_dpc x s.dpcs.table) ≤ 4096
  few = omega (arith, room, a.shape.sizes.limits.dpcs)

  long : dpcs_from s.limits + 32 * length (put_dpc x s.dpcs.table) ≤ length w
  long = omega (arith, room, a.enough)

  count_word : get_or w at.dpcs 0 ≡ length s.dpcs.table
  count_word = a.numbers at.dpcs (length s.dpcs.table) refl

  rising : Rising address_of s.dpcs.table
  rising = a.shape.dpcs.rising

  -- ---- the numbers of the queued DPCs

  numbers-new : dpc_at s.dpcs.table x.address ≡ none → (q : List ℕ) → ((b : ℕ) → Mem b q → present (dpc_at s.dpcs.table b) ≡ true)
      → numbers_in (put_dpc x s.dpcs.table) q ≡ map (λ (y : ℕ). raised_number y (below address_of x.address s.dpcs.table)) (numbers_in s.dpcs.table q)
  numbers-new e [] h = refl
  numbers-new e (b ∷ q) h =
      let p = present-some s.dpcs.table b (h b (inl refl)) in
      let size = (put-new address_of x s.dpcs.table e).size in
      ap (λ (k : ℕ). k ∷ numbers_in (put_dpc x s.dpcs.table) q) (number_put address_of x s.dpcs.table rising e b p.0 p.1 (omega (arith, few)))
      ∙ ap (λ (l : List ℕ). raised_number (number_in s.dpcs.table b) (below address_of x.address s.dpcs.table) ∷ l) (numbers-new e q (λ c m. h c (inr m)))

  numbers-known : (z : Dpc) → dpc_at s.dpcs.table x.address ≡ some z → (q : List ℕ) → ((b : ℕ) → Mem b q → present (dpc_at s.dpcs.table b) ≡ true)
      → numbers_in (put_dpc x s.dpcs.table) q ≡ numbers_in s.dpcs.table q
  numbers-known z e [] h = refl
  numbers-known z e (b ∷ q) h =
      let p = present-some s.dpcs.table b (h b (inl refl)) in
      ap (λ (k : ℕ). suc k ∷ numbers_in (put_dpc x s.dpcs.table) q) (below-put-known address_of x s.dpcs.table rising z e b p.0 p.1)
      ∙ ap (λ (l : List ℕ). number_in s.dpcs.table b ∷ l) (numbers-known z e q (λ c m. h c (inr m)))

  -- ---- the queue

  abbrev chain : Chain
  chain = queue_from (dpcs_from s.limits)

  queue-new : dpc_at s.dpcs.table x.address ≡ none → Holds (entered w x.address d) chain (numbers_in (put_dpc x s.dpcs.table) s.dpcs.queue)
  queue-new e =
      let size = (put-new address_of x s.dpcs.table e).size in
      let st = numbers-standing s.dpcs.table s.dpcs.queue a.shape.dpcs in
      subst (λ (u : List ℕ). Holds u chain (numbers_in (put_dpc x s.dpcs.table) s.dpcs.queue))
      (sym (rows.entered-new address_of w (dpcs_from s.limits) s.dpcs.table low (omega arith) (dpcs-base-is w s holder active a) count_word rising (dpc-keys w s holder active a) x d (omega (arith, few)) e))
      (subst (Holds (code.inserted w x.address d) chain) (sym (numbers-new e s.dpcs.queue a.shape.dpcs.queued))
      (holds-renumbered (λ (y : ℕ). raised_number y (below address_of x.address s.dpcs.table)) w (code.inserted w x.address d) chain chain (numbers_in s.dpcs.table s.dpcs.queue) a.work
      (raised-zero (below address_of x.address s.dpcs.table))
      (λ y m. rows.inserted-links address_of w (dpcs_from s.limits) s.dpcs.table low (omega arith) (dpcs-base-is w s holder active a) count_word rising (dpc-keys w s holder active a) x d
      (omega (arith, few)) (omega (arith, long)) y (within y m))
      (rows.inserted-last address_of w (dpcs_from s.limits) s.dpcs.table low (omega arith) (dpcs-base-is w s holder active a) count_word rising (dpc-keys w s holder active a) x d
      (omega (arith, few)) (omega (arith, long)))))
    where
      within : (y : ℕ) → Mem y (0 ∷ numbers_in s.dpcs.table s.dpcs.queue) → y ≤ length s.dpcs.table
      within y (inl z) = omega arith
      within y (inr m) = ((numbers-standing s.dpcs.table s.dpcs.queue a.shape.dpcs).within y m).1

  -- a number of the queue is not that of a DPC that is not in it
  other-number : (z : Dpc) → dpc_at s.dpcs.table x.address ≡ some z → (Mem x.address s.dpcs.queue → ⊥) → (t : ℕ) → Mem (suc t) (numbers_in s.dpcs.table s.dpcs.queue)
      → t ≡ below address_of x.address s.dpcs.table → ⊥
  other-number z e out t m q =
      let r = mem-map (number_in s.dpcs.table) (suc t) s.dpcs.queue m in
      let p = number_at s.dpcs.table rising r.0 (a.shape.dpcs.queued r.0 r.1) in
      let f = find_at address_of s.dpcs.table rising x.address z e in
      let k : below address_of r.0 s.dpcs.table ≡ below address_of x.address s.dpcs.table = omega (arith, r.2) in
      let same : p.0 ≡ z = some_same p.0 z (sym p.1 ∙ ap (nth s.dpcs.table) k ∙ f) in
      out (subst (λ (b : ℕ). Mem b s.dpcs.queue) (sym p.2 ∙ ap (λ (y : Dpc). y.address) same ∙ (found address_of s.dpcs.table x.address z e).1) r.1)

  queue-known : (z : Dpc) → dpc_at s.dpcs.table x.address ≡ some z → (Mem x.address s.dpcs.queue → ⊥)
      → Holds (entered w x.address d) chain (numbers_in (put_dpc x s.dpcs.table) s.dpcs.queue)
  queue-known z e out =
      let size = length-put-known address_of x s.dpcs.table rising z e in
      subst (λ (u : List ℕ). Holds u chain (numbers_in (put_dpc x s.dpcs.table) s.dpcs.queue))
      (sym (rows.entered-known address_of w (dpcs_from s.limits) s.dpcs.table low (omega arith) (dpcs-base-is w s holder active a) count_word rising (dpc-keys w s holder active a) x d (omega (arith, few)) z e))
      (subst (Holds (code.put_dpc w place x.address d) chain) (sym (numbers-known z e s.dpcs.queue a.shape.dpcs.queued))
      (holds-depends w chain (numbers_in s.dpcs.table s.dpcs.queue) a.work (code.put_dpc w place x.address d) kept))
    where
      place : ℕ
      place = dpcs_from s.limits + 32 * below address_of x.address s.dpcs.table

      far : (j : ℕ) → (place ≤ j → j < place + 11 → ⊥) → get_or (code.put_dpc w place x.address d) j 0 ≡ get_or w j 0
      far j n = rows.dpc-outside (λ (p : ℕ). p ≡ j) w place x.address d (λ k h q. n (omega arith) (omega arith)) j refl

      within : (y : ℕ) → Mem y (0 ∷ numbers_in s.dpcs.table s.dpcs.queue) → y ≤ 4096
      within y (inl z) = omega arith
      within y (inr m) = omega (arith, ((numbers-standing s.dpcs.table s.dpcs.queue a.shape.dpcs).within y m).1, a.shape.sizes.dpcs_fit, a.shape.sizes.limits.dpcs)

      link : (y : ℕ) → Mem y (0 ∷ numbers_in s.dpcs.table s.dpcs.queue) → get_or (code.put_dpc w place x.address d) (link_at chain y) 0 ≡ get_or w (link_at chain y) 0
      link y m = queue-place (dpcs_from s.limits) (omega arith) (λ (p : ℕ). get_or (code.put_dpc w place x.address d) p 0 ≡ get_or w p 0) y (within y m)
          (λ q. far 23 (λ h k. omega arith)) (λ t q. far (dpcs_from s.limits + 32 * t + 2) (λ h k. other-number z e out t (inner t q m) (omega arith)))
        where
          inner : (t : ℕ) → y ≡ suc t → Mem y (0 ∷ numbers_in s.dpcs.table s.dpcs.queue) → Mem (suc t) (numbers_in s.dpcs.table s.dpcs.queue)
          inner t q (inl c) = absurd (omega arith)
          inner t q (inr c) = subst (λ (k : ℕ). Mem k (numbers_in s.dpcs.table s.dpcs.queue)) q c

      kept : (j : ℕ) → Own chain (numbers_in s.dpcs.table s.dpcs.queue) j → get_or (code.put_dpc w place x.address d) j 0 ≡ get_or w j 0
      kept j (inl q) = far j (λ h k. omega arith)
      kept j (inr (y, m, q)) = ap (λ (p : ℕ). get_or (code.put_dpc w place x.address d) p 0) q ∙ link y m ∙ ap (λ (p : ℕ). get_or w p 0) (sym q)

  -- ---- agreement

  fits : (x.address ≡ 0 → ⊥) → DpcsFit (put_dpc x s.dpcs.table) s.dpcs.queue
  fits some-where = record {
    rising = rising-put address_of x s.dpcs.table rising;
    placed = λ y m z. ⊎_elim (λ (q : y ≡ x). some-where (ap (λ (b : Dpc). b.address) (sym q) ∙ z)) (λ (q : Mem y s.dpcs.table). a.shape.dpcs.placed y q z) (mem-put address_of x s.dpcs.table y m);
    queued = λ b m. still b (a.shape.dpcs.queued b m) (ℕ_discrete b x.address);
    once = a.shape.dpcs.once;
  }
    where
      still : (b : ℕ) → present (dpc_at s.dpcs.table b) ≡ true → Dec (b ≡ x.address) → present (dpc_at (put_dpc x s.dpcs.table) b) ≡ true
      still b h (yes q) = ap (λ (k : ℕ). present (dpc_at (put_dpc x s.dpcs.table) k)) q ∙ ap (λ (o : Option Dpc). present o) (find-put-own address_of x s.dpcs.table)
      still b h (no n) = ap (λ (o : Option Dpc). present o) (find-put-other address_of x s.dpcs.table b n) ∙ h

  pub sim-enter-dpc : (x.address ≡ 0 → ⊥) → holder x.address ≡ 0 → (Mem x.address s.dpcs.queue → ⊥) → eleven_row x.address d ≡ dpc_row 0 x
      → Agreeing (entered w x.address d) (with_dpcs s (record { table = put_dpc x s.dpcs.table; queue = s.dpcs.queue; counters = s.dpcs.counters })) holder active
  sim-enter-dpc some-where unheld out e =
      sim-dpcs w s holder active a (entered w x.address d) (put_dpc x s.dpcs.table) holder
      (rows.length-entered address_of w (dpcs_from s.limits) s.dpcs.table low (omega arith) (dpcs-base-is w s holder active a) count_word rising (dpc-keys w s holder active a) x d few long)
      (rows.entered-outside address_of w (dpcs_from s.limits) s.dpcs.table low (omega arith) (dpcs-base-is w s holder active a) count_word rising (dpc-keys w s holder active a) x d few long
      (Elsewhere w s holder active a) (λ r. r.no-count refl) (λ r. r.no-first refl) (λ r. r.no_last refl) (λ t h r. r.no-dpc (omega arith)) (λ p h l r. r.no-dpc (omega arith)))
      (rows.entered-count address_of w (dpcs_from s.limits) s.dpcs.table low (omega arith) (dpcs-base-is w s holder active a) count_word rising (dpc-keys w s holder active a) x d few long)
      (rows.entered-holds address_of w (dpcs_from s.limits) s.dpcs.table low (omega arith) (dpcs-base-is w s holder active a) count_word rising (dpc-keys w s holder active a) x d few long
      (λ u p y. Row u p (dpc_row (holder y.address) y)) (dpc-local holder) a.dpcs (entered w x.address d) (λ j h n k m c. refl) row)
      (queue (dpc_at s.dpcs.table x.address) refl) room (fits some-where)
    where
      place : ℕ
      place = dpcs_from s.limits + 32 * below address_of x.address s.dpcs.table

      row : Row (entered w x.address d) place (dpc_row (holder x.address) x)
      row = subst (λ (h : ℕ). Row (entered w x.address d) place (dpc_row h x)) (sym unheld)
          (subst (Row (entered w x.address d) place) e
          (eleven-row (entered w x.address d) place x.address d
          (rows.entered-shows address_of w (dpcs_from s.limits) s.dpcs.table low (omega arith) (dpcs-base-is w s holder active a) count_word rising (dpc-keys w s holder active a) x d few long)))

      queue : (o : Option Dpc) → dpc_at s.dpcs.table x.address ≡ o → Holds (entered w x.address d) chain (numbers_in (put_dpc x s.dpcs.table) s.dpcs.queue)
      queue none q = queue-new q
      queue (some z) q = queue-known z q out
