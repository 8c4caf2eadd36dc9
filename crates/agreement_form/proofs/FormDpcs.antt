-- The DPCs of the state that words in form tell: places, work, the queue and the counts.
use Prim.Native.Nat.{ℕ, suc, ◌+◌, ◌*◌, ◌≤◌, ◌<◌}
use mathlib.Core.List.{List, map}
use mathlib.Core.Bool.{Bool, true, false}
use mathlib.Core.Option.{Option, none, some}
use mathlib.Core.Path.{◌≡◌, refl, sym, ap, ◌∙◌, subst}
use native.Mathlib.Omega.{arith}
use borrow.Author.Tests.{eqb-true}
use lib.ListN.{get_or}
use Rattle.words.specs.Layout as at
use Rattle.images.specs.declared.Dpc.{Dpc}
use Rattle.images.specs.declared.DpcPhase.{DpcPhase}
use Rattle.images.specs.declared.DpcPhase.TheVariants.{Idle}
use Rattle.form_dpc.specs.Dpc.{phase_count}
use Rattle.form_dpc.specs.Counts.{active_count, sum_holds, returns_pass}
use Rattle.model.specs.Lists.{Mem, member, given}
use Rattle.model.specs.Dpcs.{address_of, dpc_at, phase_at, is_queued, is_busy, work_of}
use Rattle.model.specs.Valid.{Each, DpcPlaced, sequence_of, work_at}
use Rattle.model.proofs.ListLaws.{not-both, not-member, mem-member, member-mem}
use Rattle.model.proofs.DpcLaws.{phase-found}
use Rattle.model.proofs.TableLaws.{found, none-some}
use Rattle.agreement_tables.proofs.Numbers.{below-nth}
use Rattle.agreement_tables.specs.Tables.{below}
use Rattle.agreement.specs.Agree.{Agreeing, dpcs_from}
use Rattle.agreement_form.specs.Decoded.{limits_of, dpc_of, table_of, address_at, numbers_of, counters_of, decoded}
use Rattle.agreement_form.specs.Words.{Words}
use Rattle.agreement_form.specs.Form.{QueueForm}
use Rattle.agreement_form.proofs.Each.{length-each, mem-each}
use Rattle.agreement_form.proofs.PhaseCounts.{queued-number, phase_word, active-count, returning-count}
use Rattle.agreement_form.proofs.DpcCounts.{length-map}
use Rattle.agreement_form.proofs.DecodedDpcs.{dpcs-rise, dpc-placed, work-sequence}
use Rattle.agreement_form.proofs.DecodedQueue.{record-at, dpc-found, queued-there, there-queued, queue-once}
use Rattle.agreement_form.proofs.DecodedActive.{starts-form}
use Rattle.agreement_form.proofs.Parts.{Parts}
use Rattle.agreement_form.proofs.Told.{told, agreeing-told}

module _ (w : List ℕ) (words : Words w) (p : Parts w) where
  a₀ : Agreeing w (decoded w) (told w) (get_or w at.active 0)
  a₀ = agreeing-told w words p

  abbrev table : List Dpc
  table = table_of w

  abbrev queue : List ℕ
  queue = map (address_at w) (numbers_of w)

  -- what is found is one of the table
  pub found-at : (a : ℕ) (d : Dpc) → dpc_at table a ≡ some d → (i : ℕ) × (i < get_or w at.dpcs 0) × (d ≡ dpc_of w i) × (a ≡ (dpc_of w i).address)
  found-at a d e =
      let m = found address_of table a d e in
      let h = mem-each (dpc_of w) (get_or w at.dpcs 0) 0 d m.0 in
      (h.0, omega (arith, h.2), h.3, sym m.1 ∙ ap address_of h.3)

  places : Each address_of table DpcPlaced
  places a d e =
      let h = found-at a d e in
      subst DpcPlaced (sym h.2) (dpc-placed w (dpcs_from (limits_of w) + 32 * h.0) (p.dpcs.forms h.0 h.1))

  -- ---- work

  works : (a : ℕ) → (work_at table a ≤ get_or w at.accepted 0) × (is_busy (phase_at table a) ≡ true → 1 ≤ work_at table a)
  works a = go (dpc_at table a) refl
    where
      is : DpcPhase → Type 0
      is x = (sequence_of (work_of x) ≤ get_or w at.accepted 0) × (is_busy x ≡ true → 1 ≤ sequence_of (work_of x))

      go : (o : Option Dpc) → dpc_at table a ≡ o → is (phase_at table a)
      go none e = subst (λ (x : Option Dpc). is (given x Idle (λ (d : Dpc). d.phase))) (sym e) (omega arith, (λ q. absurd (not-both (sym q))))
      go (some d) e =
          let h = found-at a d e in
          subst is (sym (phase-found table a d e)) (subst (λ (x : Dpc). is x.phase) (sym h.2) (work-sequence w (dpcs_from (limits_of w) + 32 * h.0) (p.dpcs.forms h.0 h.1)))

  pub bear : (a : ℕ) → is_busy (phase_at table a) ≡ true → 1 ≤ work_at table a
  bear a = (works a).1

  -- ---- the queue

  -- one number to an address
  same_number : (j k : ℕ) → j < get_or w at.dpcs 0 → k < get_or w at.dpcs 0 → (dpc_of w j).address ≡ (dpc_of w k).address → suc j ≡ suc k
  same_number j k b c e =
      ap suc (sym (below-nth address_of table (dpcs-rise w p.dpcs) j (dpc_of w j) (record-at w p.dpcs p.queue j b))
      ∙ ap (λ (x : ℕ). below address_of x table) e
      ∙ below-nth address_of table (dpcs-rise w p.dpcs) k (dpc_of w k) (record-at w p.dpcs p.queue k c))

  -- an address stands in the queue if its number stands in the chain
  in-queue : (a i : ℕ) → i < get_or w at.dpcs 0 → a ≡ (dpc_of w i).address → member a queue ≡ member (suc i) (numbers_of w)
  in-queue a i small r = go (member a queue) refl (member (suc i) (numbers_of w)) refl
    where
      back : Mem a queue → Mem (suc i) (numbers_of w)
      back m =
          let h = queued-there w p.dpcs p.queue a m in
          subst (λ (y : ℕ). Mem y (numbers_of w)) (same_number h.0 i h.1 small (sym h.3 ∙ r)) h.2

      forth : Mem (suc i) (numbers_of w) → Mem a queue
      forth m = subst (λ (y : ℕ). Mem y queue) (sym r) (there-queued w p.dpcs p.queue i m)

      go : (b : Bool) → member a queue ≡ b → (c : Bool) → member (suc i) (numbers_of w) ≡ c → member a queue ≡ member (suc i) (numbers_of w)
      go true e true f = e ∙ sym f
      go false e false f = e ∙ sym f
      go true e false f = absurd (not-both (sym (mem-member (suc i) (numbers_of w) (back (member-mem a queue e))) ∙ f))
      go false e true f = absurd (not-both (sym (mem-member a queue (forth (member-mem (suc i) (numbers_of w) f))) ∙ e))

  queued : (a : ℕ) → member a queue ≡ is_queued (phase_at table a)
  queued a = go (dpc_at table a) refl
    where
      go : (o : Option Dpc) → dpc_at table a ≡ o → member a queue ≡ is_queued (phase_at table a)
      go none e =
          not-member a queue (λ m. let h = queued-there w p.dpcs p.queue a m in none-some (dpc_of w h.0) (sym e ∙ ap (dpc_at table) h.3 ∙ dpc-found w p.dpcs p.queue h.0 h.1))
          ∙ ap (λ (x : Option Dpc). is_queued (given x Idle (λ (d : Dpc). d.phase))) (sym e)
      go (some d) e =
          let h = found-at a d e in
          in-queue a h.0 h.1 h.3 ∙ sym (p.queue.exact h.0 h.1)
          ∙ phase_word w (decoded w) (told w) (get_or w at.active 0) a₀ 1 h.0 (dpc_of w h.0) (record-at w p.dpcs p.queue h.0 h.1) ∙ queued-number (dpc_of w h.0).phase
          ∙ ap is_queued (ap (λ (x : Dpc). x.phase) (sym h.2) ∙ sym (phase-found table a d e))

  -- ---- counts

  sum-form : get_or w at.accepted 0 ≡ get_or w at.removed 0 + (get_or w at.restored 0 + (phase_count w 1 + active_count w))
  unfolding sum_holds
  sum-form = eqb-true (get_or w at.accepted 0) (get_or w at.removed 0 + (get_or w at.restored 0 + (phase_count w 1 + active_count w))) p.sum

  returns-form : get_or w at.returned 0 ≡ get_or w at.restored 0 + phase_count w 3
  unfolding returns_pass
  returns-form = eqb-true (get_or w at.returned 0) (get_or w at.restored 0 + phase_count w 3) p.returns

  pub queue-form : QueueForm (get_or w at.dpc_limit 0) table queue (counters_of w)
  queue-form =
      let active = active-count w (decoded w) (told w) (get_or w at.active 0) a₀ in
      let started = starts-form w p.starts in
      record {
        rising = dpcs-rise w p.dpcs;
        room = omega (arith, length-each (dpc_of w) (get_or w at.dpcs 0) 0, p.header.dpcs_fit);
        places = places;
        queued = queued;
        once = queue-once w p.dpcs p.queue;
        given_out = λ a. (works a).0;
        lived = p.header.lived;
        sum = omega (arith, sum-form, active, p.queue.long, length-map (address_at w) (numbers_of w));
        starts = omega (arith, started.started, active);
        one_active = omega (arith, started.one, active);
        returns = omega (arith, returns-form, returning-count w (decoded w) (told w) (get_or w at.active 0) a₀);
      }
