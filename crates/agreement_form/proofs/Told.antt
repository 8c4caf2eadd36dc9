-- Words in form and the state that they tell agree, with the holders and the active DPC as the words say them.
use Prim.Native.Nat.{ℕ, ◌+◌, ◌*◌, ◌<◌}
use mathlib.Core.List.{List}
use mathlib.Core.Path.{◌≡◌, refl, sym, ap, subst}
use native.Mathlib.Omega.{arith}
use lib.ListN.{get_or}
use Rattle.words.specs.Layout as at
use Rattle.model.specs.Dpcs.{address_of}
use Rattle.agreement.specs.Row.{Row}
use Rattle.agreement_tables.specs.Tables.{below}
use Rattle.agreement_tables.proofs.Numbers.{below-nth}
use Rattle.agreement_chains.specs.Chains.{Standing}
use Rattle.agreement.specs.Agree.{Agreeing, ShapeOf, dpcs_from, header_of}
use Rattle.agreement_form.specs.Decoded.{limits_of, thread_by, object_of, dpc_of, table_of, decoded}
use Rattle.agreement_form.specs.Words.{Words}
use Rattle.agreement_form.proofs.Each.{length-each}
use Rattle.agreement_form.proofs.HeaderForm.{header_row}
use Rattle.agreement_form.proofs.DecodedThreads.{threads-hold, waits-hold, threads_fit}
use Rattle.agreement_form.proofs.DecodedObjects.{objects-hold, objects-rise, objects_fit}
use Rattle.agreement_form.proofs.DecodedDpcs.{dpcs-hold, dpcs-rise}
use Rattle.agreement_form.proofs.DecodedQueue.{record-at, work-holds, queue-fits}
use Rattle.agreement_form.proofs.Parts.{Parts}

-- word 3 of the record with an address
abbrev pub told : List ℕ → ℕ → ℕ
told w a = get_or w (dpcs_from (limits_of w) + 32 * below address_of a (table_of w) + at.named_by) 0

module _ (w : List ℕ) (words : Words w) (p : Parts w) where
  -- the record of the i-th DPC
  pub told_is : (i : ℕ) → i < get_or w at.dpcs 0 → get_or w (dpcs_from (limits_of w) + 32 * i + at.named_by) 0 ≡ told w (dpc_of w i).address
  told_is i h =
      ap (λ (j : ℕ). get_or w (dpcs_from (limits_of w) + 32 * j + at.named_by) 0)
      (sym (below-nth address_of (table_of w) (dpcs-rise w p.dpcs) i (dpc_of w i) (record-at w p.dpcs p.queue i h)))

  pub shape : ShapeOf (decoded w)
  shape =
      let threads = length-each (thread_by w) (get_or w at.threads 0) 1 in
      record {
        sizes = record {
          limits = p.header.limits;
          threads_fit = omega (arith, threads, p.header.threads_fit);
          objects_fit = omega (arith, length-each (object_of w) (get_or w at.objects 0) 0, p.header.objects_fit);
          dpcs_fit = omega (arith, length-each (dpc_of w) (get_or w at.dpcs 0) 0, p.header.dpcs_fit);
        };
        fit = threads_fit w p.threads;
        ready_standing = subst (λ (n : ℕ). Standing n (decoded w).dispatcher.placed) (sym threads) p.ready.standing;
        waiting_standing = subst (λ (n : ℕ). Standing n (decoded w).dispatcher.waiters) (sym threads) p.waiters.standing;
        rising = objects-rise w p.objects;
        bounded = objects_fit w p.objects words;
        dpcs = queue-fits w p.dpcs p.queue;
        counted = omega (arith, words 14);
      }

  pub agreeing : (holder : ℕ → ℕ) (active : ℕ) → ((i : ℕ) → i < get_or w at.dpcs 0 → get_or w (dpcs_from (limits_of w) + 32 * i + at.named_by) 0 ≡ holder (dpc_of w i).address) → get_or w at.active 0 ≡ active
      → Agreeing w (decoded w) holder active
  agreeing holder active h e =
      record {
        enough = p.header.enough;
        numbers = subst (λ (n : ℕ). Row w 0 (header_of (decoded w) n)) e (header_row w p.header);
        threads = threads-hold w p.threads;
        waits = waits-hold w p.threads;
        queues = p.ready.queues;
        waiters = p.waiters.holds;
        objects = objects-hold w p.objects;
        dpcs = dpcs-hold w p.dpcs holder h;
        work = work-holds w p.dpcs p.queue;
        shape = shape;
      }

  pub agreeing-told : Agreeing w (decoded w) (told w) (get_or w at.active 0)
  agreeing-told = agreeing (told w) (get_or w at.active 0) told_is refl
