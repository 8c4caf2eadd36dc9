-- Words that agree with a state do so under whoever has the DPCs that there are: what is said of other addresses does not matter.
use Prim.Native.Nat.{ℕ, ◌+◌, ◌*◌}
use mathlib.Core.List.{List}
use mathlib.Core.Path.{◌≡◌, sym, subst}
use Rattle.images.specs.declared.Dpc.{Dpc}
use Rattle.model.specs.Lists.{Mem}
use Rattle.model.specs.State.{State}
use Rattle.agreement_tables.proofs.Lists.{nth-mem}
use Rattle.agreement.specs.Row.{Row}
use Rattle.agreement.specs.Records.{dpc_row}
use Rattle.agreement.specs.Agree.{dpcs_from, Agreeing}

module _ (w : List ℕ) (s : State) (holder : ℕ → ℕ) (active : ℕ) (a : Agreeing w s holder active) (holder' : ℕ → ℕ) where
  -- the same at each DPC
  pub agreeing-at : ((d : Dpc) → Mem d s.dpcs.table → holder' d.address ≡ holder d.address) → Agreeing w s holder' active
  agreeing-at h = record {
    enough = a.enough;
    numbers = a.numbers;
    threads = a.threads;
    waits = a.waits;
    queues = a.queues;
    waiters = a.waiters;
    objects = a.objects;
    dpcs = λ i d e. subst (λ (k : ℕ). Row w (dpcs_from s.limits + 32 * i) (dpc_row k d)) (sym (h d (nth-mem s.dpcs.table i d e))) (a.dpcs i d e);
    work = a.work;
    shape = a.shape;
  }

  -- the same at every address but 0, where no DPC stands
  pub agreeing-same : ((b : ℕ) → (b ≡ 0 → ⊥) → holder' b ≡ holder b) → Agreeing w s holder' active
  agreeing-same h = agreeing-at (λ d m. h d.address (a.shape.dpcs.placed d m))
