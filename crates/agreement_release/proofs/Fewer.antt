-- Agreement with another function of who has a DPC, the same on the DPCs that there are.
use Prim.Native.Nat.{ℕ, ◌+◌, ◌*◌}
use mathlib.Core.List.{List}
use mathlib.Core.Path.{◌≡◌, sym, subst}
use Rattle.images.specs.declared.Dpc.{Dpc}
use Rattle.model.specs.Lists.{Mem}
use Rattle.model.specs.State.{State}
use Rattle.agreement_tables.proofs.Lists.{nth-mem}
use Rattle.agreement.specs.Row.{Row}
use Rattle.agreement.specs.Records.{dpc_row}
use Rattle.agreement.specs.Agree.{dpcs_from, header_of, Agreeing}

module _ (w : List ℕ) (s : State) (holder : ℕ → ℕ) (active : ℕ) (a : Agreeing w s holder active) where
  pub same-named : (holder' : ℕ → ℕ) (active' : ℕ) → ((d : Dpc) → Mem d s.dpcs.table → holder' d.address ≡ holder d.address) → active' ≡ active → Agreeing w s holder' active'
  same-named holder' active' same e = record {
    enough = a.enough;
    numbers = subst (λ (n : ℕ). Row w 0 (header_of s n)) (sym e) a.numbers;
    threads = a.threads;
    waits = a.waits;
    queues = a.queues;
    waiters = a.waiters;
    objects = a.objects;
    dpcs = λ i d q. subst (λ (n : ℕ). Row w (dpcs_from s.limits + 32 * i) (dpc_row n d)) (sym (same d (nth-mem s.dpcs.table i d q))) (a.dpcs i d q);
    work = a.work;
    shape = a.shape;
  }
