use Rattle.std.proofs.Common.{◌≡◌, ◌⊎◌, inl, inr, refl}
use Rattle.images.specs.declared.DpcWork.{DpcWork}
use Rattle.images.specs.declared.DpcPhase.{DpcPhase}
use Rattle.images.specs.declared.DpcPhase.TheVariants.{Queued, Running, Returning}
use Rattle.images.specs.Field.{laid}
use Rattle.images.specs.Image.{phase_fields, work_fields}
use Rattle.images.proofs.put_phase.Goals as goal

pub returns-in-Idle : goal.returns-in-Idle
unfolding phase_fields laid
returns-in-Idle c = cc

pub returns-in-Queued : goal.returns-in-Queued
unfolding phase_fields
returns-in-Queued c = cc (works c.args.p c.in-Queued.w c.in-Queued.is)
  where
    works : (p : DpcPhase) (w : DpcWork) → (p ≡ Queued w) ⊎ ((p ≡ Running w) ⊎ (p ≡ Returning w)) → phase_fields c.args.a p ≡ work_fields c.args.a w
    works p w (inl e) = rw e refl
    works p w (inr (inl e)) = rw e refl
    works p w (inr (inr e)) = rw e refl
