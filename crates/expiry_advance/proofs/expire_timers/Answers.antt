use native.Mathlib.Omega.{arith}
use Rattle.objects.proofs.CountLaws.{count_most}
use Rattle.expiry_advance.proofs.expire_timers.Goals as goal

pub expire_within-requires-2 : goal.expire_within-requires-2
expire_within-requires-2 c = (omega (arith, count_most c.args.w.now), omega arith)
