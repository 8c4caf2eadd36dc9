use Rattle.std.proofs.Common.{◌≡◌, drop}
use Rattle.expiry.specs.Expire.{expired_list}
use Rattle.expiry.proofs.expire.expire_list.Given as goal

abbrev pub invariant-loop-i : goal.invariant-loop-i
invariant-loop-i l = expired_list l.w l.base (drop l.i-index l.list) l.time ≡ expired_list l.initial.w l.base l.list l.time
