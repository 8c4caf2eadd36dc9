use Rattle.std.proofs.Common.{◌≡◌, drop}
use Rattle.expiry.specs.Check.{refusal_in, list_refusal}
use Rattle.expiry.proofs.check.check_list.Given as goal

abbrev pub invariant-loop-i : goal.invariant-loop-i
invariant-loop-i l = refusal_in l.w l.base (drop l.i-index l.list) l.time l.c ≡ list_refusal l.w l.base l.list l.time
