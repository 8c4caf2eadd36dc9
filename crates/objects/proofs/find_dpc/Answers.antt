use Rattle.objects.proofs.FoundLaws.{dpc-some}
use Rattle.objects.proofs.find_dpc.Goals as goal

pub returns : goal.returns
returns c = simp (c.found_at.ensures, c.dpcs_base.ensures, c.get.ensures, dpc-some c.args.w.now c.args.address)
