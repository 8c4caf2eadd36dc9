use Rattle.objects.proofs.FoundLaws.{object-some}
use Rattle.objects.proofs.find_object.Goals as goal

pub returns : goal.returns
returns c = simp (c.found_at.ensures, c.objects_base.ensures, c.get.ensures, object-some c.args.w.now c.args.key)
