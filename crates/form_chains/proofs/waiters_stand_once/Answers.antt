use Rattle.chains.specs.Ready.{waiters_chain}
use Rattle.form_dpc.proofs.FormDpcLaws.{counted_is}
use Rattle.form_chains.specs.Chain.{chain_size}
use Rattle.form_chains.proofs.waiters_stand_once.Goals as goal

pub returns : goal.returns
returns c = cc (counted_is (chain_size c.args.w.now waiters_chain 3 0) c.args.waiting)
