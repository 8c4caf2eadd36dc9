use mathlib.Core.Path.{◌∙◌, sym}
use Rattle.std.proofs.lemmas.Iterator.Adapters.{option_map_id}
use Rattle.std.proofs.lemmas.Iterator.Consumers.{YieldsList-from_first, nth_from_yields_List}
use Rattle.chains.specs.Chain.{first_of, members_of}
use Rattle.chains.specs.Members.{members_left}
use Rattle.dpcs.specs.Record.{queue_chain}
use Rattle.dpc_reads.specs.Reads.{queued_number}
use Rattle.dpc_reads.proofs.QueueLaws.{stepped-get}
use Rattle.dpc_reads.proofs.queued_number.Goals as goal

pub returns : goal.returns
unfolding queued_number members_of
returns c =
    sym (option_map_id c.nth.result)
    ∙ nth_from_yields_List c.nth.result c.nth.new.self c.args.position c.nth.ensures.ran (YieldsList-from_first (λ x. x) members_left (members_of c.args.w.now (queue_chain c.args.w.now)) cc)
    ∙ stepped-get c.args.w.now (queue_chain c.args.w.now) c.args.position 4096 (first_of c.args.w.now (queue_chain c.args.w.now)) c.requires
