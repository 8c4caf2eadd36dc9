use mathlib.Core.Path.{◌∙◌, sym}
use Rattle.std.proofs.Common.{rules}
use Rattle.std.proofs.lemmas.Iterator.Consumers.{YieldsList-from_first, fold_from_yields_List}
use Rattle.chains.specs.Chain.{members_of}
use Rattle.chains.specs.Members.{members_left}
use Rattle.chains.specs.Ready.{waiters_chain}
use Rattle.dispatcher.specs.Dispatch.{no_due, due_after}
use Rattle.dispatcher.proofs.DispatchLaws.{soonest-fold}
use Rattle.dispatcher.proofs.dispatch.soonest.Goals as goal

pub returns : goal.returns
unfolding no_due
returns c =
    fold_from_yields_List _ (due_after c.args.w.now) _ c.fold.result c.fold.ensures.ran (YieldsList-from_first (λ x. x) members_left (members_of c.args.w.now waiters_chain) cc) (λ d x r q k. search rules)
    ∙ sym (soonest-fold c.args.w.now)
