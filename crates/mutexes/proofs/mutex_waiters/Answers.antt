use mathlib.Core.Path.{◌∙◌, sym, ap}
use Rattle.std.proofs.Common.{rules, of_calls, tests}
use Rattle.std.proofs.lemmas.Iterator.{YieldsList-from_map}
use Rattle.std.proofs.lemmas.Iterator.Consumers.{YieldsList-at, YieldsList-from_first, sum_by_from_yields_List, fits_by_from_yields_list}
use Rattle.answers.specs.declared.Answer.TheVariants.{Count}
use Rattle.chains.specs.Chain.{members_of}
use Rattle.chains.specs.Members.{members_left}
use Rattle.chains.specs.Ready.{waiters_chain}
use Rattle.mutexes.specs.Mutexes.{waits_for, waiters_answer}
use Rattle.mutexes.proofs.WaiterLaws.{waiters-sum, waiters-fit}
use Rattle.mutexes.proofs.mutex_waiters.Goals as goal

pub sum-requires : goal.sum-requires
sum-requires c = record {
  can = search of_calls;
  finite = search of_calls;
  fits = fits_by_from_yields_list _ (members_of c.args.w.now waiters_chain) c.map.result _
      (YieldsList-from_map _ (λ id. waits_for c.args.w.now id c.args.key) (YieldsList-at c.map.ensures.source (YieldsList-from_first (λ x. x) members_left (members_of c.args.w.now waiters_chain) cc)) c.map.ensures.closure (λ x r q k. search (rules, tests)))
      (waiters-fit c.args.w.now c.args.key);
}

pub returns : goal.returns
unfolding waiters_answer
returns c =
    ap Count
    (sum_by_from_yields_List _ (members_of c.args.w.now waiters_chain) c.map.result _ c.sum.ensures.ran
    (YieldsList-from_map _ (λ id. waits_for c.args.w.now id c.args.key) (YieldsList-at c.map.ensures.source (YieldsList-from_first (λ x. x) members_left (members_of c.args.w.now waiters_chain) cc)) c.map.ensures.closure (λ x r q k. search (rules, tests)))
    ∙ sym (waiters-sum c.args.w.now c.args.key))
