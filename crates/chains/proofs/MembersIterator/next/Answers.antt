use Rattle.std.proofs.Common.{arith}
use Rattle.std.proofs.lemmas.Grind.{common_steps}
use Rattle.chains.proofs.ChainLaws.{members-end, members-none, members-more}
use Rattle.chains.proofs.MembersIterator.next.Goals as goal

pub returns-then-self-eq0-clause-steps : goal.returns-then-self-eq0-clause-steps
returns-then-self-eq0-clause-steps c = let e = members-end c.args.self.now.left c.args.self.now.w.now c.args.self.now.chain _ c.if-self-eq0.true in (e, e)

pub returns-in_err-self-clause-steps : goal.returns-in_err-self-clause-steps
returns-in_err-self-clause-steps c = let e = members-none c.args.self.now.left c.args.self.now.w.now c.args.self.now.chain c.args.self.now.at in grind (arith, common_steps)

pub returns-clause-steps : goal.returns-clause-steps
returns-clause-steps c = let e = members-more c.args.self.now.left c.args.self.now.w.now c.args.self.now.chain c.args.self.now.at (omega (arith, c.in_ok-self.ensures)) c.if-self-eq0.false in cc c.in_ok-self.ensures.1

pub returns-clause-goes : goal.returns-clause-goes
returns-clause-goes c = let e = returns-clause-steps c in grind (arith, common_steps)
