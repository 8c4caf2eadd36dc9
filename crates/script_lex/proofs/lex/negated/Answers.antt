use Rattle.script_lex.proofs.SignedLaws.{difference-fits, cast_fits, cast_is}
use Rattle.script_lex.proofs.lex.negated.Goals as goal

pub overflow_sub-result : goal.overflow_sub-result
overflow_sub-result c = difference-fits c.args.n c.requires

pub overflow_cast-result-2 : goal.overflow_cast-result-2
overflow_cast-result-2 c = cast_fits c.args.n c.requires

pub returns : goal.returns
returns c = cast_is c.args.n c.requires
