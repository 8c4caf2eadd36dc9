use Rattle.wide.proofs.Columns.{upper_fits, tenth-is}
use Rattle.wide.proofs.tenth.Goals as goal

pub overflow_add-upper : goal.overflow_add-upper
overflow_add-upper c = record { fits = upper_fits c.args.p.hi c.struct_known-2-1.given.1.0.fits }

pub returns : goal.returns
returns c = tenth-is _ _ c.struct_known-3-1.given.1.0.fits
