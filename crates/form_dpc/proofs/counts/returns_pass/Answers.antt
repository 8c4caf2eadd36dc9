use Rattle.form_dpc.proofs.counts.returns_pass.Goals as goal

pub returns : goal.returns
returns c = cc
