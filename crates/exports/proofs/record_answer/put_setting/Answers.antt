use Rattle.exports.specs.RecordAnswer.{setting_in}
use Rattle.exports.proofs.record_answer.put_setting.Goals as goal

pub returns : goal.returns
unfolding setting_in
returns c = cc
