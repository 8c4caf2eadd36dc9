use mathlib.Core.Path.{◌≡◌, ap}
use Rattle.answers.proofs.Converted.{told-is}
use Rattle.answers.specs.declared.Answer.TheVariants.{Done}
use Rattle.answers.specs.Errors.{done}
use Rattle.answers.specs.Outcome.{Outcome}
use Rattle.runner.proofs.CommandLaws.{opens}
use Rattle.runner.proofs.session.begin.Goals as goal

pub returns : goal.returns
returns c = record {
  value = let told : c.into.result ≡ done c.open-opened.result = told-is (λ x. Done) c.open-opened.result c.into.result c.into.ensures (λ x b e. e) in
      simp (← (ap (λ (o : Outcome). o.answer) c.open-opened.ensures), opens c.open-opened.result) (cc (told, c.is_ok.ensures.value));
  w_after = ap (λ (o : Outcome). o.words) c.open-opened.ensures;
}
