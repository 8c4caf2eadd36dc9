use mathlib.Core.Path.{◌≡◌, refl, sym, ap, ◌∙◌}
use mathlib.Core.Bool.{true}
use native.Mathlib.Omega.{arith}
use borrow.Author.Rules.{rules}
use Rattle.std.specs.Prelude.{Some}
use Rattle.script_lex.specs.Words.{first}
use Rattle.script_lex.specs.Left.{left}
use Rattle.reasons.specs.Reasons.{is_fine, word_reason, kind_at}
use Rattle.reasons.proofs.TableLaws.{fewer}
use Rattle.reasons.proofs.ReasonLaws.{few_words, one_fewer, reason-end, reason-stop, reason-more, no_reason}
use Rattle.reasons.proofs.arguments.reason_from.Goals as goal

pub loop-here-init : goal.loop-here-init
loop-here-init c = (refl, search rules, refl)

pub returns-in-Some : goal.returns-in-Some
unfolding is_fine
returns-in-Some c = let n = sym c.is_end.ensures ∙ c.loop-here-test.true in
    let w : word_reason (kind_at c.args.form.now c.loop-here.i) c.loop-here.place (first (left c.loop-here.here)) ≡ Some c.in-Some.reason = cc (c.word_reason.ensures, c.kind_at-kind.ensures, c.in-Some.is) in
    cc (reason-stop c.args.form.now c.loop-here.i c.loop-here.place (left c.loop-here.here) n (ap is_fine w), w, c.loop-here.invariant.2)

pub next-i-requires : goal.next-i-requires
next-i-requires c = omega (arith, few_words c.args.words.line.now c.args.words.at c.requires.0, c.loop-here.invariant.0, c.loop-here.invariant.1, c.requires.1)

pub overflow_add-place : goal.overflow_add-place
overflow_add-place c = omega (arith, few_words c.args.words.line.now c.args.words.at c.requires.0, c.loop-here.invariant.0, c.requires.1)

pub loop-here-smaller : goal.loop-here-smaller
loop-here-smaller c = simp c.rest-here.ensures.words (fewer _ (sym c.is_end.ensures ∙ c.loop-here-test.true))

pub loop-here-preserved : goal.loop-here-preserved
loop-here-preserved c = let n = sym c.is_end.ensures ∙ c.loop-here-test.true in
    let f : is_fine (word_reason (kind_at c.args.form.now c.loop-here.i) c.loop-here.place (first (left c.loop-here.here))) ≡ true = cc (no_reason c.word_reason.result c.in_default.not-Some, c.word_reason.ensures, c.kind_at-kind.ensures) in
    (simp c.rest-here.ensures.words (omega (arith, one_fewer _ n, c.loop-here.invariant.0)), omega (arith, c.next-i.ensures.upper_bound, c.loop-here.invariant.1), cc (reason-more c.args.form.now c.loop-here.i c.loop-here.place (left c.loop-here.here) n f, c.rest-here.ensures.words, c.next-i.ensures.value, c.kind_at-kind.ensures, c.loop-here.invariant.2))

pub returns : goal.returns
returns c = cc (reason-end c.args.form.now c.loop-here.i c.loop-here.place (left c.loop-here.here) (sym c.is_end.ensures ∙ c.loop-here-test.false), c.end_reason.ensures, c.kind_at.ensures, c.loop-here.invariant.2)
