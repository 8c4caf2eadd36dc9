use Rattle.std.proofs.Common.{arith, ◌≡◌, ◌∙◌, ◌-◌, sym, ap, refl}
use Rattle.words.specs.Layout.{entry_at}
use Rattle.words.proofs.Walks.{walk-more, walk-done}
use Rattle.timers.specs.Record.{each_in}
use Rattle.timers.specs.Release.{marked}
use Rattle.timers.proofs.WalkLaws.{marked-goes, marked-stays}
use Rattle.timers.proofs.release.mark.Goals as goal
use Rattle.timers.proofs.release.mark.Goals.{then-goes, else-goes}

pub loop-i-init : goal.loop-i-init
loop-i-init g c = λ test t. let e : c.args.n - 0 ≡ c.args.n = omega arith in cc

pub loop-i-preserved : goal.loop-i-preserved
unfolding each_in
loop-i-preserved g c = λ test t.
    let told : c.goes.result ≡ test c.loop-i.w (entry_at c.args.base c.loop-i.i) = t _ _ _ c.goes.ensures ∙ ap (test c.loop-i.w) c.entry_at-at.ensures in
    let more = walk-more (λ i v. marked test c.args.word v (entry_at c.args.base i)) (λ m i v. each_in m (marked test c.args.word) v c.args.base i)
    (λ m i v. refl) c.args.n c.loop-i.i c.loop-i.w c.loop-i-test.true in
    let so_far = c.loop-i.invariant test t in
    elim c.if-goes.branch [
      | then-goes w ↦ let next = marked-goes test c.args.word c.loop-i.w (entry_at c.args.base c.loop-i.i) (sym told ∙ w.if-goes.true) in cc
      | else-goes w ↦ let next = marked-stays test c.args.word c.loop-i.w (entry_at c.args.base c.loop-i.i) (sym told ∙ w.if-goes.false) in cc
    ]

pub returns : goal.returns
unfolding each_in
returns g c = λ test t.
    sym (walk-done (λ m i v. each_in m (marked test c.args.word) v c.args.base i) (λ i v. refl) c.args.n c.loop-i.i c.loop-i.w c.loop-i-test.false)
    ∙ c.loop-i.invariant test t
