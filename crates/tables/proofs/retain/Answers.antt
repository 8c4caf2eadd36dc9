use Rattle.std.proofs.Common.{arith, ◌≡◌, ◌∙◌, ◌-◌, sym, ap, refl}
use borrow.Author.Tests.{lt-ltb}
use Rattle.words.specs.Layout.{entry_at}
use Rattle.tables.specs.Compact.{retained, retained_to}
use Rattle.tables.proofs.CompactLaws.{retained-none, retained-all, retained-goes, retained-stays}
use Rattle.tables.proofs.retain.Goals as goal
use Rattle.tables.proofs.retain.Goals.{then-not-goes, else-not-goes}

pub returns-then-n-gt-MOST : goal.returns-then-n-gt-MOST
unfolding retained retained_to
returns-then-n-gt-MOST g c = λ test t. (simp (lt-ltb _ _ c.if-n-gt-MOST.true), simp (lt-ltb _ _ c.if-n-gt-MOST.true))

pub loop-i-init : goal.loop-i-init
loop-i-init g c = record {
  few = omega arith;
  same = refl;
  so_far = λ test t. retained-all test c.args.w.now c.args.base c.args.n c.if-n-gt-MOST.false;
}

pub loop-i-preserved : goal.loop-i-preserved
loop-i-preserved g c = record {
  few = elim c.if-not-goes.branch [ then-not-goes w ↦ omega (arith, c.loop-i.invariant.few, w.j-is) | else-not-goes w ↦ omega (arith, c.loop-i.invariant.few, w.j-is) ];
  same = c.if-not-goes.auto.w ∙ c.loop-i.invariant.same;
  so_far = λ test t.
      let told : c.goes.result ≡ test c.loop-i.w (entry_at c.args.base c.loop-i.i) = t _ _ _ c.goes.ensures ∙ ap (test c.loop-i.w) c.entry_at.ensures in
      let so_far = c.loop-i.invariant.so_far test t in
      elim c.if-not-goes.branch [
        | then-not-goes w ↦
            let next = retained-stays test c.args.n c.loop-i.i c.loop-i.w c.if-not-goes.w c.args.base c.loop-i.j c.if-not-goes.j c.loop-i-test.true (sym told ∙ w.if-not-goes.true) (w.w-is ∙ w.move_down.ensures) w.j-is in
            (next.0 ∙ so_far.0, next.1 ∙ so_far.1)
        | else-not-goes w ↦
            let next = retained-goes test c.args.n c.loop-i.i c.loop-i.w c.if-not-goes.w c.args.base c.loop-i.j c.if-not-goes.j c.loop-i-test.true (sym told ∙ w.if-not-goes.false) w.w-is w.j-is in
            (next.0 ∙ so_far.0, next.1 ∙ so_far.1)
      ];
}

pub returns : goal.returns
returns g c = λ test t.
    let ends = retained-none test (c.args.n - c.loop-i.i) c.loop-i.w c.args.base c.loop-i.i c.loop-i.j (omega arith) in
    let so_far = c.loop-i.invariant.so_far test t in
    (sym ends.0 ∙ so_far.0, sym ends.1 ∙ so_far.1)
