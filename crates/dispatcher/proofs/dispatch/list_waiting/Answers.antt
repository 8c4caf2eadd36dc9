use Rattle.std.proofs.Common.{arith, rules, ◌≡◌, ◌∙◌, ◌+◌, ◌-◌, sym}
use Rattle.threads.specs.Thread.{thread_count}
use Rattle.threads.proofs.ThreadLaws.{count_small}
use Rattle.dispatcher.specs.Dispatch.{listed, listed_to}
use Rattle.dispatcher.proofs.DispatchLaws.{listed-none, listed_more, listed-to-none, listed-to-more, noted-most}
use Rattle.dispatcher.proofs.dispatch.list_waiting.Goals as goal

pub loop-i-init : goal.loop-i-init
unfolding listed listed_to
loop-i-init c = let e : thread_count c.args.w.now - 0 ≡ thread_count c.args.w.now = omega arith in (omega arith, search rules, cc, cc)

pub note-k-requires : goal.note-k-requires
note-k-requires c = omega (arith, count_small c.args.w.now, c.count-i-end.ensures, c.loop-i.auto.i-end, c.loop-i.invariant.0)

pub loop-i-preserved : goal.loop-i-preserved
loop-i-preserved c =
    let e : thread_count c.args.w.now - (c.loop-i.i + 1) ≡ thread_count c.args.w.now - c.loop-i.i - 1 = omega arith in (
      omega (arith, noted-most c.args.w.now (c.loop-i.i + 1) c.loop-i.k, c.note-k.ensures.0, c.loop-i.invariant.0),
      search rules,
      cc (listed-to-more (thread_count c.args.w.now - c.loop-i.i) c.args.w.now (c.loop-i.i + 1) c.loop-i.k (omega (arith, c.count-i-end.ensures, c.loop-i-test.true))),
      cc (listed_more (thread_count c.args.w.now - c.loop-i.i) c.args.w.now c.loop-i.out (c.loop-i.i + 1) c.loop-i.k (omega (arith, c.count-i-end.ensures, c.loop-i-test.true))),
    )

pub returns : goal.returns
returns c = (
  sym (listed-to-none _ _ _ _ (omega (arith, c.count-i-end.ensures, c.loop-i-test.false))) ∙ c.loop-i.invariant.2,
  sym (listed-none _ _ _ _ _ (omega (arith, c.count-i-end.ensures, c.loop-i-test.false))) ∙ c.loop-i.invariant.3,
)
