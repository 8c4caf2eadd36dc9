use native.Mathlib.Omega.{arith}
use Prim.Native.Nat.{◌+◌, ◌-◌}
use mathlib.Core.Path.{◌≡◌, ◌∙◌, sym}
use Rattle.words.specs.Layout.{entry_at}
use Rattle.dpc_table.specs.Table.{number_to, numbered}
use Rattle.dpcs.specs.Record.{dpc_count}
use Rattle.dpcs.proofs.RecordLaws.{count_most}
use Rattle.dpc_table.proofs.TableLaws.{number-most, numbered-none, numbered_more}
use borrow.Author.Rules.{rules}
use Rattle.dpc_table.proofs.number.Goals as goal

pub loop-i-init : goal.loop-i-init
unfolding numbered
loop-i-init c = let z : dpc_count c.args.w.now - 0 ≡ dpc_count c.args.w.now = omega arith in (search rules, search rules, rw z (cc))

pub number_one-last-requires : goal.number_one-last-requires
number_one-last-requires c = omega (arith, c.loop-i.invariant.0, c.loop-i-test.true, count_most c.args.w.now, c.count-i-end.ensures)

pub loop-i-preserved : goal.loop-i-preserved
loop-i-preserved c =
    let e : c.number_one-last.result ≡ number_to c.loop-i.w (entry_at c.dpcs_base-base.result c.loop-i.i) c.loop-i.last = cc in
    let l : dpc_count c.args.w.now - (c.loop-i.i + 1) ≡ dpc_count c.args.w.now - c.loop-i.i - 1 = omega arith in (
      omega (arith, number-most c.loop-i.w (entry_at c.dpcs_base-base.result c.loop-i.i) c.loop-i.last, e, c.loop-i.invariant.0),
      search rules,
      rw l (cc (numbered_more (dpc_count c.args.w.now - c.loop-i.i) c.loop-i.w c.dpcs_base-base.result c.loop-i.i c.loop-i.last (omega (arith, c.count-i-end.ensures, c.loop-i-test.true)))),
    )

pub returns : goal.returns
returns c = sym (numbered-none _ _ _ _ _ (omega (arith, c.count-i-end.ensures, c.loop-i-test.false))) ∙ c.loop-i.invariant.2
