use lib.ListN.{length, length-set}
use mathlib.Core.Path.{◌≡◌, refl, sym, ◌∙◌}
use native.Mathlib.Omega.{arith}
use Prim.Native.Nat.{◌<◌, ◌≤◌}
use Rattle.script_lex.specs.Left.{left}
use Rattle.script.proofs.WaitLaws.{pairs_end, pairs-full, pairs-stop, pairs-more}
use borrow.Author.Rules.{rules}
use Rattle.script.proofs.wait.read_pairs.Goals as goal

pub loop-i-init : goal.loop-i-init
loop-i-init c = (refl, refl)

pub returns-then-is_end : goal.returns-then-is_end
returns-then-is_end c = sym (pairs_end (left c.loop-i.rest) c.loop-i.i c.loop-i.list (sym c.is_end.ensures ∙ c.if-is_end.true)) ∙ c.loop-i.invariant.1

pub returns-in_err-list : goal.returns-in_err-list
returns-in_err-list c = let h : c.loop-i.i < length c.loop-i.list = omega arith in
    simp c.from_residual.ensures (sym (pairs-stop (left c.loop-i.rest) c.loop-i.i c.loop-i.list (sym c.is_end.ensures ∙ c.if-is_end.false) h (sym c.item.ensures ∙ c.in_err-list.was)) ∙ c.loop-i.invariant.1)

pub loop-i-preserved : goal.loop-i-preserved
loop-i-preserved c = let h : c.loop-i.i < length c.loop-i.list = omega arith in
    let e = pairs-more (left c.loop-i.rest) c.loop-i.i c.loop-i.list _ (sym c.is_end.ensures ∙ c.if-is_end.false) h (sym c.item.ensures ∙ c.in_ok-list.was) in
    (simp length-set (search rules), cc (e, c.rest-rest.ensures.words, c.loop-i.invariant.1))

pub returns-then-is_end-2 : goal.returns-then-is_end-2
returns-then-is_end-2 c = let e : length c.loop-i.list ≡ c.loop-i.i = omega arith in
    rw e (sym (pairs_end (left c.loop-i.rest) c.loop-i.i c.loop-i.list (sym c.is_end-2.ensures ∙ c.if-is_end-2.true)) ∙ c.loop-i.invariant.1)

pub returns : goal.returns
returns c = let h : length c.loop-i.list ≤ c.loop-i.i = omega arith in
    sym (pairs-full (left c.loop-i.rest) c.loop-i.i c.loop-i.list (sym c.is_end-2.ensures ∙ c.if-is_end-2.false) h) ∙ c.loop-i.invariant.1
