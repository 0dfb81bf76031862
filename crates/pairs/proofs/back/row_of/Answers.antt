-- `pairs::row_of` meets its contract: what is left of the search gives what the whole gives.
use mathlib.Core.Path.{◌≡◌, refl, sym, ◌∙◌}
use native.Mathlib.Omega.{arith}
use Rattle.pairs.proofs.laws.TableLaws.{row_here, row_next, row_last}
use Rattle.pairs.proofs.back.row_of.Goals as goal

pub loop-i-init : goal.loop-i-init
loop-i-init c = (omega arith, refl)

pub overflow_add-i : goal.overflow_add-i
overflow_add-i c = omega arith

pub offset_bounds-i : goal.offset_bounds-i
offset_bounds-i c = omega arith

pub bounds-i : goal.bounds-i
bounds-i c = omega arith

pub returns-then-pair-i : goal.returns-then-pair-i
returns-then-pair-i c =
    let l = c.loop-i in
    sym (row_here l.i c.args.pair c.loop-i-test.true c.if-pair-i.true)
    ∙ l.invariant.1

pub loop-i-preserved : goal.loop-i-preserved
loop-i-preserved c =
    let l = c.loop-i in (
      omega arith,
      sym (row_next l.i c.args.pair c.loop-i-test.true c.if-pair-i.false)
          ∙ l.invariant.1,
    )

pub returns : goal.returns
returns c =
    let l = c.loop-i in
    let e : l.i ≡ 9 = omega arith in
    sym e ∙ sym (row_last l.i c.args.pair (omega arith)) ∙ l.invariant.1
