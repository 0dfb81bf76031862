-- `filling::pass_over` meets its contract. The loop's invariant: the pass is done below n, in place, how many numbers it
-- settled there is kept, and so is the place at the row's first number.
use native.Mathlib.Omega.{arith}
use Rattle.working_back.proofs.laws.Admitted.{most, sized, in_size, admitted-kept}
use Rattle.filling.proofs.laws.Laws.{settled-low, settle-one, pass-turn, pass-done}
use Rattle.filling.proofs.laws.Outside.{begins, ends}
use Rattle.deciding.proofs.laws.Rows.{row_next}
use Rattle.filling.proofs.pass.pass_over.Goals as goal

pub overflow_mul-from : goal.overflow_mul-from
overflow_mul-from c =
    let p = c.requires in
    omega (arith, p.2.within.0, p.2.within.1, most _ _ _ _ p.1)

pub overflow_cast-from : goal.overflow_cast-from
overflow_cast-from c =
    let p = c.requires in
    omega (arith, p.2.within.0, p.2.within.1, most _ _ _ _ p.1)

pub loop-n-init : goal.loop-n-init
loop-n-init c =
    let p = c.requires in
    let b = begins _ _ _ _ _ p.2 in (
      b.0,
      b.1,
      λ w h z. c.place_at-row.ensures w p.1.colour (in_size _ _ _ _ p.1 _ (omega (arith, h, p.2.within.1))),
    )

pub overflow_cast-n : goal.overflow_cast-n
overflow_cast-n c =
    let p = c.requires in
    omega (arith, c.loop-n-test.true, p.2.within.1, most _ _ _ _ p.1)

pub settle-settled-requires : goal.settle-settled-requires
settle-settled-requires c =
    let i = c.loop-n.invariant in
    let h = c.loop-n-test.true in
    let p = c.requires in (
      omega (arith, h, i.0.same_length, p.2.within.1),
      p.0,
      admitted-kept _ _ _ _ p.1 _ i.0.same_length,
      λ w. (let p = c.requires in let h = c.loop-n-test.true in c.row_at-row.ensures w p.1.colour (in_size _ _ _ _ p.1 _ (omega (arith, h, p.2.within.1))) (λ z. c.loop-n.invariant.2 w h z)),
    )

pub overflow_add-settled : goal.overflow_add-settled
overflow_add-settled c =
    let i = c.loop-n.invariant in
    let h = c.loop-n-test.true in
    let p = c.requires in
    let count = settled-low _ _ _ _ _ _ i.1 in
    let one = settle-one _ _ _ _ _ _ _ c.settle-settled.ensures in
    omega (arith, h, count, one, p.2.within.1, most _ _ _ _ p.1)

pub loop-n-preserved : goal.loop-n-preserved
loop-n-preserved c =
    let i = c.loop-n.invariant in
    let h = c.loop-n-test.true in
    let p = c.requires in
    let turn = pass-turn _ _ _ _ _ _ _ _ _ i.0 (omega (arith, h, p.2.within.1)) c.settle-settled.ensures i.1 in
    (turn.0, turn.1, λ w g z. row_next _ _ _ (let p = c.requires in let h = c.loop-n-test.true in c.row_at-row.ensures w p.1.colour (in_size _ _ _ _ p.1 _ (omega (arith, h, p.2.within.1))) (λ z. c.loop-n.invariant.2 w h z)) z)

pub shape_of-table : goal.shape_of-table
shape_of-table c = c.loop-n.invariant.0.same_length

pub returns : goal.returns
returns c =
    let i = c.loop-n.invariant in
    let p = c.requires in
    let e = ends _ _ _ _ _ p.2 _ _ _ (omega arith) c.loop-n-test.false i.0 i.1 in
    let s = sized _ _ _ _ p.1 in
    pass-done _ _ _ _ _ _ _ s s e.0 e.1
