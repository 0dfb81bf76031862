-- `move_list::placed_count` meets its contract.
use native.Mathlib.Omega.{arith}
use Rattle.move_list.proofs.laws.Served.{few-moves}
use Rattle.move_list.proofs.laws.CountLaws.{counted}
use Rattle.move_list.proofs.counting.placed_count.Goals as goal

pub man_count-requires : goal.man_count-requires
man_count-requires c =
    let x = c.args in
    omega (arith, counted x.p c.requires.0 x.all c.requires.1, few-moves x.p)

pub overflow_add-result : goal.overflow_add-result
overflow_add-result c =
    let x = c.args in
    omega (arith, c.size.ensures, c.man_count.ensures, counted x.p c.requires.0 x.all c.requires.1, few-moves x.p)

pub man_count-requires-2 : goal.man_count-requires-2
man_count-requires-2 c =
    let x = c.args in
    omega (arith, counted x.p c.requires.0 x.all c.requires.1, few-moves x.p)

pub overflow_add-result-2 : goal.overflow_add-result-2
overflow_add-result-2 c =
    let x = c.args in
    omega (
      arith,
      c.size.ensures,
      c.man_count.ensures,
      c.man_count-2.ensures,
      counted x.p c.requires.0 x.all c.requires.1,
      few-moves x.p,
    )

pub overflow_cast-result : goal.overflow_cast-result
overflow_cast-result c =
    let x = c.args in
    omega (
      arith,
      c.size.ensures,
      c.man_count.ensures,
      c.man_count-2.ensures,
      counted x.p c.requires.0 x.all c.requires.1,
      few-moves x.p,
    )

pub returns : goal.returns
returns c =
    let x = c.args in
    omega (
      arith,
      c.size.ensures,
      c.man_count.ensures,
      c.man_count-2.ensures,
      counted x.p c.requires.0 x.all c.requires.1,
    )
