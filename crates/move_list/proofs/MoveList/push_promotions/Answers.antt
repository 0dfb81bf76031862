-- `MoveList::push_promotions` meets its contract.
use Rattle.std.proofs.Common.{arith}
use Rattle.rules.specs.Rules.{promotion_of}
use Rattle.move_list.proofs.laws.ListLaws.{appended-count, appended-four}
use Rattle.move_list.proofs.MoveList.push_promotions.Goals as goal

pub push-requires : goal.push-requires
push-requires c = omega arith

pub push-requires-2 : goal.push-requires-2
push-requires-2 c = omega (arith, appended-count _ _ _ c.push.ensures)

pub push-requires-3 : goal.push-requires-3
push-requires-3 c = omega (arith, appended-count _ _ _ c.push.ensures, appended-count _ _ _ c.push-2.ensures)

pub push-requires-4 : goal.push-requires-4
push-requires-4 c =
    omega (
      arith,
      appended-count _ _ _ c.push.ensures,
      appended-count _ _ _ c.push-2.ensures,
      appended-count _ _ _ c.push-3.ensures,
    )

pub returns : goal.returns
returns c =
    let a = c.args in
    appended-four (promotion_of a.from a.to a.takes) _ _ _ _ _ _ _ _ _
    c.promotion_of.ensures c.push.ensures
    c.promotion_of-2.ensures c.push-2.ensures
    c.promotion_of-3.ensures c.push-3.ensures
    c.promotion_of-4.ensures c.push-4.ensures
