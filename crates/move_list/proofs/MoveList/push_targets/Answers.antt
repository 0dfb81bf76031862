-- `MoveList::push_targets` meets its contract: what is stored, with the rest stored behind it, is what is to be stored.
use Rattle.board.proofs.laws.LowestLaws.{lowest-first}
use Rattle.move_list.proofs.laws.ListLaws.{rest_all, rest_end}
use Rattle.move_list.proofs.laws.TargetLaws.{targets-end, promotes-room, promotes-next, plain-room, plain-next}
use Rattle.move_list.proofs.MoveList.push_targets.Goals as goal

pub loop-to-init : goal.loop-to-init
loop-to-init c = rw (c.into_iter-to-iterator.ensures.into_iter_gives, c.squares_of-to-items.ensures) (rest_all _ _ c.requires)

pub push_promotions-requires : goal.push_promotions-requires
push_promotions-requires c =
    promotes-room _ _ _ _ _ _ (lowest-first _ _ _ c.in-Some.ensures.steps) _ _ _ c.loop-to.invariant _ _ c.has-takes.ensures
    c.has.ensures c.if-has.true

pub loop-to-preserved-then-has : goal.loop-to-preserved-then-has
loop-to-preserved-then-has c =
    promotes-next _ _ _ _ _ _ (lowest-first _ _ _ c.in-Some.ensures.steps) _ _ _ c.loop-to.invariant _ _ c.has-takes.ensures
    c.has.ensures c.if-has.true _ c.push_promotions.ensures

pub push-requires : goal.push-requires
push-requires c =
    plain-room _ _ _ _ _ _ (lowest-first _ _ _ c.in-Some.ensures.steps) _ _ _ c.loop-to.invariant _ _ c.has-takes.ensures
    c.has.ensures c.if-has.false

pub loop-to-preserved : goal.loop-to-preserved
loop-to-preserved c =
    plain-next _ _ _ _ _ _ (lowest-first _ _ _ c.in-Some.ensures.steps) _ _ _ c.loop-to.invariant _ _ c.has-takes.ensures
    c.has.ensures c.if-has.false _ _ c.move_of.ensures c.push.ensures

pub returns : goal.returns
returns c = rest_end _ _ _ _ c.loop-to.invariant (targets-end _ _ _ _ c.in-None.ensures.steps.0)
