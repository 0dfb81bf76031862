-- `lists::moves_of` meets its contract: the list, with the moves of the rest behind it, is the list of all moves.
use Rattle.board.proofs.laws.LowestLaws.{lowest-first}
use Rattle.position.specs.Keyed.{board_of}
use Rattle.move_list.proofs.laws.Served.{few-moves}
use Rattle.move_list.proofs.laws.ListLaws.{rest-start, rest-done}
use Rattle.move_list.proofs.laws.TurnLaws.{by-movers, movers-end, turn-room, turn-rest}
use Rattle.move_list.proofs.lists.moves_of.Goals as goal

pub loop-from-init : goal.loop-from-init
unfolding board_of
loop-from-init c =
    let p = c.args.p in
    rw (c.into_iter-from-iterator.ensures.into_iter_gives, c.squares_of-from-items.ensures)
    (rest-start _ _ _ c.no_moves-list.ensures (by-movers (board_of p) c.own.result c.own.ensures) (few-moves p))

pub push_targets-requires : goal.push_targets-requires
push_targets-requires c =
    turn-room _ _ _ _ _ (lowest-first _ _ _ c.in-Some.ensures.steps) c.legal_targets.ensures _ _
    c.taking_set-foes.ensures c.promoting_set.ensures _ _ _ c.loop-from.invariant

pub loop-from-preserved : goal.loop-from-preserved
loop-from-preserved c =
    turn-rest _ _ _ _ _ (lowest-first _ _ _ c.in-Some.ensures.steps) c.legal_targets.ensures _ _
    c.taking_set-foes.ensures c.promoting_set.ensures _ _ _ c.loop-from.invariant _ c.push_targets.ensures

pub returns : goal.returns
returns c = rest-done _ _ _ c.loop-from.invariant (movers-end _ _ c.in-None.ensures.steps.0) (few-moves _)
