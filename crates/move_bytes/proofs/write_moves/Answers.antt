-- `move_bytes::write_moves` meets its contract: what is stored, with the moves of the rest behind it, is the moves of all.
use Rattle.std.proofs.Common.{arith, sym, ◌∙◌}
use Rattle.board.proofs.laws.LowestLaws.{lowest-first}
use Rattle.position.specs.Keyed.{board_of}
use Rattle.move_list.proofs.laws.Served.{few-moves}
use Rattle.move_list.proofs.laws.TurnLaws.{by-movers, movers-end}
use Rattle.move_bytes.proofs.laws.StoreLaws.{left-all, left_end, mover-room, mover-next}
use Rattle.move_bytes.proofs.write_moves.Goals as goal

pub loop-from-init : goal.loop-from-init
unfolding board_of
loop-from-init c =
    let x = c.args in
    rw (c.into_iter-from-iterator.ensures.into_iter_gives, c.squares_of-from-items.ensures)
    (left-all _ _ _ _ c.requires.0 (omega (arith, few-moves x.p)) (by-movers (board_of x.p) x.all.own c.requires.1.own))

pub write_targets-count-requires : goal.write_targets-count-requires
write_targets-count-requires c = (
  c.loop-from.invariant.long,
  mover-room _ _ _ _ _ (lowest-first _ _ _ c.in-Some.ensures.steps) (c.targets_from-targets.ensures c.requires.1) _ _
      c.taking_set-foes.ensures c.promoting_set-ends.ensures c.loop-from.invariant,
)

pub loop-from-preserved : goal.loop-from-preserved
loop-from-preserved c =
    mover-next _ _ _ _ _ (lowest-first _ _ _ c.in-Some.ensures.steps) (c.targets_from-targets.ensures c.requires.1) _ _
    c.taking_set-foes.ensures c.promoting_set-ends.ensures c.loop-from.invariant _ _ c.write_targets-count.ensures

pub shape_of-bytes : goal.shape_of-bytes
shape_of-bytes c = c.loop-from.invariant.long ∙ sym c.requires.0

pub returns : goal.returns
returns c = left_end c.loop-from.invariant (movers-end _ _ c.in-None.ensures.steps.0)
