-- `movegen::movers_of` meets its contract.
use mathlib.Core.Path.{◌∙◌}
use Rattle.position_moves.proofs.laws.OneThere.{placed-board, first-held, second-held}
use Rattle.position_moves.proofs.laws.InPosition.{sight-of, king-in, check-found}
use Rattle.position_moves.proofs.in_position.movers_of.Goals as goal

pub returns : goal.returns
returns c =
    let p = c.args.p in
    λ z.
    let w = placed-board p z in
    let v = sight-of p w _ _ c.occupied-occ.ensures c.own-mine.ensures _ _ _ _ c.king_square-king.ensures
    c.without.ensures c.other-foe.ensures c.men_set-strike.ensures in
    record {
      own = c.own-mine.ensures;
      king = king-in p w _ _ c.occupied-occ.ensures c.own-mine.ensures _ _ _ _ c.king_square-king.ensures
          c.without.ensures c.other-foe.ensures c.men_set-strike.ensures _ _ _ _ _ c.king_square-rival.ensures
          c.targets.ensures c.minus-steps.ensures c.targets-2.ensures
          c.minus.ensures;
      first = c.man_targets.ensures _ v (first-held p) c.slot_goes-one.ensures;
      second = c.man_targets-2.ensures _ v (second-held p) c.slot_goes-two.ensures;
      check = c.has.ensures ∙ check-found p w _ _ _ _ _ c.occupied-occ.ensures c.other-foe.ensures
          c.king_square-rival.ensures c.slot_goes-one.ensures c.slot_goes-two.ensures;
    }
