-- `movegen::king_targets` meets its contract.
use Rattle.position.specs.Keyed.{board_of}
use Rattle.position.specs.Posed.{posed}
use Rattle.position.proofs.laws.PosedLaws.{complete-spread}
use Rattle.movegen.proofs.laws.Reach.{view_of}
use Rattle.movegen.proofs.reaching.king_targets.Goals as goal

pub returns : goal.returns
unfolding board_of posed
returns c =
    λ d.
    let w = complete-spread d in
    c.king_reach.ensures _ _
    (view_of w (c.occupied_at-occ.ensures _) (c.own_at-own.ensures w.side) _ _ _
    c.king_set.ensures c.minus.ensures c.other.ensures c.strike_set-strike.ensures)
