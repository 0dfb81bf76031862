-- `movegen::king_reach` meets its contract.
use Rattle.position.specs.Keyed.{board_of}
use Rattle.position.specs.Posed.{posed}
use Rattle.movegen.proofs.laws.Reach.{king-view}
use Rattle.movegen.proofs.reaching.king_reach.Goals as goal

pub returns : goal.returns
unfolding board_of posed
returns c =
    λ m occ v. king-view v _ _ _ _ _ _ _ c.king_at.ensures c.other.ensures
    c.king_at-2.ensures c.targets.ensures
    c.minus-free.ensures c.targets-2.ensures c.minus.ensures
