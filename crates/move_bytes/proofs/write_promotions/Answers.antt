-- `move_bytes::write_promotions` meets its contract.
use Rattle.move_bytes.proofs.laws.StoreLaws.{four-moves}
use Rattle.move_bytes.proofs.write_promotions.Goals as goal

pub returns : goal.returns
returns c =
    four-moves _ _ _ _ _ _ _ _ _ _ c.write_move.ensures c.write_move-2.ensures c.write_move-3.ensures
    c.write_move-4.ensures
