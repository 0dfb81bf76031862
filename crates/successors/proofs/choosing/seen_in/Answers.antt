-- `successors::seen_in` meets its contract.
use Rattle.successors.proofs.laws.ChoiceLaws.{seen-is}
use Rattle.successors.proofs.choosing.seen_in.Goals as goal

pub returns : goal.returns
returns c =
    seen-is _ _ _ _ _ _ _ _ _ _ c.king_at.ensures c.seen_from-a.ensures
    c.seen_from-b.ensures c.seen_from-c.ensures c.earlier.ensures c.earlier-2.ensures
