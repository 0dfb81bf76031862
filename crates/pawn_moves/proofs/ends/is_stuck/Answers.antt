-- `ends::is_stuck` meets its contract.
use Rattle.pawn_moves.proofs.laws.SeatLaws.{stuck-by}
use Rattle.pawn_moves.proofs.ends.is_stuck.Goals as goal

pub returns : goal.returns
returns c = stuck-by c.args.q _ _ c.lone.ensures c.count_of.ensures
