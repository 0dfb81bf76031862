-- `promoting::pawn_in` meets its contract.
use Rattle.move_list.proofs.laws.PawnIn.{pawn-absent, pawn-present}
use Rattle.move_list.proofs.promoting.pawn_in.Goals as goal

pub returns-in-None : goal.returns-in-None
returns-in-None c = pawn-absent _ _ c.in-None.is

pub returns-in-Some : goal.returns-in-Some
returns-in-Some c = pawn-present _ _ _ c.in-Some.is
