-- `promoting::promoting_set` meets its contract.
use Rattle.move_list.proofs.laws.PawnIn.{set-pawn, set-none}
use Rattle.move_list.proofs.promoting.promoting_set.Goals as goal

pub returns-then-pawn_in : goal.returns-then-pawn_in
returns-then-pawn_in c = set-pawn _ _ _ _ c.pawn_in.ensures c.pawn_in-2.ensures c.if-pawn_in.true

pub returns : goal.returns
returns c = set-none _ _ _ _ c.pawn_in.ensures c.pawn_in-2.ensures c.if-pawn_in.false
