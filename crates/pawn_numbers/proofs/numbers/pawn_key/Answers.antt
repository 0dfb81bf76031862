-- `pawn_numbers::pawn_key` meets its contract.
use Rattle.pawn_numbers.specs.PawnNumber.{pawn_key}
use Rattle.pawn_numbers.proofs.numbers.pawn_key.Goals as goal

pub returns : goal.returns
unfolding pawn_key
returns c = rw c.slot_of-slot.ensures.0
