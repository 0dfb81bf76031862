-- `pawn::pawn_over` meets its contract: a move is left, or the byte is that of the end, or not.
use Rattle.deciding.proofs.laws.PawnVerdicts.{end_more, end-right, end-wrong}
use Rattle.deciding.proofs.pawn.pawn_over.Goals as goal

pub returns-then-not-is_stuck : goal.returns-then-not-is_stuck
returns-then-not-is_stuck c = end_more _ _ _ c.is_stuck.ensures c.if-not-is_stuck.true

pub returns-then-byte-end_byte : goal.returns-then-byte-end_byte
returns-then-byte-end_byte c =
    end-right _ _ _ _ c.is_stuck.ensures c.if-not-is_stuck.false c.end_byte.ensures c.if-byte-end_byte.true

pub returns : goal.returns
returns c =
    end-wrong _ _ _ _ c.is_stuck.ensures c.if-not-is_stuck.false c.end_byte.ensures c.if-byte-end_byte.false
