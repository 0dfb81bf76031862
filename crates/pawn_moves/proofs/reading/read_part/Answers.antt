-- `reading::read_part` meets its contract: beyond the part it is 0, and within by its place in the run.
use Rattle.pawn_moves.proofs.laws.AfterLaws.{part-beyond, part_at}
use Rattle.pawn_moves.proofs.reading.read_part.Goals as goal

pub returns-then-at-ge-TABLE_SIZE : goal.returns-then-at-ge-TABLE_SIZE
returns-then-at-ge-TABLE_SIZE c = part-beyond _ _ _ c.if-at-ge-TABLE_SIZE.true

pub returns : goal.returns
returns c = part_at _ _ _ _ c.if-at-ge-TABLE_SIZE.false c.read.ensures
