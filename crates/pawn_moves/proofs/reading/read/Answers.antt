-- `reading::read` meets its contract.
use Rattle.pawn_moves.proofs.laws.AfterLaws.{read-beyond}
use Rattle.pawn_moves.proofs.reading.read.Goals as goal

pub returns-then-table-n : goal.returns-then-table-n
returns-then-table-n c = read-beyond c.args.table.now _ c.if-table-n.true
