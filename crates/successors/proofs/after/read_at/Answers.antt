-- `successors::read_at` meets its contract.
use Rattle.successors.proofs.laws.ByteLaws.{read-beyond}
use Rattle.successors.proofs.after.read_at.Goals as goal

pub returns-then-table-n : goal.returns-then-table-n
returns-then-table-n c = read-beyond c.args.table.now _ c.if-table-n.true
