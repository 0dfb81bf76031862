-- `row_sets::last_kind` meets its contract.
use borrow.Author.Tests.{le-leb, lt-leb}
use Rattle.deciding.proofs.row_sets.last_kind.Goals as goal

pub returns-then-m-ge4 : goal.returns-then-m-ge4
returns-then-m-ge4 c = simp (le-leb _ _ c.if-m-ge4.true)

pub returns-else-m-ge4 : goal.returns-else-m-ge4
returns-else-m-ge4 c = simp (lt-leb _ _ c.if-m-ge4.false)
