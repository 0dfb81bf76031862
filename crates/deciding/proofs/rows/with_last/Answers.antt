-- `rows::with_last` meets its contract.
use borrow.Author.Tests.{le-leb, lt-leb}
use Rattle.deciding.proofs.rows.with_last.Goals as goal

pub returns-then-m-ge4 : goal.returns-then-m-ge4
returns-then-m-ge4 c = simp (le-leb _ _ c.if-m-ge4.true)

pub returns : goal.returns
returns c = simp (lt-leb _ _ c.if-m-ge4.false)
