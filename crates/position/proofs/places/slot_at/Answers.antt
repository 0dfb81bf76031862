-- `position::slot_at` meets its contract.
use borrow.Author.Tests.{le-leb, lt-leb}
use Rattle.position.proofs.places.slot_at.Goals as goal

pub returns-then-square-ge64 : goal.returns-then-square-ge64
returns-then-square-ge64 c = simp (le-leb _ _ c.if-square-ge64.true)

pub returns : goal.returns
returns c = simp (lt-leb _ _ c.if-square-ge64.false)
