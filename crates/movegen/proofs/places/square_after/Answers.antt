-- `movegen::square_after` meets its contract.
use borrow.Author.Tests.{eq-eqb, ne_eqb}
use Rattle.movegen.proofs.places.square_after.Goals as goal

pub returns-then-s-to : goal.returns-then-s-to
returns-then-s-to c = simp (eq-eqb _ _ c.if-s-to.true)

pub returns : goal.returns
returns c = simp (ne_eqb _ _ c.if-s-to.false, c.carried.ensures)
