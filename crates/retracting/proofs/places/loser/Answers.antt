-- `retracting::loser` meets its contract.
use borrow.Author.Tests.{eq-eqb, ne_eqb}
use Rattle.retracting.proofs.places.loser.Goals as goal

pub returns-then-taken-eq1 : goal.returns-then-taken-eq1
returns-then-taken-eq1 c = simp (eq-eqb _ _ c.if-taken-eq1.true)

pub returns-else-taken-eq1 : goal.returns-else-taken-eq1
returns-else-taken-eq1 c = simp (ne_eqb _ _ c.if-taken-eq1.false)
