-- `retracting::left_place` meets its contract.
use borrow.Author.Tests.{eq-eqb, ne_eqb}
use Rattle.retracting.specs.Retracting.{left_place}
use Rattle.retracting.proofs.places.left_place.Goals as goal

pub returns-then-taken-ne1 : goal.returns-then-taken-ne1
unfolding left_place
returns-then-taken-ne1 c = simp (ne_eqb _ _ c.if-taken-ne1.true)

pub returns-then-m-eq1 : goal.returns-then-m-eq1
unfolding left_place
returns-then-m-eq1 c = simp (eq-eqb _ _ c.if-taken-ne1.false, eq-eqb _ _ c.if-m-eq1.true, c.other.ensures)

pub returns : goal.returns
unfolding left_place
returns c = simp (eq-eqb _ _ c.if-taken-ne1.false, ne_eqb _ _ c.if-m-eq1.false)
