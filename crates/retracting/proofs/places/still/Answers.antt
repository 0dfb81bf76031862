-- `retracting::still` meets its contract.
use borrow.Author.Tests.{eq-eqb, ne_eqb}
use Rattle.retracting.proofs.places.still.Goals as goal

pub returns-then-colour-owner : goal.returns-then-colour-owner
returns-then-colour-owner c = simp (ne_eqb _ _ c.if-colour-owner.true)

pub returns-then-square-to : goal.returns-then-square-to
returns-then-square-to c = simp (eq-eqb _ _ c.if-colour-owner.false, eq-eqb _ _ c.if-square-to.true)

pub returns : goal.returns
returns c = simp (eq-eqb _ _ c.if-colour-owner.false, ne_eqb _ _ c.if-square-to.false)
