use borrow.Author.Tests.{eq-eqb, ne_eqb}
use Rattle.movegen.proofs.places.carried.Goals as goal

pub returns-then-s-from : goal.returns-then-s-from
returns-then-s-from c = simp (eq-eqb _ _ c.if-s-from.true)

pub returns-else-s-from : goal.returns-else-s-from
returns-else-s-from c = simp (ne_eqb _ _ c.if-s-from.false)
