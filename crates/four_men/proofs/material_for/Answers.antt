-- `four_men::material_for` meets its contract.
use borrow.Author.Tests.{le-leb, lt-leb, eq-eqb, ne_eqb}
use Rattle.four_men.proofs.material_for.Goals as goal

pub returns-then-m-eq4 : goal.returns-then-m-eq4
returns-then-m-eq4 c = simp (le-leb _ _ c.if-m-ge4.true, eq-eqb _ _ c.if-m-eq4.true)

pub returns-then-m-ge4 : goal.returns-then-m-ge4
returns-then-m-ge4 c = simp (le-leb _ _ c.if-m-ge4.true, ne_eqb _ _ c.if-m-eq4.false)

pub returns : goal.returns
returns c = simp (lt-leb _ _ c.if-m-ge4.false)
