-- `working_back::scale_of` meets its contract.
use mathlib.Core.Path.{sym}
use borrow.Author.Tests.{le-leb, lt-leb, eq-eqb, ne_eqb}
use Rattle.working_back.proofs.lines.scale_of.Goals as goal

pub returns-then-m-ge4 : goal.returns-then-m-ge4
returns-then-m-ge4 c = sym (rw (le-leb _ _ c.if-m-ge4.true))

pub returns-then-q-to : goal.returns-then-q-to
returns-then-q-to c = sym (rw (lt-leb _ _ c.if-m-ge4.false, eq-eqb _ _ c.if-q-to.true))

pub returns : goal.returns
returns c = sym (rw (lt-leb _ _ c.if-m-ge4.false, ne_eqb _ _ c.if-q-to.false))
