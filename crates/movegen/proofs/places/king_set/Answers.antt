-- `movegen::king_set` meets its contract.
use borrow.Author.Tests.{eq-eqb, ne_eqb}
use Rattle.movegen.proofs.places.king_set.Goals as goal

pub returns-then-side-eq0 : goal.returns-then-side-eq0
returns-then-side-eq0 c = rw (eq-eqb _ _ c.if-side-eq0.true) c.one-white.ensures

pub returns-else-side-eq0 : goal.returns-else-side-eq0
returns-else-side-eq0 c = rw (ne_eqb _ _ c.if-side-eq0.false) c.one-black.ensures
