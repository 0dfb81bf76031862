-- `index::arranging::goes_after` meets its contract.
use mathlib.Core.Path.{sym}
use borrow.Author.Tests.{eq-eqb, ne_eqb}
use Rattle.index.specs.Arranging.{goes_after}
use Rattle.index.proofs.arranging.goes_after.Goals as goal

pub returns-then-a-c : goal.returns-then-a-c
unfolding goes_after
returns-then-a-c c = sym (rw (eq-eqb _ _ c.if-a-c.true))

pub returns : goal.returns
unfolding goes_after
returns c = sym (rw (ne_eqb _ _ c.if-a-c.false))
