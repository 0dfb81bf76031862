-- `index::moving::row_beside` meets its contract.
use mathlib.Core.Path.{sym, ◌∙◌}
use Rattle.index.proofs.moving.row_beside.Goals as goal

pub returns-then-white : goal.returns-then-white
returns-then-white c = c.partners_of.ensures ∙ sym (rw c.if-white.true)

pub returns : goal.returns
returns c = sym (rw c.if-white.false)
