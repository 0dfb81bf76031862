-- `index::least::number_by` meets its contract.
use mathlib.Core.Path.{sym}
use Rattle.index.proofs.least.number_by.Goals as goal

pub returns-then-single : goal.returns-then-single
returns-then-single c = sym (rw c.if-single.true)

pub returns : goal.returns
returns c = sym (rw c.if-single.false)
