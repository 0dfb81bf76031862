-- `index::least::second_from` meets its contract.
use mathlib.Core.Path.{sym}
use Rattle.index.proofs.least.second_from.Goals as goal

pub returns-then-single : goal.returns-then-single
returns-then-single c = sym (rw c.if-single.true)

pub returns : goal.returns
returns c = sym (rw c.if-single.false)
