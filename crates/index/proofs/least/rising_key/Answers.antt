-- `index::least::rising_key` meets its contract.
use mathlib.Core.Path.{sym}
use Rattle.index.specs.Least.{rising_key}
use Rattle.index.proofs.least.rising_key.Goals as goal

pub returns-then-y-x : goal.returns-then-y-x
unfolding rising_key
returns-then-y-x c = sym (rw c.if-y-x.true)

pub returns : goal.returns
unfolding rising_key
returns c = sym (rw c.if-y-x.false)
