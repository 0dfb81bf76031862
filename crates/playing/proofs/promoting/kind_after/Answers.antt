-- `playing::promoting::kind_after` meets its contract.
use mathlib.Core.Path.{sym}
use Rattle.playing.proofs.promoting.kind_after.Goals as goal

pub returns-then-m-side : goal.returns-then-m-side
returns-then-m-side c = sym (rw c.if-m-side.true)

pub returns : goal.returns
returns c = sym (rw c.if-m-side.false)
