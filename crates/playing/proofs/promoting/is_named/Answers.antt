-- `playing::promoting::is_named` meets its contract.
use mathlib.Core.Path.{sym}
use Rattle.playing.proofs.promoting.is_named.Goals as goal

pub returns-then-promoting : goal.returns-then-promoting
returns-then-promoting c = sym (rw c.if-promoting.true)

pub returns : goal.returns
returns c = sym (rw c.if-promoting.false)
