use mathlib.Core.Path.{sym, ap}
use Rattle.position.specs.Keyed.{man_in}
use Rattle.position.proofs.man_in.Goals as goal

pub returns-in-None : goal.returns-in-None
returns-in-None c = sym (ap man_in c.in-None.is)
