-- `position::is_on` meets its contract.
use mathlib.Core.Path.{sym, ap}
use Rattle.position.specs.Refusals.{slot_on}
use Rattle.position.proofs.refusals.is_on.Goals as goal

pub returns-in-Some : goal.returns-in-Some
returns-in-Some c = sym (ap (slot_on c.args.square) c.in-Some.is)
