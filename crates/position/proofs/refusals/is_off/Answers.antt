-- `position::is_off` meets its contract.
use mathlib.Core.Path.{sym, ap}
use Rattle.position.specs.Refusals.{slot_off}
use Rattle.position.proofs.refusals.is_off.Goals as goal

pub returns-in-Some : goal.returns-in-Some
returns-in-Some c = sym (ap slot_off c.in-Some.is)
