-- `position::is_astray` meets its contract.
use mathlib.Core.Path.{sym, ap}
use Rattle.position.specs.Refusals.{slot_astray}
use Rattle.position.proofs.refusals.is_astray.Goals as goal

pub returns-in-Some : goal.returns-in-Some
returns-in-Some c = sym (ap slot_astray c.in-Some.is)
