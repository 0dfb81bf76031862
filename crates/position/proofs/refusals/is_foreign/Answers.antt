-- `position::is_foreign` meets its contract.
use mathlib.Core.Path.{sym, ap}
use Rattle.position.specs.Refusals.{slot_foreign}
use Rattle.position.proofs.refusals.is_foreign.Goals as goal

pub returns-in-Some : goal.returns-in-Some
returns-in-Some c = sym (ap slot_foreign c.in-Some.is)
