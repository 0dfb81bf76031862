-- `position::bad_men` meets its contract.
use mathlib.Core.Path.{sym, ap₂}
use Rattle.position.specs.Refusals.{bad_men}
use Rattle.position.proofs.refusals.bad_men.Goals as goal

pub returns-in-None-second : goal.returns-in-None-second
returns-in-None-second c = sym (ap₂ bad_men c.in-Some.is c.in-None-second.is)
