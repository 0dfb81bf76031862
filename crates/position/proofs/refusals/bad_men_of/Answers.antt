-- `position::bad_men_of` meets its contract.
use mathlib.Core.Path.{sym, ap₂}
use Rattle.position.specs.Refusals.{bad_men_of}
use Rattle.position.proofs.refusals.bad_men_of.Goals as goal

pub returns-in-None-second : goal.returns-in-None-second
returns-in-None-second c = sym (ap₂ bad_men_of c.in-Some.is c.in-None-second.is)

pub returns-in-Some-second : goal.returns-in-Some-second
returns-in-Some-second c = sym (ap₂ bad_men_of c.in-Some.is c.in-Some-second.is)
