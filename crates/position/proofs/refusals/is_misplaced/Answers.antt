-- `position::is_misplaced` meets its contract.
use mathlib.Core.Path.{sym, ap}
use Rattle.position.specs.Refusals.{slot_misplaced}
use Rattle.position.proofs.refusals.is_misplaced.Goals as goal

pub returns-in-Some : goal.returns-in-Some
returns-in-Some c =
    let x = c.args in
    sym (ap (slot_misplaced x.white x.black) c.in-Some.is)
