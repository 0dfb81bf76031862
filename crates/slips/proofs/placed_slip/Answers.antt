-- `slips::placed_slip` meets its contract, arm by arm.
use Rattle.slips.specs.Slip.{placed_text, placed_slip, refused_slip}
use borrow.Author.Rules.{rules}
use Rattle.slips.proofs.placed_slip.Goals as goal

pub returns-in-Ok : goal.returns-in-Ok
returns-in-Ok g c = rw c.in-Ok.is c.position_slip.ensures

pub returns-in-Err : goal.returns-in-Err
unfolding placed_text placed_slip refused_slip
returns-in-Err g c = rw (c.in-Err.is, ← c.shown.ensures) c.refused_slip.ensures
