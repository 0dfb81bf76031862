-- `slips::answer_slip` meets its contract: a value's slip, or a refusal's.
use Rattle.slips.specs.Slip.{answer_text, slip_of, refused_slip}
use borrow.Author.Rules.{rules}
use Rattle.slips.proofs.answer_slip.Goals as goal

pub returns-in-Ok : goal.returns-in-Ok
returns-in-Ok g c = rw c.in-Ok.is c.value_slip.ensures

pub returns-in-Err : goal.returns-in-Err
unfolding answer_text slip_of refused_slip
returns-in-Err g c = rw (c.in-Err.is, ← c.shown.ensures) c.refused_slip.ensures
