-- `adjudication::after_fill` meets its contract.
use mathlib.Core.Path.{ap}
use Rattle.desk_refusals.specs.Numbers.{by_number}
use borrow.Author.Rules.{rules}
use Rattle.adjudication.proofs.laws.Laws.{after-filled, after-refused}
use Rattle.adjudication.proofs.after_fill.Goals as goal

pub returns-in-Ok : goal.returns-in-Ok
returns-in-Ok c = after-filled _ _ c.requires _ _ _ _ _ (ap by_number c.in-Ok.is) c.look_up.ensures c.answer_slip.ensures

pub returns-in-Err : goal.returns-in-Err
returns-in-Err c = after-refused _ _ _ _ _ (ap by_number c.in-Err.is) c.answer_slip-in-Err.ensures
