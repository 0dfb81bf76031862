-- `adjudication::answer_line` meets its contract.
use Rattle.std.specs.Prelude.{◌≡◌, Ok}
use mathlib.Core.Path.{ap}
use borrow.Author.Rules.{rules}
use Rattle.desk_refusals.specs.Numbers.{by_number}
use Rattle.lines.specs.declared.Request.{Request}
use Rattle.adjudication.proofs.laws.Laws.{position-line, number-line, refused-line}
use Rattle.adjudication.proofs.answer_line.Goals as goal

pub shape_of-table : goal.shape_of-table
shape_of-table c = c.look_up_line.auto.table

pub returns-in-Ok-LookUp : goal.returns-in-Ok-LookUp
returns-in-Ok-LookUp c =
    let e : c.parse-request.result ≡ Ok (Request.LookUp c.in-Ok-LookUp.p) = search rules in
    position-line _ _ _ _ c.parse-request.ensures _ _ _
    (ap by_number e) c.look_up_line.ensures

pub returns-in-Ok-Back : goal.returns-in-Ok-Back
returns-in-Ok-Back c =
    let e : c.parse-request.result ≡ Ok (Request.Back c.in-Ok-Back.man c.in-Ok-Back.n) = search rules in
    number-line _ _ _ _ c.parse-request.ensures _ _ _ _
    (ap by_number e) c.position_of.ensures c.placed_slip.ensures

pub returns-in-Err : goal.returns-in-Err
returns-in-Err c =
    refused-line _ _ _ _ c.parse-request.ensures _ _
    (ap by_number c.in-Err.is) c.answer_slip.ensures
