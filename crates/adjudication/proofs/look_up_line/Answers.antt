-- `adjudication::look_up_line` meets its contract.
use mathlib.Core.Path.{ap, sym, ◌∙◌}
use Rattle.desk_refusals.proofs.laws.Numbers.{none-refused, some-number, some-refused}
use borrow.Author.Rules.{rules}
use Rattle.rules.specs.declared.Piece.{Piece}
use Rattle.adjudication.proofs.laws.Laws.{refused-position, held-position, filled-position}
use Rattle.adjudication.proofs.look_up_line.Goals as goal

pub returns-then-kind-held : goal.returns-then-kind-held
returns-then-kind-held c =
    held-position _ _ _ _ c.man_in-man.ensures _ _
    c.if-kind-held.true c.look_up.ensures c.answer_slip.ensures

pub returns-in-Err : goal.returns-in-Err
returns-in-Err c =
    let e = sym (some-refused _ _ c.in-Err.is) ∙ c.standing_refusal.ensures in
    refused-position _ _ _ _ c.man_in-man.ensures _ e _ (some-number _) c.answer_slip-in-Err.ensures

pub after_fill-requires : goal.after_fill-requires
after_fill-requires c = ap (λ (m : Piece). m.kind) c.man_in-man.ensures

pub shape_of-table : goal.shape_of-table
shape_of-table c = c.fill_one_back-filled.auto.table

pub returns-in-Ok : goal.returns-in-Ok
returns-in-Ok c =
    filled-position _ _ _ _
    c.man_in-man.ensures _
    c.standing_refusal.ensures _ _ _
    (none-refused _ _ c.in-Ok.is)
    c.if-kind-held.false
    c.fill_one_back-filled.ensures.answered
    c.fill_one_back-filled.ensures.left c.after_fill.ensures
