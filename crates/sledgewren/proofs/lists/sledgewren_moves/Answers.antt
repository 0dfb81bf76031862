-- `sledgewren::sledgewren_moves` meets its contract: each return by the tests that led there.
use mathlib.Core.Path.{sym, ◌∙◌}
use native.Mathlib.Omega.{arith}
use Rattle.move_list.proofs.laws.Served.{few-moves}
use Rattle.move_list.proofs.laws.PlacingLaws.{standing-refused, standing-check, standing-none}
use Rattle.desk_refusals.proofs.laws.Numbers.{none-refused, some-number, some-refused}
use borrow.Author.Rules.{rules}
use Rattle.sledgewren.proofs.laws.Laws.{not_listed, refused-bytes, given-bytes}
use Rattle.sledgewren.proofs.lists.sledgewren_moves.Goals as goal

pub returns-then-moves-ne-LIST_BYTES : goal.returns-then-moves-ne-LIST_BYTES
returns-then-moves-ne-LIST_BYTES c = not_listed _ _ c.if-moves-ne-LIST_BYTES.true

pub returns-in-Err : goal.returns-in-Err
returns-in-Err c =
    let e = c.number.ensures ∙ sym (some-refused _ _ c.in-Err.is) ∙ c.placing_with-placed.ensures in
    refused-bytes _ _ c.if-moves-ne-LIST_BYTES.false _ c.clear.ensures _ c.position_read-p.ensures _
    (e ∙ standing-refused _ (λ z. some-number c.in-Err.r (sym c.number.ensures ∙ e ∙ z)))
    (λ z. some-number c.in-Err.r (sym c.number.ensures ∙ z))

pub returns-then-all : goal.returns-then-all
returns-then-all c =
    let z = sym c.placing_with-placed.ensures ∙ none-refused _ _ c.in-Ok.is in
    rw c.number-then-all.ensures
    (refused-bytes _ _ c.if-moves-ne-LIST_BYTES.false _ c.clear.ensures _ c.position_read-p.ensures 6
    (standing-check _ z (sym (c.movers_of-all.ensures z).check ∙ c.if-all.true)) (λ e. absurd (omega (arith, e))))

pub write_moves-requires : goal.write_moves-requires
write_moves-requires c =
    let z = sym c.placing_with-placed.ensures ∙ none-refused _ _ c.in-Ok.is in
    (c.clear.auto.table ∙ c.if-moves-ne-LIST_BYTES.false, c.movers_of-all.ensures z)

pub overflow_cast-result-in-Ok : goal.overflow_cast-result-in-Ok
overflow_cast-result-in-Ok c = omega (arith, c.write_moves.ensures.count, few-moves c.position_read-p.result)

pub overflow_mul-result : goal.overflow_mul-result
overflow_mul-result c = omega (arith, c.write_moves.ensures.count, few-moves c.position_read-p.result)

pub returns-else-all : goal.returns-else-all
returns-else-all c =
    let z = sym c.placing_with-placed.ensures ∙ none-refused _ _ c.in-Ok.is in
    given-bytes _ _ c.if-moves-ne-LIST_BYTES.false _ c.clear.ensures _ c.position_read-p.ensures
    (sym (standing-none _ z (sym (c.movers_of-all.ensures z).check ∙ c.if-all.false))) _ _ c.write_moves.ensures
