-- `pocket::look_up` meets its contract: each return by the tests that led there.
use Rattle.std.proofs.lemmas.Result.{err_from_is_err_and}
use Rattle.desk_refusals.proofs.laws.Numbers.{handed-on, none-refused}
use mathlib.Core.Path.{refl, ap, ◌∙◌}
use Rattle.pocket.specs.Pocket.{told_by}
use Rattle.pocket.proofs.laws.LookUpLaws.{refused-standing, refused-length, answered}
use Rattle.pocket.proofs.reader.look_up.Goals as goal

pub returns-in_err-standing_refusal : goal.returns-in_err-standing_refusal
returns-in_err-standing_refusal c =
    let p = err_from_is_err_and c.from_residual.result c.from_residual.ensures.1 in
    let x = handed-on _ _ _ _ _ c.in_err-standing_refusal.was c.standing_refusal.ensures p.1 p.2 in
    ap told_by x.0 ∙ refused-standing _ _ _ refl x.2

pub returns-then-pocket-ne-POCKET_SIZE : goal.returns-then-pocket-ne-POCKET_SIZE
returns-then-pocket-ne-POCKET_SIZE c =
    refused-length _ _ _ c.standing_refusal.ensures (none-refused _ _ c.in_ok-standing_refusal.was) c.if-pocket-ne-POCKET_SIZE.true

pub returns : goal.returns
returns c =
    answered _ _ _ c.standing_refusal.ensures (none-refused _ _ c.in_ok-standing_refusal.was) _ _ _ c.if-pocket-ne-POCKET_SIZE.false
    c.number_by_rows.ensures c.entry_at.ensures c.answer.ensures
