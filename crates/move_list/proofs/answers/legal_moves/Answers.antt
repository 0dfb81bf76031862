-- `move_list::legal_moves` meets its contract: the refusal, or the moves.
use mathlib.Core.Path.{refl, sym, ap, ◌∙◌}
use Rattle.std.proofs.lemmas.Result.{err_from_is_err_and}
use Rattle.desk_refusals.proofs.laws.Numbers.{handed-on, none-refused}
use Rattle.move_list.proofs.laws.AnswerLaws.{listed-refused, given-list}
use Rattle.move_list.proofs.answers.legal_moves.Goals as goal

pub returns-in_err-standing_with : goal.returns-in_err-standing_with
returns-in_err-standing_with c =
    let p = err_from_is_err_and c.from_residual.result c.from_residual.ensures.1 in
    let x = handed-on _ _ _ _ _ c.in_err-standing_with.was c.standing_with.ensures p.1 p.2 in
    listed-refused _ _ _ p.1 x.1 x.2

pub returns : goal.returns
returns c =
    let z = sym (none-refused _ _ c.in_ok-standing_with.was) ∙ c.standing_with.ensures in
    given-list _ 0 z refl _ c.moves_of.ensures
