-- `move_list::move_count` meets its contract.
use Rattle.std.proofs.lemmas.Result.{err_from_is_err_and}
use Rattle.desk_refusals.proofs.laws.Numbers.{handed-on, none-refused}
use mathlib.Core.Path.{refl, sym, subst, ◌∙◌}
use Rattle.move_list.specs.Answers.{Counts}
use Rattle.move_list.proofs.laws.AnswerLaws.{refused-count, given-count}
use Rattle.move_list.proofs.laws.PlacingLaws.{standing-refused, standing-check, standing-none}
use native.Mathlib.Omega.{arith}
use Rattle.move_list.proofs.answers.move_count.Goals as goal

pub returns-in_err-placing_with : goal.returns-in_err-placing_with
returns-in_err-placing_with c =
    let p = err_from_is_err_and c.from_residual.result c.from_residual.ensures.1 in
    let x = handed-on _ _ _ _ _ c.in_err-placing_with.was c.placing_with.ensures p.1 p.2 in
    subst (Counts _) (sym x.0) (refused-count _ _ (standing-refused _ x.2) x.2)

pub returns-then-all : goal.returns-then-all
returns-then-all c =
    let z = sym c.placing_with.ensures ∙ (none-refused _ _ c.in_ok-placing_with.was) in
    refused-count _ _ (standing-check _ z (sym (c.movers_of-all.ensures z).check ∙ c.if-all.true)) (λ q. absurd (omega (arith, q)))

pub placed_count-requires : goal.placed_count-requires
placed_count-requires c =
    let z = sym c.placing_with.ensures ∙ (none-refused _ _ c.in_ok-placing_with.was) in
    (z, c.movers_of-all.ensures z)

pub returns : goal.returns
returns c =
    let z = sym c.placing_with.ensures ∙ (none-refused _ _ c.in_ok-placing_with.was) in
    given-count _ _ (standing-none _ z (sym (c.movers_of-all.ensures z).check ∙ c.if-all.false)) refl
    _ c.placed_count.ensures
