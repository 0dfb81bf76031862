-- `position::or_in_check` meets its contract: each return by the tests that led there.
use mathlib.Core.Path.{◌≡◌, refl, sym, ◌∙◌}
use borrow.Author.Tests.{eq-eqb}
use Rattle.std.proofs.lemmas.Result.{err_from_is_err_and}
use Rattle.desk_refusals.specs.Numbers.{refused}
use Rattle.desk_refusals.proofs.laws.Numbers.{handed-on, none-refused, some-refused, stays-refused}
use Rattle.position.specs.Refusals.{other_in_check}
use Rattle.position.proofs.refusals.or_in_check.Goals as goal

pub returns-in_err-placed : goal.returns-in_err-placed
returns-in_err-placed c =
    λ apart.
    let p = err_from_is_err_and c.from_residual.result c.from_residual.ensures.1 in
    let x = handed-on _ _ _ _ _ c.in_err-placed.was refl p.1 p.2 in
    x.1 ∙ stays-refused _ _ _ _ (some-refused _ _ c.in_err-placed.was)

pub returns-then-men_check : goal.returns-then-men_check
returns-then-men_check c =
    λ apart.
    let none = none-refused _ _ c.in_ok-placed.was in
    let checked : c.men_check.result ≡ other_in_check c.args.p = c.men_check.ensures (apart none) ∙ rw c.other.ensures in
    sym (rw (eq-eqb _ 0 none, sym checked ∙ c.if-men_check.true))

pub returns : goal.returns
returns c =
    λ apart.
    let none = none-refused _ _ c.in_ok-placed.was in
    let checked : c.men_check.result ≡ other_in_check c.args.p = c.men_check.ensures (apart none) ∙ rw c.other.ensures in
    sym (rw (eq-eqb _ 0 none, sym checked ∙ c.if-men_check.false))
