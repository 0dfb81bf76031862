-- `index::answers::number_with` meets its contract.
use Rattle.std.specs.Prelude.{Ok}
use mathlib.Core.Path.{sym, ap, ◌∙◌}
use Rattle.std.proofs.lemmas.Result.{err_from_is_err_and}
use Rattle.desk_refusals.proofs.laws.Numbers.{handed-on, none-refused}
use Rattle.index.proofs.laws.WithLaws.{with-refused, with_number}
use Rattle.index.proofs.answers.number_with.Goals as goal

pub returns-in_err-placing_with : goal.returns-in_err-placing_with
returns-in_err-placing_with c =
    let p = err_from_is_err_and c.from_residual.result c.from_residual.ensures.1 in
    let x = handed-on _ _ _ _ _ c.in_err-placing_with.was c.placing_with.ensures p.1 p.2 in
    x.0 ∙ with-refused c.args.p x.2

pub returns : goal.returns
returns c =
    let z = sym c.placing_with.ensures ∙ none-refused _ _ c.in_ok-placing_with.was in
    ap Ok (c.placed_number.ensures z) ∙ with_number c.args.p z
