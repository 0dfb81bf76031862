-- `typed::write_number` meets its contract: numbering back's refusal, or the digits.
use Rattle.std.specs.Prelude.{Err}
use mathlib.Core.Path.{ap, sym, ◌∙◌}
use Rattle.std.proofs.lemmas.Result.{err_from_is_err_and}
use Rattle.desk_refusals.specs.Numbers.{by_number}
use Rattle.typed.specs.Writing.{written_as}
use Rattle.typed.proofs.laws.WritingLaws.{writes_at, writes-refused}
use Rattle.typed.proofs.write_number.Goals as goal

pub returns-in_err-position_of : goal.returns-in_err-position_of
returns-in_err-position_of c =
    let p = err_from_is_err_and c.from_residual.result c.from_residual.ensures.1 in
    ap written_as p.1 ∙ ap (λ e. written_as (Err e)) p.2
    ∙ writes-refused c.args.number _ (sym (ap by_number c.in_err-position_of.was) ∙ c.position_of.ensures)

pub returns : goal.returns
returns c =
    writes_at c.args.number _ (sym (ap by_number c.in_ok-position_of.was) ∙ c.position_of.ensures) _
    c.seven_bytes.ensures
