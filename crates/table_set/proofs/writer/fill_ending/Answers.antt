-- `table_set::fill_ending` meets its contract: a table that is found lies inside the set.
use Rattle.std.specs.Prelude.{Err}
use mathlib.Core.Path.{ap, ◌∙◌}
use Rattle.std.proofs.lemmas.Result.{err_from_is_err_and}
use Rattle.desk_refusals.specs.Numbers.{number_of, by_number}
use Rattle.table_set.proofs.laws.Reading.{part_room}
use Rattle.table_set.proofs.laws.Writing.{in-found, in-refused}
use Rattle.table_set.proofs.writer.fill_ending.Goals as goal

pub fill_at-requires : goal.fill_at-requires
fill_at-requires c = part_room _ _ _ c.find.ensures _ (ap by_number c.in_ok-at.was)

pub returns-in_err-at : goal.returns-in_err-at
returns-in_err-at c =
    let p = err_from_is_err_and c.from_residual.result c.from_residual.ensures.1 in
    let x = in-refused _ _ _ c.find.ensures _ (ap by_number c.in_err-at.was) in
    (ap by_number p.1 ∙ ap (λ e. by_number (Err e)) p.2 ∙ x.0, x.1)

pub returns : goal.returns
returns c =
    let f = c.fill_at.ensures in
    in-found _ _ _ c.find.ensures _ (ap by_number c.in_ok-at.was) _ _ f.0 f.1
