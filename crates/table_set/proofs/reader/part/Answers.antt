-- `table_set::part` meets its contract: a table that is found lies inside the set.
use mathlib.Core.Path.{ap}
use Rattle.desk_refusals.specs.Numbers.{by_number}
use Rattle.table_set.proofs.laws.Reading.{part_room, part-found, part-refused}
use native.Mathlib.Omega.{arith}
use borrow.Author.Rules.{rules}
use Rattle.table_set.proofs.reader.part.Goals as goal

pub overflow_add-end : goal.overflow_add-end
overflow_add-end c = omega (arith, part_room _ _ _ c.find-found.ensures _ (ap by_number c.in-Ok.is))

pub slice_bounds-result-end : goal.slice_bounds-result-end
slice_bounds-result-end c = omega (arith, part_room _ _ _ c.find-found.ensures _ (ap by_number c.in-Ok.is))

pub returns-in-Ok : goal.returns-in-Ok
returns-in-Ok c = part-found _ _ _ c.find-found.ensures _ (ap by_number c.in-Ok.is)

pub returns-in-Err : goal.returns-in-Err
returns-in-Err c = part-refused _ _ _ c.find-found.ensures _ (ap by_number c.in-Err.is)
