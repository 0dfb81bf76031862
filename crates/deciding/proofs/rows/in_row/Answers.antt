-- `rows::in_row` meets its contract.
use mathlib.Core.Path.{subst⁻¹}
use Rattle.index.specs.Seats.{StandsAt}
use Rattle.deciding.proofs.laws.Rows.{row-stands}
use Rattle.deciding.proofs.rows.in_row.Goals as goal

pub returns : goal.returns
returns c = λ w. subst⁻¹ (StandsAt _ _) c.with_last.ensures (row-stands _ _ _ w)
