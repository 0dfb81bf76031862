-- `row_sets::checked_row_at` meets its contract.
use Rattle.deciding.proofs.laws.Rows.{row_first}
use Rattle.deciding.proofs.laws.RowSets.{mate-row}
use Rattle.deciding.proofs.row_sets.checked_row_at.Goals as goal

pub returns-then-n-eq0 : goal.returns-then-n-eq0
returns-then-n-eq0 c =
    λ w l h f. mate-row _ _ _ _ (row_first _ _ _ c.if-n-eq0.true (c.place_at.ensures w l h)) c.checked_row.ensures

pub returns : goal.returns
returns c = λ w l h f. f c.if-n-eq0.false
