-- `row_sets::legal_row_at` meets its contract.
use Rattle.deciding.proofs.laws.Rows.{row_first}
use Rattle.deciding.proofs.row_sets.legal_row_at.Goals as goal

pub returns-then-n-eq0 : goal.returns-then-n-eq0
returns-then-n-eq0 c =
    λ w l h f. c.legal_row.ensures (row_first _ _ _ c.if-n-eq0.true (c.place_at.ensures w l h))

pub returns : goal.returns
returns c = λ w l h f. f c.if-n-eq0.false
