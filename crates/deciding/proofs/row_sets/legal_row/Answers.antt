-- `row_sets::legal_row` meets its contract: each number asked, or by the last man.
use Rattle.deciding.proofs.laws.RowSets.{mover, legal-told}
use Rattle.deciding.proofs.row_sets.legal_row.Goals as goal

pub returns : goal.returns
returns c =
    let a = c.args in
    λ r. legal-told a.m a.row _ c.with_last-q.ensures _ (c.occupied_at-occ.ensures a.m) _ _ _
    (mover _ _ _ _ c.with_last-q.ensures r _ c.other.ensures) c.king_at-king.ensures
    _ c.men_strike.ensures c.if-men_strike.false _ _ _ c.last_kind.ensures c.last_owner.ensures c.struck_by-struck.ensures
    a.n r (c.is_plain.ensures c.if-not-is_plain.false) c.other.ensures _ _ c.minus.ensures c.minus-2.ensures
