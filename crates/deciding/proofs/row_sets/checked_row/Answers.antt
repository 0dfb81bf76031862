-- `row_sets::checked_row` meets its contract: every square, or by the last man.
use mathlib.Core.Path.{refl}
use Rattle.finite.specs.Truth.{true-not-false}
use Rattle.deciding.proofs.laws.RowSets.{every-square, checks-in}
use Rattle.deciding.proofs.row_sets.checked_row.Goals as goal

pub returns-then-men_strike : goal.returns-then-men_strike
returns-then-men_strike c = λ s h w z. absurd (true-not-false (every-square s h) z)

pub returns : goal.returns
returns c =
    let a = c.args in
    checks-in a.m a.row _ c.with_last-q.ensures _ (c.occupied_at-occ.ensures a.m) _ _ _ c.other-foe.ensures c.king_at-king.ensures
    _ c.men_strike.ensures c.if-men_strike.false _ _ _ c.last_kind.ensures c.last_owner.ensures c.struck_by.ensures refl
