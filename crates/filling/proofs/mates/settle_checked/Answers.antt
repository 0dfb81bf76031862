-- `filling::settle_checked` meets its contract.
use mathlib.Core.Path.{refl, sym, ◌∙◌}
use Rattle.deciding.proofs.laws.RowSets.{mate-in-row}
use Rattle.filling.proofs.laws.Code.{verdict-none}
use Rattle.filling.proofs.laws.Laws.{settle-no, settle-yes}
use Rattle.filling.proofs.mates.settle_checked.Goals as goal

pub returns-then-not-has : goal.returns-then-not-has
returns-then-not-has c =
    let a = c.args in
    settle-no _ _ _ _ _ _
    (verdict-none a.m a.first.now a.second.now a.table.now 0 a.n
    (mate-in-row _ _ _ c.requires.2 (sym c.has.ensures ∙ c.if-not-has.true) a.first.now a.second.now
    a.table.now))
    refl

pub returns-then-not-settles : goal.returns-then-not-settles
returns-then-not-settles c = settle-no _ _ _ _ _ _ c.settles.ensures c.if-not-settles.true

pub returns : goal.returns
returns c = settle-yes _ _ _ _ _ _ c.settles.ensures c.if-not-settles.false
