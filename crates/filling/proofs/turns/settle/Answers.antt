-- `filling::settle` meets its contract.
use mathlib.Core.Path.{refl}
use native.Mathlib.Omega.{arith}
use Rattle.working_back.proofs.laws.Admitted.{small-number}
use Rattle.filling.proofs.laws.Code.{verdict-settled}
use Rattle.filling.proofs.laws.Laws.{settle-no, settle-yes}
use Rattle.filling.proofs.turns.settle.Goals as goal

pub returns-then-table-n-ne1 : goal.returns-then-table-n-ne1
returns-then-table-n-ne1 c =
    let a = c.args in
    settle-no _ _ _ _ _ _ (verdict-settled a.m a.first.now a.second.now a.table.now a.k a.n c.if-table-n-ne1.true) refl

pub overflow_cast-n : goal.overflow_cast-n
overflow_cast-n c = let p = c.requires in omega (arith, small-number _ _ _ _ p.2 _ p.0)

pub settles_on-requires : goal.settles_on-requires
settles_on-requires c =
    let p = c.requires in
    (p.0, p.2, c.if-table-n-ne1.false, λ w. c.in_row-q.ensures (p.3 w))

pub returns-then-not-settles_on : goal.returns-then-not-settles_on
returns-then-not-settles_on c = settle-no _ _ _ _ _ _ c.settles_on.ensures c.if-not-settles_on.true

pub returns : goal.returns
returns c = settle-yes _ _ _ _ _ _ c.settles_on.ensures c.if-not-settles_on.false
