-- `filling::settles` meets its contract.
use native.Mathlib.Omega.{arith}
use Rattle.working_back.proofs.laws.Admitted.{in_size, small-number}
use Rattle.filling.proofs.laws.Code.{verdict-settled, verdict-required}
use Rattle.filling.proofs.pass.settles.Goals as goal

pub returns-then-table-n-ne1 : goal.returns-then-table-n-ne1
returns-then-table-n-ne1 c =
    let a = c.args in
    verdict-settled a.m a.first.now a.second.now a.table.now a.k a.n c.if-table-n-ne1.true

pub overflow_cast-n : goal.overflow_cast-n
overflow_cast-n c = let p = c.requires in omega (arith, small-number _ _ _ _ p.1 _ p.0)

pub returns : goal.returns
returns c =
    let a = c.args in
    let p = c.requires in
    verdict-required a.m a.first.now a.second.now a.table.now a.k a.n c.if-table-n-ne1.false _
    (c.requires_at.ensures p.1.ending p.1.colour (in_size _ _ _ _ p.1 _ p.0))
