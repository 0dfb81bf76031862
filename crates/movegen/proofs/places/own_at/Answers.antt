-- `movegen::own_at` meets its contract.
use Rattle.movegen.proofs.laws.Places.{own-set}
use Rattle.movegen.proofs.places.own_at.Goals as goal

pub returns : goal.returns
returns c =
    let x = c.args in
    let a = c.king_set in
    let b = c.one_if in
    let d = c.one_if-2 in
    λ l. own-set x.m x.q x.side _ _ _ l a.ensures b.ensures d.ensures a.type_inv b.type_inv d.type_inv
