-- `filling::deepest_lent` meets its contract.
use native.Mathlib.Omega.{arith}
use Rattle.deciding.proofs.laws.PawnLaws.{given-pawn, given-known}
use Rattle.filling.proofs.laws.Greatest.{deepest-pawn, deepest-none, deepest-both}
use Rattle.filling.proofs.deepest.deepest_lent.Goals as goal

pub returns-then-m-eq-PAWN : goal.returns-then-m-eq-PAWN
returns-then-m-eq-PAWN c =
    let e = given-pawn c.args.m c.requires.0 c.if-m-eq-PAWN.true in
    deepest-pawn c.args.m c.args.first.now c.args.second.now e (c.requires.1 e) _ c.greatest_byte.ensures
    (omega (arith, c.greatest_byte.type_inv))

pub returns-then-m-ge4 : goal.returns-then-m-ge4
returns-then-m-ge4 c =
    deepest-none _ _ _ (given-known c.args.m c.requires.0 c.if-m-eq-PAWN.false) c.if-m-ge4.true

pub returns : goal.returns
returns c =
    deepest-both _ _ _ c.if-m-ge4.false _ _ c.greatest_byte-2.ensures c.greatest_byte-3.ensures _
    c.max.ensures (omega (arith, c.max.type_inv))
