-- `numbers::legal_at` meets its contract, by the first man.
use Rattle.deciding.proofs.laws.PawnLaws.{given-pawn, given-known}
use Rattle.deciding.proofs.laws.StandingLaws.{pieces-standing}
use Rattle.deciding.proofs.numbers.legal_at.Goals as goal

pub returns-then-m-eq-PAWN : goal.returns-then-m-eq-PAWN
returns-then-m-eq-PAWN c = λ g l h. c.legal_of_pawn.ensures c.args.m (given-pawn c.args.m g c.if-m-eq-PAWN.true)

pub returns : goal.returns
returns c =
    λ g l h. let a = c.args in
    let k = given-known a.m g c.if-m-eq-PAWN.false in
    pieces-standing a.m a.n c.legal_at.result k (c.legal_at.ensures k l h)
