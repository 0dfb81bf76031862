-- `settling::requires_at` meets its contract, by the first man.
use Rattle.deciding.proofs.laws.PawnLaws.{given-known}
use Rattle.deciding.proofs.settling.requires_at.Goals as goal

pub returns-then-m-eq-PAWN : goal.returns-then-m-eq-PAWN
returns-then-m-eq-PAWN c = c.pawn_at.ensures

pub returns : goal.returns
returns c = λ g l h. c.pieces_at.ensures (given-known c.args.m g c.if-m-eq-PAWN.false) l h
