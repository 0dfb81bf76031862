-- `filling::mates` meets its contract, by the first man.
use Rattle.deciding.proofs.laws.PawnLaws.{given-known}
use Rattle.filling.proofs.mates.mates.Goals as goal

pub mates_in_rows-requires : goal.mates_in_rows-requires
mates_in_rows-requires c = (given-known c.args.m c.requires.ending c.if-m-eq-PAWN.false, c.requires)
