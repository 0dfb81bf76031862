-- `filling::start` meets its contract, by the first man.
use Rattle.deciding.proofs.laws.PawnLaws.{given-known}
use Rattle.filling.proofs.bytes.start.Goals as goal

pub start_rows-requires : goal.start_rows-requires
start_rows-requires c = let p = c.requires in (given-known c.args.m p.0 c.if-m-eq-PAWN.false, p.1, p.2)
