-- `Position::turned` meets its contract: each square is reversed as the two tests say.
use Rattle.numbering.specs.Normal.{turn}
use Rattle.position.proofs.laws.MapLaws.{by-squares}
use Rattle.position.proofs.Position.turned.Goals as goal

pub returns : goal.returns
unfolding turn
returns c =
    let p = c.args.self in
    by-squares (turn p.white_king) p _ _ _ _ c.square_flipped.ensures
    c.square_flipped-2.ensures c.slot_reversed.ensures c.slot_reversed-2.ensures
