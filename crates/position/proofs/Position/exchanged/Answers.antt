-- `Position::exchanged` meets its contract: each square goes by the map.
use Rattle.symmetry.specs.Symmetry.{exchange}
use Rattle.position.proofs.laws.MapLaws.{by-squares}
use Rattle.position.proofs.Position.exchanged.Goals as goal

pub returns : goal.returns
returns c =
    by-squares exchange c.args.self _ _ _ _
    c.transposed.ensures c.transposed-2.ensures
    c.slot_transposed.ensures c.slot_transposed-2.ensures
