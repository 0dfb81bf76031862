-- `position::slot_reversed` meets its contract.
use Rattle.position.specs.Maps.{reversals}
use Rattle.position.proofs.laws.MapLaws.{by-square}
use Rattle.position.proofs.maps.slot_reversed.Goals as goal

pub returns-in-Some : goal.returns-in-Some
returns-in-Some c =
    let a = c.args in
    by-square (reversals a.files a.ranks) _ _ _ c.in-Some.is c.square_flipped.ensures
