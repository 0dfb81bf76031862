-- `position::slot_transposed` meets its contract.
use Rattle.symmetry.specs.Symmetry.{exchange}
use Rattle.position.proofs.laws.MapLaws.{by-square}
use Rattle.position.proofs.maps.slot_transposed.Goals as goal

pub returns-in-Some : goal.returns-in-Some
returns-in-Some c = by-square exchange _ _ _ c.in-Some.is c.transposed.ensures
