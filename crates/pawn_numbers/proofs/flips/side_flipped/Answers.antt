use Rattle.std.proofs.Common.{◌∙◌, refl}
use Rattle.rules.specs.Changed.{swapped}
use Rattle.pawn_numbers.proofs.laws.PlaceLaws.{side-kept}
use Rattle.pawn_numbers.proofs.flips.side_flipped.Goals as goal

pub returns-then-colours : goal.returns-then-colours
unfolding swapped
returns-then-colours c = c.opposite.ensures ∙ rw c.if-colours.true refl

pub returns-else-colours : goal.returns-else-colours
returns-else-colours c = side-kept _ _ c.if-colours.false
