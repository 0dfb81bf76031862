-- A change of a board that keeps its class: one of the eight maps, the two men in the other order, the colours
-- exchanged (01; 02, P9 and P10). Definitions only.
use Rattle.std.specs.Prelude.{Bool, true, false, ◌&&◌, List, ◌++◌, map}
use Rattle.std.specs.Bool.{xor}
use Rattle.symmetry.specs.Symmetry.{Symmetry, inverse, composed, symmetries}
use Rattle.rules.specs.Rules.{Board}
use Rattle.rules.specs.Changed.{changed}
use Rattle.rules.specs.Reordered.{reordered}
use Rattle.numbering.specs.Men.{exchangeable}

pub record Change : Type 0 where
  pub symmetry : Symmetry
  pub order : Bool
  pub colours : Bool

abbrev pub change : Bool → Bool → Symmetry → Change
change e x m = record { symmetry = m; order = e; colours = x }

-- the kings and the side to move are exchanged with the colours
unfoldable pub changed_by : Change → Board → Board
changed_by s b = changed s.symmetry (s.colours && exchangeable b.men) (reordered s.order b)

-- first s, then t
unfoldable pub then : Change → Change → Change
then s t = record { symmetry = composed s.symmetry t.symmetry; order = xor s.order t.order; colours = xor s.colours t.colours }

unfoldable pub undo : Change → Change
undo s = record { symmetry = inverse s.symmetry; order = s.order; colours = s.colours }

-- all thirty-two
abbrev pub changes : List Change
changes = map (change false false) symmetries ++ (map (change false true) symmetries ++ (map (change true false) symmetries ++ map (change true true) symmetries))
