-- The normal board of a class and the number of a board, with one man or two (01, "The number of a position"; 02, P9
-- and P10). Definitions only.
use Rattle.std.specs.Prelude.{Bool, false, ◌&&◌, map, ℕ, ◌*◌, eqb}
use Rattle.finite.specs.Orbit.{least}
use Rattle.symmetry.specs.Symmetry.{Symmetry}
use Rattle.rules.specs.Rules.{Board, pieces, apart}
use Rattle.rules.specs.Changed.{changed_piece, changed}
use Rattle.rules.specs.Reordered.{crossed}
use Rattle.numbering.specs.Kings.{king_rule}
use Rattle.numbering.specs.Normal.{turn}
use Rattle.numbering.specs.KingMaps.{king_map, swapping}
use Rattle.numbering.specs.Keys.{key_of, spread}
use Rattle.numbering.specs.Men.{standard, material_of, crosses, first_black, like, falling, prefers}
use Rattle.numbering.specs.Change.{change, changed_by, changes}

-- the men put in standard order, the colours exchanged where that is called for
unfoldable pub arranged : Board → Board
arranged b = changed_by (change (crosses b.men) (first_black (crossed (crosses b.men) b.men)) (swapping false)) b

-- the map that puts the kings by the rule; with both on the diagonal the men choose
unfoldable pub ruling_map : Board → Symmetry
ruling_map b = king_map b.white b.black (prefers (changed (turn b.white) false b).men)

-- like men are to change places after that map
unfoldable pub ruling_order : Board → Bool
ruling_order b = falling (map (changed_piece (ruling_map b) false) b.men) && like b.men

-- the map by which a board is made normal
abbrev pub normal_by : Board → Symmetry
normal_by b = ruling_map (arranged b)

-- the normal board of the class
unfoldable pub normalised : Board → Board
normalised b = changed_by (change (ruling_order (arranged b)) false (normal_by b)) (arranged b)

-- the number of a board: the key of the normal board of its class
unfoldable pub number_of : Board → ℕ
number_of b = key_of (normalised b)

-- the board may stand for its class: kings by the rule, men in standard order
abbrev pub ruled : Board → Bool
ruled b = king_rule b.white b.black && standard b.men

-- "Normalise to the smallest number that any king-rule map, or an exchange of like men, or both, can give" (P10); where
-- there is none, the count of all numbers of the material
unfoldable pub least_key : Board → ℕ
least_key b = least changed_by ruled key_of (924 * spread (material_of b.men)) changes b

-- its number is used: no two on one square, and the board bears it
unfoldable pub used : Board → Bool
used b = apart (pieces b) && eqb (number_of b) (key_of b)
