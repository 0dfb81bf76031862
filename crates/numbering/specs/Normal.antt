-- The map that puts the kings by the rule, the men in their order and colours as they stand (01, "The number of a
-- position"). Definitions only.
use Rattle.std.specs.Prelude.{Bool, false, ◌&&◌, ◌||◌, List, [], ◌∷◌, ℕ, ◌/◌, ◌%◌, ltb}
use Rattle.symmetry.specs.Symmetry.{Symmetry}
use Rattle.rules.specs.declared.Piece.{Piece}
use Rattle.rules.specs.Rules.{Board}
use Rattle.rules.specs.Changed.{changed}
use Rattle.numbering.specs.Kings.{above, on_diagonal}

-- the first man off the diagonal is above it; with one man: he is above it
unfoldable pub first_above : List Piece → Bool
first_above [] = false
first_above (m ∷ ms) = above m.square || (on_diagonal m.square && first_above ms)

-- the reversals that bring the white king to a1-d4
unfoldable pub turn : ℕ → Symmetry
turn white = record { files = ltb 3 (white % 8); ranks = ltb 3 (white / 8); swap = false }

-- whether file and rank are exchanged after that, where `men` says which way the men are to go with both kings on the
-- diagonal
unfoldable pub swaps_kings : ℕ → ℕ → Bool → Bool
swaps_kings white black men = above white || (on_diagonal white && (above black || (on_diagonal black && men)))

abbrev pub swaps : Board → Bool
swaps b = swaps_kings b.white b.black (first_above b.men)

-- "Map the board so that the white king is in a1-d1-d4. If he is on the diagonal, the black king is not above it. If
-- both are on it, the man is not above it."
unfoldable pub normal_map : Board → Symmetry
normal_map b = record { files = (turn b.white).files; ranks = (turn b.white).ranks; swap = swaps (changed (turn b.white) false b) }
