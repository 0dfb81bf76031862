-- Numbers by the ending: of pieces by king rule and key, of a pawn by its own rule (01; 02, P10 and P12). Definitions
-- only.
use Rattle.std.specs.Prelude.{Bool, ℕ}
use Rattle.symmetry.specs.Symmetry.{Symmetry}
use Rattle.rules.specs.Rules.{Board}
use Rattle.numbering.specs.declared.Material.{Material}
use Rattle.numbering.specs.Material.{men_of}
use Rattle.numbering.specs.Keys.{board_at}
use Rattle.numbering.specs.Number.{normal_by, normalised, number_of, used}
use Rattle.rules.specs.Changed.{keeping}
use Rattle.pawn_numbers.specs.PawnNumber.{pawn_flip, flipped, pawn_number, pawn_board, used_pawn}

-- the number of a board
abbrev pub number_in : Material → Board → ℕ
number_in (Material.One kind) = number_of
number_in (Material.Two first second rivals) = number_of
number_in Material.Pawn = pawn_number

-- the board of a number
abbrev pub board_for : Material → ℕ → Board
board_for (Material.One kind) = board_at (men_of (Material.One kind))
board_for (Material.Two first second rivals) = board_at (men_of (Material.Two first second rivals))
board_for Material.Pawn = pawn_board

-- the number is used; a pawn's is "unused where men share a square or the kings touch"
abbrev pub used_in : Material → ℕ → Bool
used_in (Material.One kind) n = used (board_at (men_of (Material.One kind)) n)
used_in (Material.Two first second rivals) n = used (board_at (men_of (Material.Two first second rivals)) n)
used_in Material.Pawn n = used_pawn n

-- the normal board of the class, and the map that leads to it
abbrev pub normal_in : Material → Board → Board
normal_in (Material.One kind) = normalised
normal_in (Material.Two first second rivals) = normalised
normal_in Material.Pawn = λ b. flipped (pawn_flip b) b

abbrev pub map_in : Material → Board → Symmetry
map_in (Material.One kind) = normal_by
map_in (Material.Two first second rivals) = normal_by
map_in Material.Pawn = λ b. keeping (pawn_flip b).files (pawn_flip b).colours
