-- The endings with one man, the twenty with two (02, P10), and king and pawn (P12): their men and the count of their
-- numbers. Definitions only.
use Rattle.std.specs.Prelude.{◌≡◌, Bool, true, false, cond, not, ◌&&◌, List, [], ◌∷◌, ℕ, min, max, leb, ltb, eqb}
use Rattle.rules.specs.declared.Piece.{Piece}
use Rattle.rules.specs.Rules.{Board, piece_of, legal, legal_with_pawn}
use Rattle.pawn_numbers.specs.PawnNumber.{pawn_size}
use Rattle.numbering.specs.declared.Material.{Material}
use Rattle.numbering.specs.Men.{material_of}

-- There is such an ending of pieces: "The kind earlier in Q, R, B, N counts as first"
abbrev pub known : Material → Bool
known (Material.One kind) = ltb kind 4
known (Material.Two first second rivals) = leb first second && ltb second 4
known Material.Pawn = false

-- there is such an ending: of pieces, or king and pawn
abbrev pub given : Material → Bool
given (Material.One kind) = known (Material.One kind)
given (Material.Two first second rivals) = known (Material.Two first second rivals)
given Material.Pawn = true

-- the ending of one man of this kind
abbrev pub one_of : ℕ → Material
one_of kind = cond (eqb kind 4) Material.Pawn (Material.One kind)

-- its men, whatever their squares: "both White's, or one each .. and for one each it is White's"
abbrev pub men_of : Material → List Piece
men_of (Material.One kind) = piece_of kind 0 0 ∷ []
men_of (Material.Two first second rivals) = piece_of first 0 0 ∷ piece_of second (cond rivals 1 0) 0 ∷ []
men_of Material.Pawn = piece_of 4 0 0 ∷ []

-- The board has these men, in either order, White's for Black's or not: "P9's exchange serves the rest, two black men
-- too".
abbrev pub OfMaterial : Material → Board → Type 0
OfMaterial m b = material_of b.men ≡ men_of m

-- the material of one man or two, whichever slot each was keyed in; of no man, one that is not known
abbrev pub material_in : List Piece → Material
material_in [] = Material.One 4
material_in (a ∷ []) = one_of a.kind
material_in (a ∷ c ∷ l) = Material.Two (min a.kind c.kind) (max a.kind c.kind) (not (eqb a.colour c.colour))

-- legal by the rules that the ending's men need
abbrev pub legal_in : Material → Board → Bool
legal_in (Material.One kind) = legal
legal_in (Material.Two first second rivals) = legal
legal_in Material.Pawn = legal_with_pawn

-- "A table has 59,136 bytes, one a number"; "3,784,704 bytes"; "196,608 bytes"
abbrev pub small_size : ℕ
small_size = 59136

abbrev pub large_size : ℕ
large_size = 3784704

abbrev pub size_of : Material → ℕ
size_of (Material.One kind) = small_size
size_of (Material.Two first second rivals) = large_size
size_of Material.Pawn = pawn_size
