-- The men of a board as the rule for numbers takes them, one or two (01, "The number of a position"; 02, P9 and P10):
-- which order of two men is standard, when the colours may be exchanged, and what all boards of a class have in common.
-- Definitions only.
use Rattle.std.specs.Prelude.{Bool, true, false, cond, not, ◌&&◌, List, [], ◌∷◌, map, min, max, leb, eqb, ltb}
use Rattle.symmetry.specs.Symmetry.{exchange}
use Rattle.rules.specs.declared.Piece.{Piece}
use Rattle.rules.specs.Rules.{piece_of}
use Rattle.rules.specs.Changed.{changed_piece}
use Rattle.rules.specs.Reordered.{crossed}
use Rattle.numbering.specs.Keys.{key_from, unplaced}

-- the colours may be exchanged (P9), but for "like kinds one each" (P10)
unfoldable pub exchangeable : List Piece → Bool
exchangeable [] = false
exchangeable (a ∷ []) = true
exchangeable (a ∷ c ∷ []) = not (eqb a.kind c.kind && not (eqb a.colour c.colour))
exchangeable (a ∷ c ∷ d ∷ l) = false

-- "The kind earlier in Q, R, B, N counts as first, and for one each it is White's" (P10); one man, and the first of
-- two, is White's
unfoldable pub standard : List Piece → Bool
standard [] = true
standard (a ∷ []) = eqb a.colour 0
standard (a ∷ c ∷ []) = eqb a.colour 0 && leb a.kind c.kind
standard (a ∷ c ∷ d ∷ l) = true

-- what order and colours leave alone: the kinds, and of two men whether they are of one side
unfoldable pub material_of : List Piece → List Piece
material_of [] = []
material_of (a ∷ []) = piece_of a.kind 0 0 ∷ []
material_of (a ∷ c ∷ []) = piece_of (min a.kind c.kind) 0 0 ∷ piece_of (max a.kind c.kind) (cond (eqb a.colour c.colour) 0 1) 0 ∷ []
material_of (a ∷ c ∷ d ∷ l) = map unplaced (a ∷ c ∷ d ∷ l)

-- how a list is made standard: whether two men change places, and then whether the colours are exchanged
unfoldable pub crosses : List Piece → Bool
crosses [] = false
crosses (a ∷ []) = false
crosses (a ∷ c ∷ []) = cond (eqb a.kind c.kind) (ltb c.colour a.colour) (ltb c.kind a.kind)
crosses (a ∷ c ∷ d ∷ l) = false

unfoldable pub first_black : List Piece → Bool
first_black [] = false
first_black (a ∷ l) = eqb a.colour 1

-- ---- the least of a class: like men by their squares, and file and rank exchanged where that is less

-- two men of one kind and one side
unfoldable pub like : List Piece → Bool
like [] = false
like (a ∷ []) = false
like (a ∷ c ∷ []) = eqb a.kind c.kind && eqb a.colour c.colour
like (a ∷ c ∷ d ∷ l) = false

-- of two, the second stands on the lower square
unfoldable pub falling : List Piece → Bool
falling [] = false
falling (a ∷ []) = false
falling (a ∷ c ∷ []) = ltb c.square a.square
falling (a ∷ c ∷ d ∷ l) = false

-- like men, the lower square first
unfoldable pub ordered : List Piece → List Piece
ordered l = crossed (falling l && like l) l

-- with both kings on the diagonal the men go the other way where file and rank exchanged give lower digits; one man:
-- where he is above it
unfoldable pub prefers : List Piece → Bool
prefers l = ltb (key_from 0 (ordered (map (changed_piece exchange false) l))) (key_from 0 (ordered l))
