-- A position as keyed, and the board it stands for. Definitions only.
use Rattle.std.specs.Prelude.{List, [], ◌∷◌, ◌++◌, ℕ, None, Option, Some}
use Rattle.rules.specs.declared.Piece.{Piece}
use Rattle.rules.specs.Rules.{Board, piece_of}
use Rattle.position.specs.declared.Position.{Position}

-- the men in a slot
abbrev pub slot_men : Option Piece → List Piece
slot_men None = []
slot_men (Some m) = m ∷ []

unfoldable pub board_of : Position → Board
board_of p = record { side = p.side; white = p.white_king; black = p.black_king; men = slot_men p.first ++ slot_men p.second }

-- two kings and one man: his kind and colour, the side to move, the white king's square, the man's, the black king's
abbrev pub one_man : ℕ → ℕ → ℕ → ℕ → ℕ → ℕ → Position
one_man kind colour side white square black = record {
  side = side;
  white_king = white;
  black_king = black;
  first = Some (piece_of kind colour square);
  second = None;
}

-- the man White's
abbrev pub lone : ℕ → ℕ → ℕ → ℕ → ℕ → Position
lone kind side white square black = one_man kind 0 side white square black

-- an absent man: off the board, with no steps
abbrev pub nobody : Piece
nobody = piece_of 4 0 64

-- the man in a slot
abbrev pub man_in : Option Piece → Piece
man_in None = nobody
man_in (Some m) = m

-- the first man's kind, colour and square
abbrev pub man_kind : Position → ℕ
man_kind p = (man_in p.first).kind

abbrev pub colour_of : Position → ℕ
colour_of p = (man_in p.first).colour

abbrev pub man_square : Position → ℕ
man_square p = (man_in p.first).square

-- a board keyed, its first two men in the slots
abbrev pub slot_of : List Piece → Option Piece
slot_of [] = None
slot_of (m ∷ ms) = Some m

abbrev pub others : List Piece → List Piece
others [] = []
others (m ∷ ms) = ms

abbrev pub keyed : Board → Position
keyed b = record { side = b.side; white_king = b.white; black_king = b.black; first = slot_of b.men; second = slot_of (others b.men) }
