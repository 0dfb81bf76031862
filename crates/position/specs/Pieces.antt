-- What the laws of the same name speak of. Definitions only.
use Rattle.std.specs.Prelude.{Bool, ◌&&◌, ◌||◌, ℕ, eqb}
use Rattle.rules.specs.declared.Piece.{Piece}
use Rattle.rules.specs.Rules.{piece_of}
use Rattle.position.specs.declared.Position.{Position}
use Rattle.position.specs.declared.Pieces.{Pieces}
use Rattle.position.specs.Keyed.{man_in}

abbrev pub pieces_of : Position → Pieces
pieces_of p = record { white = piece_of 5 0 p.white_king; black = piece_of 5 1 p.black_king; first = man_in p.first; second = man_in p.second }

-- one of the four passes a test
abbrev pub any_piece : (Piece → Bool) → Pieces → Bool
any_piece f p = f p.white || (f p.black || (f p.first || f p.second))

-- the piece stands on t
abbrev pub stands_on : ℕ → Piece → Bool
stands_on t m = eqb t m.square

-- the piece is of this colour and stands on t
abbrev pub own_on : ℕ → ℕ → Piece → Bool
own_on colour t m = eqb m.colour colour && eqb m.square t
