-- A position with its man White's: "With one black man the desk exchanges the colours and the side to move" (02, P9).
-- Definitions only.
use Rattle.rules.specs.declared.Piece.{Piece}
use Rattle.std.specs.Prelude.{Bool, cond, eqb, None, Option, Some}
use Rattle.rules.specs.Rules.{piece_of}
use Rattle.rules.specs.Changed.{other}
use Rattle.position.specs.declared.Position.{Position}
use Rattle.position.specs.Keyed.{colour_of}

abbrev pub recoloured_slot : Option Piece → Option Piece
recoloured_slot None = None
recoloured_slot (Some m) = Some (piece_of m.kind (other m.colour) m.square)

-- colours, kings and side to move exchanged; every square stays
unfoldable pub recoloured : Position → Position
recoloured p = record {
  side = other p.side;
  white_king = p.black_king;
  black_king = p.white_king;
  first = recoloured_slot p.first;
  second = recoloured_slot p.second;
}

-- the first man is Black's
abbrev pub black_owns : Position → Bool
black_owns p = eqb (colour_of p) 1

unfoldable pub white_owned : Position → Position
white_owned p = cond (black_owns p) (recoloured p) p
