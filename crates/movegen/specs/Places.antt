-- An ending's men on a place: who attacks, and the place after a move. Definitions only.
use Rattle.std.specs.Prelude.{Bool, cond, ◌&&◌, ◌||◌, ℕ, ◌-◌, eqb}
use Rattle.board.specs.Reach.{reaches}
use Rattle.rules.specs.declared.Piece.{Piece}
use Rattle.rules.specs.Rules.{piece_of, carried}
use Rattle.position.specs.declared.Men.{Men}
use Rattle.position.specs.declared.Place.{Place}

abbrev pub first_of : Men → Place → Piece
first_of m q = piece_of m.first 0 q.first

abbrev pub second_of : Men → Place → Piece
second_of m q = piece_of m.second m.colour q.second

-- a piece that is no pawn is of this colour and attacks t
abbrev pub piece_strikes : (ℕ → Bool) → ℕ → ℕ → Piece → Bool
piece_strikes occ colour t a = eqb a.colour colour && reaches occ a.kind a.square t

-- one of the men, no pawns, is of this colour and attacks t
abbrev pub men_strike : Men → Place → (ℕ → Bool) → ℕ → ℕ → Bool
men_strike m q occ colour t = piece_strikes occ colour t (first_of m q) || piece_strikes occ colour t (second_of m q)

-- where a man on s stands after a move: off the board if he is taken
abbrev pub square_after : ℕ → ℕ → ℕ → ℕ
square_after from to s = cond (eqb s to) 64 (carried from to s)

unfoldable pub place_after : Place → ℕ → ℕ → Place
place_after q from to = record {
  side = 1 - q.side;
  white = carried from to q.white;
  black = carried from to q.black;
  first = square_after from to q.first;
  second = square_after from to q.second;
}
