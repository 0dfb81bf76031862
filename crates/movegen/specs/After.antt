-- A move made on a position. Definitions only.
use Rattle.rules.specs.declared.Piece.{Piece}
use Rattle.std.specs.Prelude.{cond, ℕ, ◌-◌, eqb, None, Option, Some}
use Rattle.rules.specs.Rules.{carried, carried_piece}
use Rattle.position.specs.declared.Position.{Position}

-- a man after a move: absent where he is taken
abbrev pub slot_after : ℕ → ℕ → Option Piece → Option Piece
slot_after from to None = None
slot_after from to (Some m) = cond (eqb m.square to) None (Some (carried_piece from to m))

unfoldable pub after : Position → ℕ → ℕ → Position
after p from to = record {
  side = 1 - p.side;
  white_king = carried from to p.white_king;
  black_king = carried from to p.black_king;
  first = slot_after from to p.first;
  second = slot_after from to p.second;
}
