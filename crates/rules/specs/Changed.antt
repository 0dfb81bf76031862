-- The board under one of the eight maps, with the colours exchanged or not. Definitions only.
use Rattle.std.specs.Prelude.{Bool, false, cond, not, ◌&&◌, map, ℕ, zero, suc}
use Rattle.std.specs.Bool.{beq}
use Rattle.finite.specs.Truth.{implies}
use Rattle.finite.specs.Members.{all}
use Rattle.symmetry.specs.Symmetry.{Symmetry, mapped}
use Rattle.rules.specs.declared.Piece.{Piece}
use Rattle.rules.specs.declared.Move.{Move}
use Rattle.rules.specs.Pawn.{pawn}
use Rattle.rules.specs.Rules.{Board, piece_of, promotion_of}

unfoldable pub other : ℕ → ℕ
other zero = 1
other (suc zero) = 0
other (suc (suc n)) = suc (suc n)

unfoldable pub swapped : Bool → ℕ → ℕ
swapped x s = cond x (other s) s

abbrev pub changed_piece : Symmetry → Bool → Piece → Piece
changed_piece m x a = piece_of a.kind (swapped x a.colour) (mapped m a.square)

unfoldable pub changed : Symmetry → Bool → Board → Board
changed m x b = record {
  side = swapped x b.side;
  white = mapped m (cond x b.black b.white);
  black = mapped m (cond x b.white b.black);
  men = map (changed_piece m x) b.men;
}

-- a move on the board under a map; the exchange of colours leaves it as it is
abbrev pub mapped_move : Symmetry → Move → Move
mapped_move m v = promotion_of (mapped m v.from) (mapped m v.to) v.takes v.becomes

-- "no other map is allowed" but the reversal of the files, and "Black's pawn also turns the ranks round" (02, P12)
abbrev pub upright : Symmetry → Bool → Bool
upright m x = not m.swap && beq m.ranks x

-- the change keeps this piece's way of moving
abbrev pub allows : Symmetry → Bool → Piece → Bool
allows m x a = implies (pawn a) (upright m x)

-- and that of every man on the board
unfoldable pub fits : Symmetry → Bool → Board → Bool
fits m x b = all (allows m x) b.men

-- the maps that keep a pawn's direction, by the exchange of colours
abbrev pub keeping : Bool → Bool → Symmetry
keeping f x = record { files = f; ranks = x; swap = false }
