-- What the laws of the targets of a position's pieces, and the contracts of the code, speak of. Definitions only.
use Rattle.std.specs.Prelude.{◌≡◌, Bool, true, false, ◌&&◌, ℕ, ◌-◌, ◌<◌, T, eqb, Option, Some}
use Rattle.finite.specs.Members.{◌∈◌}
use Rattle.board.specs.Sets.{has, set_of}
use Rattle.rules.specs.declared.Piece.{Piece}
use Rattle.rules.specs.Rules.{Board, pieces, apart, touching, occupied, king, in_check, stands, goes_to, can_move}
use Rattle.position.specs.declared.Position.{Position}
use Rattle.position.specs.Keyed.{board_of, man_in}
use Rattle.position.specs.Over.{men_over, lifted}
use Rattle.position_moves.specs.declared.Movers.{Movers}

-- the piece is of this side and may go to t
abbrev pub goes_by : (ℕ → Bool) → ℕ → ℕ → Piece → Bool
goes_by occ side t m = eqb m.colour side && goes_to occ m t

-- the pieces stand apart on the board, and the kings do not touch
pub record Placed (b : Board) : Type 0 where
  pub side : b.side < 2
  pub on : (m : Piece) → m ∈ pieces b → m.square < 64
  pub apart : T (apart (pieces b))
  pub kings : touching b ≡ false

-- what code has in hand when it comes to a man: the occupied squares, the mover's own, and those of them that foes'
-- men attack with his king lifted
pub record Sight (p : Position) (occ own struck : ℕ) : Type 0 where
  pub placed : Placed (board_of p)
  pub occ-is : occ ≡ set_of (occupied (board_of p))
  pub own_is : own ≡ set_of (stands (board_of p) p.side)
  pub quiet : struck ≡ 0 → (s : ℕ) → s < 64 → stands (board_of p) p.side s ≡ true
      → men_over (lifted (has occ) (king (board_of p) p.side)) (board_of p) (1 - p.side) s ≡ false

-- the man in a slot is one of the position's
abbrev pub Held : Position → Option Piece → Type 0
Held p slot = (m : Piece) → slot ≡ Some m → m ∈ (board_of p).men

-- what is found of a position's movers
pub record MoversOf (p : Position) (r : Movers) : Type 0 where
  pub own : r.own ≡ set_of (stands (board_of p) p.side)
  pub king : r.king ≡ set_of (can_move (board_of p) (king (board_of p) p.side))
  pub first : r.first ≡ set_of (can_move (board_of p) (man_in p.first).square)
  pub second : r.second ≡ set_of (can_move (board_of p) (man_in p.second).square)
  pub check : r.check ≡ in_check (board_of p) (1 - p.side)
