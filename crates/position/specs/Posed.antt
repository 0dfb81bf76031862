-- An ending's men and a place, as a position: how the loops over successors hold one. Definitions only.
use Rattle.rules.specs.declared.Piece.{Piece}
use Rattle.std.specs.Prelude.{◌≡◌, cond, ℕ, ◌<◌, T, leb, eqb, None, Option, Some}
use Rattle.rules.specs.Rules.{Board, piece_of}
use Rattle.numbering.specs.declared.Material.{Material}
use Rattle.numbering.specs.Material.{known, one_of, OfMaterial}
use Rattle.position.specs.declared.Position.{Position}
use Rattle.position.specs.declared.Men.{Men}
use Rattle.position.specs.declared.Place.{Place}
use Rattle.position.specs.Keyed.{board_of}
use Rattle.position.specs.Refusals.{placing_with}

-- a man on a square; none where it is off the board
abbrev pub slot_at : ℕ → ℕ → ℕ → Option Piece
slot_at kind colour square = cond (leb 64 square) None (Some (piece_of kind colour square))

unfoldable pub posed : Men → Place → Position
posed m q = record {
  side = q.side;
  white_king = q.white;
  black_king = q.black;
  first = slot_at m.first 0 q.first;
  second = slot_at m.second m.colour q.second;
}

-- the board it stands for
abbrev pub board_in : Men → Place → Board
board_in m q = board_of (posed m q)

-- the material of these men
abbrev pub material_for : Men → Material
material_for m = cond (leb 4 m.second) (one_of m.first) (Material.Two m.first m.second (eqb m.colour 1))

-- all the men of an ending are there, and 1 to 5 do not refuse the position
pub record Complete (m : Men) (q : Place) : Type 0 where
  pub ending : T (known (material_for m))
  pub colour : m.colour < 2
  pub men : OfMaterial (material_for m) (board_in m q)
  pub placed : placing_with (posed m q) ≡ 0
