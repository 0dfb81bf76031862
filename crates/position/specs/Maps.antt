-- A position under one of the board's eight maps: "A map is a change of a position into a position" (01). Definitions
-- only.
use Rattle.rules.specs.declared.Piece.{Piece}
use Rattle.std.specs.Prelude.{Bool, true, false, None, Option, Some}
use Rattle.symmetry.specs.Symmetry.{Symmetry, mapped}
use Rattle.rules.specs.Rules.{piece_of}
use Rattle.numbering.specs.Normal.{normal_map}
use Rattle.position.specs.declared.Position.{Position}
use Rattle.position.specs.declared.Map.{Map}
use Rattle.position.specs.declared.Normal.{Normal}
use Rattle.position.specs.Keyed.{board_of}
use Rattle.position.specs.Owned.{recoloured}

abbrev pub mapped_slot : Symmetry → Option Piece → Option Piece
mapped_slot m None = None
mapped_slot m (Some a) = Some (piece_of a.kind a.colour (mapped m a.square))

unfoldable pub mapped_position : Symmetry → Position → Position
mapped_position m p = record {
  side = p.side;
  white_king = mapped m p.white_king;
  black_king = mapped m p.black_king;
  first = mapped_slot m p.first;
  second = mapped_slot m p.second;
}

-- the normal position of its class
unfoldable pub normal_position : Position → Position
normal_position p = mapped_position (normal_map (board_of p)) p

-- a position under a map, the colours exchanged or not
abbrev pub changed_position : Symmetry → Bool → Position → Position
changed_position m true p = mapped_position m (recoloured p)
changed_position m false p = mapped_position m p

-- ---- a map as a value of the code

abbrev pub symmetry_of : Map → Symmetry
symmetry_of m = record { files = m.files; ranks = m.ranks; swap = m.swap }

abbrev pub map_of : Symmetry → Map
map_of m = record { files = m.files; ranks = m.ranks; swap = m.swap }

-- no exchange
abbrev pub reversals : Bool → Bool → Symmetry
reversals files ranks = record { files = files; ranks = ranks; swap = false }

-- the normal position with the map that makes it
unfoldable pub normal_of : Position → Normal
normal_of p = record { position = normal_position p; via = map_of (normal_map (board_of p)) }
