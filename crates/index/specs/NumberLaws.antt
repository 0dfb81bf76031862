-- Positions of one class. Definitions only.
use Rattle.std.specs.Prelude.{◌≡◌}
use Rattle.numbering.specs.Change.{Change, changed_by}
use Rattle.position.specs.declared.Position.{Position}
use Rattle.position.specs.Keyed.{board_of}

-- a change makes the first into the second: one of the eight maps, the colours exchanged or not, and with them the
-- kings and the side to move
abbrev pub SameClass : Position → Position → Type 0
SameClass p q = (s : Change) × (board_of q ≡ changed_by s (board_of p))
