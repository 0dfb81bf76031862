-- The move list: 62 places by value beside the count, "and its unused places hold zero" (01). Definitions only.
use Rattle.std.specs.Prelude.{List, ◌++◌, ℕ, ◌-◌, length, replicate}
use Rattle.rules.specs.declared.Move.{Move}
use Rattle.rules.specs.Rules.{zero_move}
use Rattle.move_list.specs.declared.MoveList.{MoveList}

-- "The move list's room rises from 35 to 62" (02, P10)
abbrev pub room : ℕ
room = 62

-- the list of some moves, at most `room`: the moves, then zeros
unfoldable pub list_of : List Move → MoveList
list_of ms = record { moves = ms ++ replicate (room - length ms) zero_move; count = length ms }
