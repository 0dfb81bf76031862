-- `lists::moves_of` meets its contract: the list, with the moves of the rest behind it, is the list of all moves.
use mathlib.Core.List.{[], flat_map}
use Rattle.board.specs.Sets.{members}
use Rattle.rules.specs.Rules.{moves_from, all_moves}
use Rattle.position.specs.Keyed.{board_of}
use Rattle.move_list.specs.Lists.{list_of}
use Rattle.move_list.proofs.laws.ListLaws.{Rest}
use Rattle.move_list.proofs.lists.moves_of.Given as goal

abbrev pub invariant-loop-from : goal.invariant-loop-from
invariant-loop-from l =
    Rest (list_of []) l.list (all_moves (board_of l.p)) (flat_map (moves_from (board_of l.p)) (members l.from-iterator.left))
