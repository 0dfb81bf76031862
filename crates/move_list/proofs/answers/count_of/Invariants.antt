-- `answers::count_of` meets its contract: the count and the moves of the rest make up all moves.
use Rattle.std.proofs.Common.{◌≡◌, ◌+◌, length}
use mathlib.Core.List.{flat_map}
use Rattle.board.specs.Sets.{members}
use Rattle.rules.specs.Rules.{moves_from, all_moves}
use Rattle.position.specs.Keyed.{board_of}
use Rattle.move_list.proofs.answers.count_of.Given as goal

abbrev pub invariant-loop-from : goal.invariant-loop-from
invariant-loop-from l = l.count + length (flat_map (moves_from (board_of l.p)) (members l.from-iterator.left)) ≡ length (all_moves (board_of l.p))
