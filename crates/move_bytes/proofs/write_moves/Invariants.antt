-- `move_bytes::write_moves` meets its contract: what is stored, with the moves of the rest behind it, is the moves of all.
use mathlib.Core.List.{flat_map}
use Rattle.board.specs.Sets.{members}
use Rattle.rules.specs.Rules.{moves_from, all_moves}
use Rattle.position.specs.Keyed.{board_of}
use Rattle.move_bytes.proofs.laws.StoreLaws.{Left}
use Rattle.move_bytes.proofs.write_moves.Given as goal

abbrev pub invariant-loop-from : goal.invariant-loop-from
invariant-loop-from l = Left l.initial.bytes 0 (all_moves (board_of l.p)) l.bytes l.count (flat_map (moves_from (board_of l.p)) (members l.from-iterator.left))
