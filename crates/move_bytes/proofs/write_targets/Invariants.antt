-- `move_bytes::write_targets` meets its contract: what is stored, with the rest stored behind it, is what is to be stored.
use Rattle.board.specs.Sets.{members}
use Rattle.move_list.specs.ListLaws.{targets_moves}
use Rattle.move_bytes.proofs.laws.StoreLaws.{Left}
use Rattle.move_bytes.proofs.write_targets.Given as goal

abbrev pub invariant-loop-to : goal.invariant-loop-to
invariant-loop-to l =
    Left l.initial.bytes l.first (targets_moves l.foes l.ends l.from (members l.targets)) l.bytes l.at (targets_moves l.foes l.ends l.from (members l.to-iterator.left))
