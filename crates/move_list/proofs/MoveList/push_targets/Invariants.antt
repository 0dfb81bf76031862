-- `MoveList::push_targets` meets its contract: what is stored, with the rest stored behind it, is what is to be stored.
use Rattle.board.specs.Sets.{members}
use Rattle.move_list.specs.ListLaws.{targets_moves}
use Rattle.move_list.proofs.laws.ListLaws.{Rest}
use Rattle.move_list.proofs.MoveList.push_targets.Given as goal

abbrev pub invariant-loop-to : goal.invariant-loop-to
invariant-loop-to l =
    Rest l.initial.self l.self (targets_moves l.foes l.ends l.from (members l.targets)) (targets_moves l.foes l.ends l.from (members l.to-iterator.left))
