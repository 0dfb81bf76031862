-- `move_list::is_pawn` meets its contract.
use mathlib.Core.Path.{sym, ap}
use Rattle.move_list.specs.Counting.{slot_pawn}
use Rattle.move_list.proofs.promoting.is_pawn.Goals as goal

pub returns-in-Some : goal.returns-in-Some
returns-in-Some c = sym (ap slot_pawn c.in-Some.is)
