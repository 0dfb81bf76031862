-- `ends::end_byte` meets its contract.
use mathlib.Core.Path.{sym, ◌∙◌}
use Rattle.pawn_moves.proofs.laws.SeatLaws.{end-check, end_quiet}
use Rattle.pawn_moves.proofs.ends.end_byte.Goals as goal

pub returns-then-is_checked : goal.returns-then-is_checked
returns-then-is_checked c = end-check _ (sym c.is_checked.ensures ∙ c.if-is_checked.true)

pub returns-else-is_checked : goal.returns-else-is_checked
returns-else-is_checked c = end_quiet _ (sym c.is_checked.ensures ∙ c.if-is_checked.false)
