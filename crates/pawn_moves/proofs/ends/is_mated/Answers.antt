-- `ends::is_mated` meets its contract.
use mathlib.Core.Path.{sym, ◌∙◌}
use Rattle.pawn_moves.proofs.laws.SeatLaws.{quiet-mated, stuck-mated}
use Rattle.pawn_moves.proofs.ends.is_mated.Goals as goal

pub returns-then-not-is_checked : goal.returns-then-not-is_checked
returns-then-not-is_checked c = quiet-mated c.args.q (sym c.is_checked.ensures ∙ c.if-not-is_checked.true)

pub returns : goal.returns
returns c =
    stuck-mated c.args.q _ (sym c.is_checked.ensures ∙ c.if-not-is_checked.false) c.is_stuck.ensures
