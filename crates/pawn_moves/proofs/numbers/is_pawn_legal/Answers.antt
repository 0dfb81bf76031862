-- `numbers::is_pawn_legal` meets its contract.
use mathlib.Core.Path.{sym, ◌∙◌}
use Rattle.pawn_moves.proofs.laws.SeatLaws.{seat-shared, seat-quiet}
use Rattle.pawn_moves.proofs.numbers.is_pawn_legal.Goals as goal

pub returns-then-not-used : goal.returns-then-not-used
returns-then-not-used c = seat-shared c.args.q (sym c.is_pawn_used-used.ensures ∙ c.if-not-used.true)

pub returns : goal.returns
returns c =
    seat-quiet c.args.q _ _ (sym c.is_pawn_used-used.ensures ∙ c.if-not-used.false) c.other.ensures
    c.is_checked.ensures
