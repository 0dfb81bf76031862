-- `ends::is_checked` meets its contract.
use mathlib.Core.Path.{ap, ◌∙◌}
use Rattle.rules.specs.Rules.{Board, in_check}
use Rattle.position.specs.Keyed.{board_of}
use Rattle.pawn_moves.proofs.laws.SeatLaws.{posed-board}
use Rattle.pawn_moves.proofs.ends.is_checked.Goals as goal

pub returns : goal.returns
returns c =
    c.in_check.ensures ∙ ap (λ (b : Board). in_check b c.args.side)
    (ap board_of c.lone.ensures ∙ posed-board c.args.q)
