-- Each arm is the list's entry at its square; the last is off the board.
use mathlib.Core.Path.{sym}
use lib.ListN.{get_or-eq_default}
use borrow.Author.Rules.{rules}
use Rattle.constants.specs.EmptyBoard.{bishop_lines}
use Rattle.constants.proofs.laws.MatchLaws.{past}
use Rattle.constants.proofs.empty_board.bishop_lines.Goals as goal

pub returns-in_default : goal.returns-in_default
returns-in_default c =
    sym (get_or-eq_default bishop_lines 0 (past 64 c.args.from c.in_default.in_default-own.rest))
