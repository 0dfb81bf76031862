-- `search::won_within` and `search::lost_within`, which call each other. The measure is the plies. The loops' invariants:
-- the test over the moves that are left gives what it gives over all moves.
use Rattle.std.proofs.Common.{◌≡◌}
use Rattle.finite.specs.Members.{any, all}
use Rattle.theory.specs.Value.{won, lost}
use Rattle.rules.specs.Chess.{chess}
use Rattle.position.specs.Keyed.{board_of}
use Rattle.search.specs.Tried.{Pawnless, moves_on, moves_left, losing, winning}
use Rattle.search.proofs.within.+lost_within_won_within.Given as goal

abbrev pub decreases-lost_within : goal.decreases-lost_within
decreases-lost_within l = l.k

abbrev pub decreases-won_within : goal.decreases-won_within
decreases-won_within l = l.k

abbrev pub invariant-lost_within-loop-to : goal.invariant-lost_within-loop-to
invariant-lost_within-loop-to l = Pawnless (board_of l.s)
    → all (winning l.k (board_of l.s)) (moves_left (board_of l.s) l.from l.to-iterator.left l.from-iterator.left) ≡ lost chess l.k (board_of l.s)

abbrev pub invariant-lost_within-loop-from : goal.invariant-lost_within-loop-from
invariant-lost_within-loop-from l =
    Pawnless (board_of l.s) → all (winning l.k (board_of l.s)) (moves_on (board_of l.s) l.from-iterator.left) ≡ lost chess l.k (board_of l.s)

abbrev pub invariant-won_within-loop-to : goal.invariant-won_within-loop-to
invariant-won_within-loop-to l = Pawnless (board_of l.s)
    → any (losing l.k (board_of l.s)) (moves_left (board_of l.s) l.from l.to-iterator.left l.from-iterator.left) ≡ won chess l.k (board_of l.s)

abbrev pub invariant-won_within-loop-from : goal.invariant-won_within-loop-from
invariant-won_within-loop-from l =
    Pawnless (board_of l.s) → any (losing l.k (board_of l.s)) (moves_on (board_of l.s) l.from-iterator.left) ≡ won chess l.k (board_of l.s)
