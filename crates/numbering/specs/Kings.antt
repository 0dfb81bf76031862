-- Kings as the rule for numbers wants them, and the number of their pair (01, "The number of a position"). Definitions
-- only.
use Rattle.std.specs.Prelude.{Bool, false, not, cond, ◌&&◌, ℕ, ◌+◌, ◌*◌, ◌/◌, ◌%◌, ltb, eqb}
use Rattle.finite.specs.Truth.{implies}
use Rattle.finite.specs.Ranked.{rank, select}
use Rattle.board.specs.Reach.{reaches}

-- "Above the diagonal means rank greater than file" (01); so is every number off the board
abbrev pub above : ℕ → Bool
above s = ltb (s % 8) (s / 8)

abbrev pub on_diagonal : ℕ → Bool
on_diagonal s = eqb (s % 8) (s / 8)

-- "a1-d1-d4 (file at most d, rank not above file)"
abbrev pub in_triangle : ℕ → Bool
in_triangle s = ltb (s % 8) 4 && not (above s)

-- the white king in the triangle; "if he is on the diagonal, the black king is not above it"
unfoldable pub cornered : ℕ → ℕ → Bool
cornered white black = in_triangle white && implies (on_diagonal white) (not (above black))

-- the kings stand on two squares of the board and do not touch
unfoldable pub separate : ℕ → ℕ → Bool
separate white black = ltb white 64 && ltb black 64 && not (eqb white black) && not (reaches (λ s. false) 5 white black)

-- the kings' part of the rule for numbers
unfoldable pub king_rule : ℕ → ℕ → Bool
king_rule white black = cornered white black && separate white black

-- two squares as one number: "in rising order of white king's square, then black king's"
unfoldable pub king_pair : ℕ → Bool
king_pair k = king_rule (k / 64) (k % 64)

-- "Kings then form 462 pairs", numbered in that order; 65535 where the two squares form none
unfoldable pub pair_of : ℕ → ℕ → ℕ
pair_of white black = cond (king_rule white black) (rank king_pair (white * 64 + black)) 65535

-- the kings of a pair, as white king's square x 64 + black king's; 0 where there is no such pair
unfoldable pub kings_of : ℕ → ℕ
kings_of pair = select king_pair 4096 pair
