-- The second opinion on a position as keyed (02, P7): "For k from 0 to 6 it answers the exact depth if at most k, else 'not within k'; a larger
-- k is refusal 16, and 1 to 6 are asked too." Definitions only.
use Rattle.std.specs.Prelude.{Bool, cond, ◌||◌, ℕ, suc, ◌%◌, eqb, leb, Err, Ok, Result}
use Rattle.finite.specs.Lowest.{lowest}
use Rattle.theory.specs.Value.{won, lost}
use Rattle.rules.specs.Rules.{Board}
use Rattle.rules.specs.Chess.{chess}
use Rattle.position.specs.declared.Position.{Position}
use Rattle.position.specs.Keyed.{board_of}
use Rattle.position.specs.Refusals.{standing_refusal}
use Rattle.search.specs.declared.Opinion.{Opinion}

-- the most plies that may be asked
abbrev pub most : ℕ
most = 6

-- what the code asks at depth n: a win where n is odd, a loss where it is even (`asked-all`: that misses nothing)
abbrev pub asked_in : Board → ℕ → Bool
asked_in b n = cond (eqb (n % 2) 1) (won chess n b) (lost chess n b)

-- won within n plies, or lost
unfoldable pub decided_in : Board → ℕ → Bool
decided_in b n = won chess n b || lost chess n b

-- the least n up to k in which the board is decided; k + 1 where there is none
unfoldable pub least_depth : Board → ℕ → ℕ
least_depth b k = lowest (decided_in b) (suc k)

-- the exact depth if at most k
unfoldable pub searched : Board → ℕ → Result Opinion ℕ
searched b k =
    let n = least_depth b k in
    cond (leb n k) (cond (won chess n b) (Ok (Opinion.Win n)) (Ok (Opinion.Loss n))) (Ok Opinion.NotWithin)

unfoldable pub opinion_of : Position → ℕ → Result Opinion ℕ
opinion_of p k =
    cond (eqb (standing_refusal p) 0)
    (cond (leb k most) (searched (board_of p) k) (Err 16))
    (Err (standing_refusal p))

-- The number and values of each case of the answer: the refusal's number, or 0; the value (win 1, loss 2, not within k 4), or 0 with a
-- refusal; the depth in plies, or 0 where none is told.
pub record Values : Type 0 where
  pub refusal : ℕ
  pub value : ℕ
  pub depth : ℕ

abbrev pub values_of : Result Opinion ℕ → Values
values_of (Ok (Opinion.Win n)) = record { refusal = 0; value = 1; depth = n }
values_of (Ok (Opinion.Loss n)) = record { refusal = 0; value = 2; depth = n }
values_of (Ok Opinion.NotWithin) = record { refusal = 0; value = 4; depth = 0 }
values_of (Err r) = record { refusal = r; value = 0; depth = 0 }
