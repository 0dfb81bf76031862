-- The answers of the move list and of the count, of one man and of two, on any bytes (01, "When the desk says no").
-- Definitions only.
use Rattle.std.specs.Prelude.{◌≡◌, cond, List, [], ℕ, eqb, length, Err, Ok, Result}
use Rattle.rules.specs.declared.Move.{Move}
use Rattle.rules.specs.Rules.{moves}
use Rattle.position.specs.declared.Position.{Position}
use Rattle.position.specs.Keyed.{board_of}
use Rattle.position.specs.Refusals.{standing_with}
use Rattle.desk_refusals.specs.declared.Refusal.{Refusal}
use Rattle.desk_refusals.specs.Numbers.{number_of}
use Rattle.move_list.specs.declared.MoveList.{MoveList}
use Rattle.move_list.specs.Lists.{list_of}

-- the legal moves of a position as keyed; none where it is refused
unfoldable pub moves_of : Position → List Move
moves_of p = cond (eqb (standing_with p) 0) (moves (board_of p)) []

-- refusal 0 and the moves, or a refusal and a list that is all zero
pub record Listed : Type 0 where
  pub refusal : ℕ
  pub list : MoveList

abbrev pub listed_as : Result MoveList Refusal → Listed
listed_as (Ok l) = record { refusal = 0; list = l }
listed_as (Err r) = record { refusal = number_of r; list = list_of [] }

-- "A refusal gives its number and nothing else; any other field is zero" (01)
unfoldable pub listed : Position → Listed
listed p = record { refusal = standing_with p; list = list_of (moves_of p) }

unfoldable pub count_answer : Position → Result ℕ ℕ
count_answer p = cond (eqb (standing_with p) 0) (Ok (length (moves (board_of p)))) (Err (standing_with p))

-- 01's number and value for each case of the answer
pub record Values : Type 0 where
  pub refusal : ℕ
  pub count : ℕ

abbrev pub values_of : Result ℕ ℕ → Values
values_of (Ok n) = record { refusal = 0; count = n }
values_of (Err k) = record { refusal = k; count = 0 }

-- the promise of the count: the case, and its number and value
pub record Counts (p : Position) (r : Result ℕ ℕ) : Type 0 where
  pub answer : r ≡ count_answer p
  pub refusal : (values_of r).refusal ≡ standing_with p
  pub count : (values_of r).count ≡ length (moves_of p)
