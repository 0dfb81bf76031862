-- What checking promises of its answer. Definitions only.
use Rattle.std.specs.Prelude.{◌≡◌, ◌↔◌, List, ℕ, ◌<◌, length, Ok, Result}
use Rattle.answers.specs.declared.Checked.{Checked}
use Rattle.endings.specs.Ending.{table_size}
use Rattle.endings.specs.Truth.{TrueTable}
use Rattle.endings.specs.Answers.{check_of}

-- Its answer by its definition, on any input, and beside it what is true of it: "it accepts exactly the true table".
pub record CheckPromise (kind : ℕ) (t : List ℕ) (answer : Result Checked ℕ) : Type 0 where
  pub answered : answer ≡ check_of kind t
  pub true-only : (answer ≡ Ok Checked.Accepted) ↔ ((kind < 4) × (length t ≡ table_size) × TrueTable kind t)
