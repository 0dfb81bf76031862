-- What checking promises of its answer, for one man and for two. Definitions only.
use Rattle.std.specs.Prelude.{◌≡◌, false, ◌↔◌, List, ℕ, T, Err, Ok, Result}
use Rattle.answers.specs.declared.Checked.{Checked}
use Rattle.numbering.specs.declared.Material.{Material}
use Rattle.numbering.specs.Material.{given}
use Rattle.four_men.specs.Lending.{Lent}
use Rattle.four_men.specs.Answers.{lengths_fit, lent_accepted, check_with}
use Rattle.four_men.specs.Truth.{TrueTableOf}

-- Its answer by its definition, on any input, and beside it what is true of it: it accepts exactly the true table, and
-- 17 is given exactly where "one of these is not accepted by the checker", 1 and 7 not refusing.
pub record CheckPromiseWith (m : Material) (l : Lent) (t : List ℕ) (answer : Result Checked ℕ) : Type 0 where
  pub answered : answer ≡ check_with m l t
  pub true-only : (answer ≡ Ok Checked.Accepted)
      ↔ (T (given m) × T (lengths_fit m l t) × T (lent_accepted m l) × TrueTableOf m t)
  pub not-accepted : (answer ≡ Err 17) ↔ (T (given m) × T (lengths_fit m l t) × (lent_accepted m l ≡ false))
