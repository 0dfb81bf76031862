-- `check_digits::is_right` meets its contract.
use mathlib.Core.Path.{refl}
use Rattle.check_digits.specs.Check.{right_number}
use Rattle.check_digits.proofs.is_right.Goals as goal

pub returns : goal.returns
unfolding right_number
returns c = refl
