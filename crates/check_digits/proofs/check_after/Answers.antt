use Rattle.std.proofs.Common.{rules}
use Rattle.check_digits.specs.Check.{check_after}
use Rattle.check_digits.proofs.check_after.Goals as goal

pub returns : goal.returns
unfolding check_after
returns c = search rules
