-- `rule::is_win` meets its contract.
use mathlib.Core.Path.{refl}
use Rattle.theory.specs.Required.{winning}
use Rattle.byte_rule.proofs.is_win.Goals as goal

pub returns : goal.returns
unfolding winning
returns c = refl
