-- `index::least::packed` meets its contract.
use mathlib.Core.Path.{refl}
use native.Mathlib.Omega.{arith}
use Rattle.index.specs.Least.{packed}
use Rattle.index.proofs.least.packed.Goals as goal

pub returns : goal.returns
unfolding packed
returns c = (refl, omega arith)
