-- `index::least::transposed_key` meets its contract.
use mathlib.Core.Path.{refl}
use Prim.Native.Nat.{◌/◌}
use native.Mathlib.Omega.{arith}
use lib.Bits.{and_le_r}
use Rattle.index.specs.Least.{transposed_key}
use Rattle.index.proofs.least.transposed_key.Goals as goal

pub overflow_mul-result : goal.overflow_mul-result
overflow_mul-result c = omega (arith, and_le_r c.args.k 1864135)

pub overflow_add-result : goal.overflow_add-result
overflow_add-result c = omega (arith, and_le_r (c.args.k / 8) 1864135, and_le_r c.args.k 1864135)

pub returns : goal.returns
unfolding transposed_key
returns c = refl
