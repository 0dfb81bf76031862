-- `index::least::number_from` meets its contract.
use native.Mathlib.Omega.{arith}
use Rattle.index.proofs.laws.CornerLaws.{by-pair}
use Rattle.index.proofs.least.number_from.Goals as goal

pub returns : goal.returns
returns c = λ t. by-pair _ _ _ _ _ (c.pair_by.ensures (omega arith) t) c.number_by.ensures
