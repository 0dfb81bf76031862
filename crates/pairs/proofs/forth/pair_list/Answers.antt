-- `pairs::pair_list` meets its contract: the code's list is the definition's.
use mathlib.Core.Path.{refl}
use Rattle.pairs.specs.Tables.{pairs}
use Rattle.pairs.proofs.forth.pair_list.Goals as goal

pub returns : goal.returns
unfolding pairs
returns c = refl
