-- `pairs::count_before` meets its contract.
use mathlib.Core.Path.{refl}
use Rattle.pairs.proofs.laws.RowLaws.{part-ones, bit-some}
use Rattle.pairs.proofs.rows.count_before.Goals as goal

pub nonzero_rem-result : goal.nonzero_rem-result
nonzero_rem-result c = bit-some _ c.requires

pub returns : goal.returns
returns c = (refl, part-ones _ _ c.ranges.row.fits)
