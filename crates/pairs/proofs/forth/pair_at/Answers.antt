-- `pairs::pair_at` meets its contract: the packed words hold the list.
use Rattle.pairs.proofs.laws.TableLaws.{entry-packed}
use Rattle.pairs.proofs.forth.pair_at.Goals as goal

pub returns : goal.returns
returns c = rw c.four_pairs.ensures (entry-packed c.args.i c.requires)
