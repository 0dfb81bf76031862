-- `index::flip_of` meets its contract.
use Rattle.std.proofs.Common.{rules}
use Rattle.index.specs.Least.{flip_of}
use Rattle.index.proofs.least.flip_of.Goals as goal

pub returns : goal.returns
unfolding flip_of
returns c = search rules
