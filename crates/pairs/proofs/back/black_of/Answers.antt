-- `pairs::black_of` meets its contract.
use Rattle.pairs.proofs.back.black_of.Goals as goal

pub returns : goal.returns
returns c = rw c.eight_blacks.ensures
