-- `index::least::place_from` meets its contract.
use Rattle.index.specs.Seats.{place_from}
use Rattle.index.proofs.least.place_from.Goals as goal

pub returns : goal.returns
unfolding place_from
returns c = rw c.second_from.ensures
