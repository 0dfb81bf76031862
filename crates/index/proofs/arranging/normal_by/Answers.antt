-- `index::arranging::normal_by` meets its contract.
use Rattle.index.specs.Arranging.{normal_by}
use Rattle.index.proofs.arranging.normal_by.Goals as goal

pub returns : goal.returns
unfolding normal_by
returns c = rw (c.place_from-place.ensures, c.lesser.ensures)
