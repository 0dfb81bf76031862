-- `index::least::least_at` meets its contract.
use mathlib.Core.Path.{◌∙◌}
use Rattle.index.specs.Seats.{least_at}
use Rattle.index.proofs.least.least_at.Goals as goal

pub returns : goal.returns
unfolding least_at
returns c = c.least_of.ensures ∙ rw (c.turned_key.ensures, c.alike.ensures)
