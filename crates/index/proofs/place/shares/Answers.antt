-- `index::place::shares` meets its contract.
use mathlib.Core.Path.{refl}
use Rattle.index.specs.Seats.{shares}
use Rattle.index.proofs.place.shares.Goals as goal

pub returns : goal.returns
unfolding shares
returns c = refl
