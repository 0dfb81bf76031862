-- `index::least::number_at` meets its contract.
use mathlib.Core.Path.{refl}
use Rattle.index.proofs.laws.KeyLaws.{number-by-key}
use Rattle.index.proofs.least.number_at.Goals as goal

pub returns : goal.returns
returns c s =
    number-by-key _ _ s _ _ _ _ _ refl c.alike.ensures refl c.key_at.ensures.0
    c.number_keyed.ensures
