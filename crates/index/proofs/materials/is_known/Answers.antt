-- `index::materials::is_known` meets its contract.
use mathlib.Core.Path.{sym, ap}
use Rattle.numbering.specs.Material.{known}
use Rattle.index.proofs.materials.is_known.Goals as goal

pub returns-in-One : goal.returns-in-One
returns-in-One c = sym (ap known c.in-One.is)

pub returns-in-Two : goal.returns-in-Two
returns-in-Two c = sym (ap known c.in-Two.is)
