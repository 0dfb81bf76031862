-- `index::position_of` meets its contract: one man is an instance.
use mathlib.Core.Path.{◌∙◌}
use Rattle.index.proofs.laws.AloneLaws.{placed-alone}
use Rattle.index.proofs.position_of.Goals as goal

pub returns : goal.returns
returns c = c.position_with.ensures ∙ placed-alone _ _
