-- `index::arranging::arrange` meets its contract.
use mathlib.Core.Path.{◌∙◌}
use Rattle.index.proofs.laws.ArrangingLaws.{arranged-chosen}
use Rattle.index.proofs.arranging.arrange.Goals as goal

pub returns : goal.returns
returns c =
    c.white_first.ensures
    ∙ arranged-chosen _ _ _ c.man_in-a.ensures c.man_in-c.ensures _ c.goes_after-after.ensures _ _
    c.either.ensures c.either-2.ensures
