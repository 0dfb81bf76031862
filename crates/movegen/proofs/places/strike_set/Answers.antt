-- `movegen::strike_set` meets its contract.
use mathlib.Core.Path.{ap₂, ◌∙◌}
use mathlib.Core.Bool.{◌||◌}
use Rattle.board.proofs.laws.SetLaws.{set-has, has-or}
use Rattle.movegen.proofs.places.strike_set.Goals as goal

pub returns : goal.returns
returns c =
    λ t h. has-or _ _ t
    ∙ ap₂ ◌||◌ (set-has _ c.struck_by.ensures t h) (set-has _ c.struck_by-2.ensures t h)
