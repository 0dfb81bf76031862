-- `position::men_set` meets its contract.
use mathlib.Core.Path.{◌∙◌}
use Rattle.board.specs.Sets.{has}
use Rattle.board.proofs.laws.SetLaws.{has-or}
use Rattle.position.proofs.laws.MenOver.{men-slots}
use Rattle.position.proofs.attack.men_set.Goals as goal

pub returns : goal.returns
returns c =
    let x = c.args in
    λ t h. has-or _ _ t
    ∙ men-slots x.p (has x.occ) x.colour t _ _ (c.slot_set.ensures t h) (c.slot_set-2.ensures t h)
