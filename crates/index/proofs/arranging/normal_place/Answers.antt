-- `index::arranging::normal_place` meets its contract.
use mathlib.Core.Path.{refl, ap, subst⁻¹, ◌∙◌}
use Rattle.index.specs.Arranging.{normal_as, Normalises}
use Rattle.index.proofs.laws.NormalPlaceLaws.{normal-found}
use Rattle.index.proofs.laws.PawnLaws.{pieces-told}
use Rattle.index.proofs.arranging.normal_place.Goals as goal

pub returns : goal.returns
returns c =
    λ z n.
    let p = c.args.p in
    subst⁻¹ (Normalises p) (c.normal_of.ensures ∙ ap normal_as c.arrange-a.ensures)
    (normal-found p (pieces-told p _ refl n z) z)
