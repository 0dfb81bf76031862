-- `working_back::number_after` meets its contract.
use mathlib.Core.Path.{ap, subst⁻¹, ◌∙◌}
use Rattle.numbering.specs.Number.{number_of}
use Rattle.position.specs.Posed.{board_in}
use Rattle.position.specs.declared.Place.{Place}
use Rattle.index.specs.Seats.{Seated}
use Rattle.working_back.proofs.spared.number_after.Goals as goal

pub spot-requires : goal.spot-requires
spot-requires c = c.requires

pub returns-then-plain : goal.returns-then-plain
returns-then-plain c = λ f w. c.spot.ensures ∙ f c.if-plain.true

pub returns : goal.returns
returns c =
    λ f w.
    let x = c.args in
    let e = c.place_after.ensures in
    c.number_at.ensures (subst⁻¹ (Seated x.m) e w) ∙ ap (λ (p : Place). number_of (board_in x.m p)) e
