-- `working_back::number_before` meets its contract.
use mathlib.Core.Path.{◌∙◌}
use mathlib.Core.List.{[]}
use Rattle.working_back.proofs.laws.Sources.{number-of-source}
use Rattle.working_back.proofs.trying.number_before.Goals as goal

pub spot-requires : goal.spot-requires
spot-requires c = c.requires

pub returns-then-plain : goal.returns-then-plain
returns-then-plain c = λ l f. c.spot.ensures ∙ f.serves _ l c.if-plain.true

pub returns : goal.returns
returns c =
    λ l f.
    let x = c.args in
    number-of-source x.m [] [] 0 x.q x.taken x.to x.s _ l _ c.place_before.ensures c.number_at.ensures
