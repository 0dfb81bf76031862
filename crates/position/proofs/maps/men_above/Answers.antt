-- `position::men_above` meets its contract.
use mathlib.Core.Path.{◌∙◌}
use Rattle.position.proofs.laws.MapLaws.{none_above, next-above, first-above}
use Rattle.position.proofs.maps.men_above.Goals as goal

pub returns-then-m : goal.returns-then-m
returns-then-m c =
    c.is_above-then-m.ensures
    ∙ next-above _ c.args.second _
    c.in-Some.is c.if-m.true

pub returns-in-None : goal.returns-in-None
returns-in-None c = c.is_above.ensures ∙ none_above _ c.args.second c.in-None.is

pub returns-else-m : goal.returns-else-m
returns-else-m c =
    first-above _ c.args.second _
    c.in-Some.is c.if-m.false
