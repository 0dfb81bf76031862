-- `position::standing_with` meets its contract.
use mathlib.Core.Path.{sym, ap, ◌∙◌}
use Rattle.position.specs.Refusals.{or_in_check, standing_with}
use Rattle.position.proofs.laws.Unrefused.{placed-kings-with}
use Rattle.position.proofs.refusals.standing_with.Goals as goal

pub returns : goal.returns
unfolding standing_with
returns c =
    c.or_in_check.ensures (λ z. placed-kings-with _ (sym c.placing_with.ensures ∙ z))
    ∙ ap (or_in_check c.args.p) c.placing_with.ensures
