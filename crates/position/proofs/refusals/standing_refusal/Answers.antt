-- `position::standing_refusal` meets its contract.
use mathlib.Core.Path.{sym, ap, ◌∙◌}
use Rattle.position.specs.Refusals.{or_in_check, standing_refusal}
use Rattle.position.proofs.laws.Unrefused.{placing-kings}
use Rattle.position.proofs.refusals.standing_refusal.Goals as goal

pub returns : goal.returns
unfolding standing_refusal
returns c =
    c.or_in_check.ensures (λ z. placing-kings _ (sym c.placing_refusal.ensures ∙ z))
    ∙ ap (or_in_check c.args.p) c.placing_refusal.ensures
