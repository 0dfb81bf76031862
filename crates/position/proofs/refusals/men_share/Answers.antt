-- `position::men_share` meets its contract.
use Rattle.std.specs.Prelude.{Option}
use Rattle.rules.specs.declared.Piece.{Piece}
use mathlib.Core.Path.{sym, ap, ◌∙◌}
use Rattle.position.specs.Refusals.{slots_share}
use Rattle.position.proofs.refusals.men_share.Goals as goal

pub returns-in-Some : goal.returns-in-Some
returns-in-Some c =
    c.is_on.ensures
    ∙ sym (ap (λ (f : Option Piece). slots_share f c.args.second)
    c.in-Some.is)
