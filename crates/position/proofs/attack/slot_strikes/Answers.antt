-- `position::slot_strikes` meets its contract.
use mathlib.Core.Path.{sym, ◌∙◌}
use Rattle.position.proofs.laws.Pieces.{ne-and, eq-and}
use Rattle.position.proofs.laws.MenOver.{any-absent, any-present}
use Rattle.position.proofs.attack.slot_strikes.Goals as goal

pub returns-in-None : goal.returns-in-None
returns-in-None c = any-absent _ _ c.in-None.is

pub returns-then-m-colour : goal.returns-then-m-colour
returns-then-m-colour c =
    c.man_strikes.ensures
    ∙ sym (eq-and _ _ _ c.if-m-colour.true)
    ∙ any-present _ _ _ c.in-Some.is

pub returns-else-m-colour : goal.returns-else-m-colour
returns-else-m-colour c = sym (ne-and _ _ _ c.if-m-colour.false) ∙ any-present _ _ _ c.in-Some.is
