-- `movegen::slot_goes` meets its contract.
use mathlib.Core.Path.{sym, ◌∙◌}
use Rattle.board.proofs.laws.SetLaws.{has-none}
use Rattle.position.proofs.laws.Pieces.{ne-and, eq-and}
use Rattle.position.proofs.laws.MenOver.{any-absent, any-present}
use Rattle.position_moves.proofs.in_position.slot_goes.Goals as goal

pub returns-in-None : goal.returns-in-None
returns-in-None c = λ t h. has-none t ∙ any-absent _ _ c.in-None.is

pub returns-then-m-side : goal.returns-then-m-side
returns-then-m-side c =
    λ t h. c.goes_to.ensures t h
    ∙ sym (eq-and _ _ _ c.if-m-side.true)
    ∙ any-present _ _ _ c.in-Some.is

pub returns-else-m-side : goal.returns-else-m-side
returns-else-m-side c =
    λ t h. has-none t ∙ sym (ne-and _ _ _ c.if-m-side.false) ∙ any-present _ _ _ c.in-Some.is
