use mathlib.Core.Path.{sym, ◌∙◌}
use Rattle.finite.specs.Truth.{eqb-sym}
use Rattle.board.proofs.laws.SetLaws.{has-none, set-has}
use Rattle.position.proofs.laws.Pieces.{ne-and, eq-and}
use Rattle.position.proofs.occupancy.own_square.Goals as goal

pub returns-then-m-colour : goal.returns-then-m-colour
returns-then-m-colour c = λ t h. has-none t ∙ sym (ne-and _ _ _ c.if-m-colour.true)

pub returns : goal.returns
returns c = λ t h. set-has _ c.one.ensures t h ∙ eqb-sym t _ ∙ sym (eq-and _ _ _ c.if-m-colour.false)
