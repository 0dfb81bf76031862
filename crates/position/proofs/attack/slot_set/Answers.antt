-- `position::slot_set` meets its contract.
use mathlib.Core.Path.{◌∙◌}
use Rattle.board.proofs.laws.SetLaws.{has-none}
use Rattle.position.proofs.laws.MenOver.{any-absent, any-present}
use Rattle.position.proofs.attack.slot_set.Goals as goal

pub returns-in-None : goal.returns-in-None
returns-in-None c = λ t h. has-none t ∙ any-absent _ _ c.in-None.is

pub returns-in-Some : goal.returns-in-Some
returns-in-Some c = λ t h. c.strike_set.ensures t h ∙ any-present _ _ _ c.in-Some.is
