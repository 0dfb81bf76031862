-- `Position::white_owned` meets its contract: the colours exchanged, or not.
use mathlib.Core.Path.{sym, ◌∙◌}
use Rattle.position.proofs.laws.OwnerLaws.{owned-black, owned-white}
use Rattle.position.proofs.Position.white_owned.Goals as goal

pub returns-then-m-eq1 : goal.returns-then-m-eq1
returns-then-m-eq1 c = c.recoloured.ensures ∙ sym (owned-black _ _ c.man_in-m.ensures c.if-m-eq1.true)

pub returns : goal.returns
returns c = sym (owned-white _ _ c.man_in-m.ensures c.if-m-eq1.false)
