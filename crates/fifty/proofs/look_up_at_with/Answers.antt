-- `fifty::look_up_at_with` meets its contract.
use Rattle.fifty.specs.Marks.{look_up_at_with}
use Rattle.fifty.proofs.laws.MarkLaws.{marked-found}
use Rattle.fifty.proofs.look_up_at_with.Goals as goal

pub returns : goal.returns
unfolding look_up_at_with
returns c = marked-found _ _ _ _ _ _ c.is_pawnless.ensures c.look_up_with.ensures c.marked_at.ensures
