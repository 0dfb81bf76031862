-- `fifty::look_up_at` meets its contract.
use mathlib.Core.Path.{refl}
use mathlib.Core.Bool.{true}
use Rattle.fifty.specs.Marks.{look_up_at}
use Rattle.fifty.proofs.laws.MarkLaws.{marked-found}
use Rattle.fifty.proofs.look_up_at.Goals as goal

pub returns : goal.returns
unfolding look_up_at
returns c = marked-found true true _ _ _ _ refl c.look_up.ensures c.marked_at.ensures
