use mathlib.Core.Path.{refl}
use Rattle.move_list.specs.Lists.{list_of}
use Rattle.move_list.proofs.lists.no_moves.Goals as goal

pub returns : goal.returns
unfolding list_of
returns c = refl
