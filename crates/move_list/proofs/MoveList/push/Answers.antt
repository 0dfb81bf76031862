-- `MoveList::push` meets its contract.
use Rattle.std.proofs.Common.{refl}
use Rattle.move_list.proofs.laws.ListLaws.{appended_one}
use Rattle.move_list.proofs.MoveList.push.Goals as goal

pub returns : goal.returns
returns c = appended_one _ _ _ refl
