-- `successors::byte_made` meets its contract.
use Rattle.successors.proofs.laws.ByteLaws.{byte-moved}
use Rattle.successors.proofs.after.byte_made.Goals as goal

pub returns : goal.returns
returns c = λ w t. byte-moved _ _ w _ _ _ _ _ _ _ t c.place_after.ensures c.byte_in.ensures
