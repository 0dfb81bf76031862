-- `successors::byte_at` meets its contract.
use Rattle.successors.proofs.laws.PlaceLaws.{remains}
use Rattle.successors.proofs.laws.ByteLaws.{all_there, own-seated, byte-own}
use Rattle.successors.proofs.after.byte_at.Goals as goal

pub returns : goal.returns
returns c =
    λ w first second. let r = remains _ _ w in
    byte-own _ _ r first second _ (all_there _ _ w) _ _ (c.number_at.ensures (own-seated _ _ r (all_there _ _ w)))
    c.read.ensures
