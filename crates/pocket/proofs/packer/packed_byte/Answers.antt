-- `pocket::packed_byte` meets its contract.
use Rattle.pocket.proofs.laws.PackLaws.{packed-sum}
use Rattle.pocket.proofs.packer.packed_byte.Goals as goal

pub returns : goal.returns
returns c =
    packed-sum _ _ _ _ _ _ c.entry-a.ensures.0
    c.entry-b.ensures.0 c.entry-c.ensures.0
    c.entry-d.ensures.0
