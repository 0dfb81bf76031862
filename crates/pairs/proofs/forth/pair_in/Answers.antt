-- `pairs::pair_in` meets its contract.
use Rattle.pairs.proofs.laws.TableLaws.{in-outside, in-off, in_entry}
use Rattle.pairs.proofs.forth.pair_in.Goals.{then-slot-ge10-via-then-slot-ge10, then-slot-ge10-via-else-slot-ge10+then-black-ge64}
use Rattle.pairs.proofs.forth.pair_in.Goals as goal

pub returns-then-slot-ge10 : goal.returns-then-slot-ge10
returns-then-slot-ge10 c =
    elim c.then-slot-ge10.branch [
      | then-slot-ge10-via-then-slot-ge10 w ↦ in-outside _ _ _ (rw c.slot_of-slot.ensures at w.if-slot-ge10.true)
      | then-slot-ge10-via-else-slot-ge10+then-black-ge64 w ↦
          in-off _ _ _ (rw c.slot_of-slot.ensures at w.if-slot-ge10.false) w.if-black-ge64.true
    ]

pub returns : goal.returns
returns c =
    rw c.slot_of-slot.ensures
    (in_entry _ _ _ (rw c.slot_of-slot.ensures at c.if-slot-ge10.false) c.if-black-ge64.false)
