-- `successors::number_on` meets its contract.
use Rattle.successors.proofs.laws.FramingLaws.{number-single, number-double}
use Rattle.successors.proofs.framing.number_on.Goals as goal

pub returns-then-single : goal.returns-then-single
returns-then-single c = number-single _ _ _ _ _ _ c.if-single.true c.chosen_digits.ensures

pub returns : goal.returns
returns c = number-double _ _ _ _ _ _ c.if-single.false c.chosen_digits-2.ensures
