-- `successors::men_digits` meets its contract.
use Rattle.successors.proofs.laws.FramingLaws.{cond_yes, cond_no}
use Rattle.successors.proofs.framing.men_digits.Goals as goal

pub returns-then-y-x : goal.returns-then-y-x
returns-then-y-x c = cond_yes _ _ _ c.if-y-x.true

pub returns : goal.returns
returns c = cond_no _ _ _ c.if-y-x.false
