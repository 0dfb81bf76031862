-- `successors::seen_from` meets its contract.
use Rattle.successors.proofs.laws.ChoiceLaws.{seen_none, seen-lowest}
use Rattle.successors.proofs.choosing.seen_from.Goals as goal

pub returns-then-set-eq0 : goal.returns-then-set-eq0
returns-then-set-eq0 c = seen_none _ _ c.if-set-eq0.true

pub returns : goal.returns
returns c = seen-lowest _ _ _ c.if-set-eq0.false c.lowest.ensures
