-- `successors::earlier` meets its contract.
use Rattle.successors.proofs.laws.ChoiceLaws.{earlier-second, earlier-first}
use Rattle.successors.proofs.choosing.earlier.Goals as goal

pub returns-then-b-a : goal.returns-then-b-a
returns-then-b-a c = earlier-second _ _ c.if-b-a.true

pub returns-else-b-a : goal.returns-else-b-a
returns-else-b-a c = earlier-first _ _ c.if-b-a.false
