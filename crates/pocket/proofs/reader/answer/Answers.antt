-- `pocket::answer` meets its contract.
use Rattle.std.proofs.Common.{rules}
use Rattle.pocket.specs.Pocket.{entry_tells}
use Rattle.pocket.proofs.reader.answer.Goals as goal

pub returns-in-0 : goal.returns-in-0
unfolding entry_tells
returns-in-0 c = search rules

pub returns-in-1 : goal.returns-in-1
unfolding entry_tells
returns-in-1 c = search rules

pub returns-in-2 : goal.returns-in-2
unfolding entry_tells
returns-in-2 c = search rules

pub returns-in_default : goal.returns-in_default
unfolding entry_tells
returns-in_default c = search rules
