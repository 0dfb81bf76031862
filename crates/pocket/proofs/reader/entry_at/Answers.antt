-- `pocket::entry_at` meets its contract.
use mathlib.Core.Path.{refl}
use Rattle.pocket.specs.Pocket.{entry_at}
use Rattle.pocket.proofs.laws.LookUpLaws.{entry-beyond}
use Rattle.pocket.proofs.reader.entry_at.Goals as goal

pub returns-then-pocket-i : goal.returns-then-pocket-i
returns-then-pocket-i c = entry-beyond _ _ c.if-pocket-i.true

pub returns : goal.returns
unfolding entry_at
returns c = refl
