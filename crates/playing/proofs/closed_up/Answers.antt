-- `playing::closed_up` meets its contract: with a first man nothing changes.
use Rattle.playing.proofs.laws.PlayLaws.{closes, stays_closed}
use borrow.Author.Rules.{rules}
use Rattle.playing.proofs.closed_up.Goals as goal

pub returns-in-None : goal.returns-in-None
returns-in-None c = closes _ c.in-None.is

pub returns-in-Some : goal.returns-in-Some
returns-in-Some c = stays_closed _ _ c.in-Some.is
