-- `playing::promoting::promoted_to` meets its contract.
use Rattle.playing.specs.Playing.{promoted_to}
use borrow.Author.Rules.{rules}
use Rattle.playing.proofs.promoting.promoted_to.Goals as goal

pub returns : goal.returns
unfolding promoted_to
returns c = rw (c.slot_becoming.ensures, c.slot_becoming-2.ensures)
