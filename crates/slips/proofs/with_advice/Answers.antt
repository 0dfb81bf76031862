-- `slips::with_advice` meets its contract: the move's squares and mark, or nothing.
use Rattle.slips.specs.Slip.{advice_text}
use Rattle.slips.specs.Appending.{appended}
use Rattle.slips.proofs.laws.Appending.{then}
use borrow.Author.Rules.{rules}
use Rattle.slips.proofs.with_advice.Goals as goal

pub returns-in-Some : goal.returns-in-Some
unfolding advice_text
returns-in-Some c =
    rw c.in-Some.is
    (then _ _ _ _ _ (then _ _ _ _ _ c.with_gap.ensures c.with_mark.ensures)
    c.with_square.ensures)

pub returns-in-None : goal.returns-in-None
unfolding advice_text appended
returns-in-None c = rw c.in-None.is
