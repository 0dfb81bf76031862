-- `slips::number_slip` meets its contract, part by part.
use Rattle.slips.specs.Slip.{word_and_number}
use Rattle.slips.proofs.laws.Appending.{then, from}
use borrow.Author.Rules.{rules}
use Rattle.slips.proofs.number_slip.Goals as goal

pub returns : goal.returns
unfolding word_and_number
returns c =
    then _ _ _ _ _ (from _ _ _ _ c.blank.ensures c.with_text.ensures)
    c.with_number.ensures
