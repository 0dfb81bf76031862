-- `filling::fill_with` meets its contract.
use Rattle.filling.proofs.fill_table.fill_with.Goals as goal

pub returns : goal.returns
returns c = c.fill_by.ensures
