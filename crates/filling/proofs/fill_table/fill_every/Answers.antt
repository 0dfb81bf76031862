-- `filling::fill_every` meets its contract.
use Rattle.filling.proofs.fill_table.fill_every.Goals as goal

pub returns : goal.returns
returns c = c.fill_by.ensures
