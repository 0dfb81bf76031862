-- `filling::fill` meets its contract.
use Rattle.filling.proofs.laws.FillLaws.{promised-one}
use Rattle.filling.proofs.fill_table.fill.Goals as goal

pub returns : goal.returns
returns c = promised-one _ _ _ _ _ _ c.fill_with.ensures
