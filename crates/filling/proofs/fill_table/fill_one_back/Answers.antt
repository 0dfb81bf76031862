-- `filling::fill_one_back` meets its contract.
use Rattle.filling.proofs.laws.FillLaws.{back_one}
use Rattle.filling.proofs.fill_table.fill_one_back.Goals as goal

pub returns : goal.returns
returns c = back_one _ _ _ _ _ _ c.fill_back.ensures
