-- `filling::start_filling` meets its contract.
use Rattle.filling.proofs.laws.Handed.{start-one}
use Rattle.filling.proofs.taking.start_filling.Goals as goal

pub returns : goal.returns
returns c = start-one _ _ _ _ c.start_with.ensures
