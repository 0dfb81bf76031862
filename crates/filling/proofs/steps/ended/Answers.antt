-- `filling::ended` meets its contract.
use Rattle.filling.proofs.laws.Laws.{ended_some}
use Rattle.filling.proofs.steps.ended.Goals as goal

pub returns : goal.returns
returns c = ended_some _ c.if-last-eq0.false
