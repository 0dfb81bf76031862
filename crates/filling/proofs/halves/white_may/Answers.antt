-- `filling::white_may` meets its contract.
use Rattle.filling.proofs.laws.Quiet.{quiet-low}
use Rattle.filling.proofs.halves.white_may.Goals as goal

pub returns : goal.returns
returns c = λ e. quiet-low c.args.m _ _ _ _ _ _ _ c.low_of.ensures (c.may_settle.ensures e)
