-- `search::is_decided` meets its contract.
use Rattle.search.proofs.laws.OpinionLaws.{asked-odd, asked-even}
use Rattle.search.proofs.second.is_decided.Goals as goal

pub returns-then-n-eq1 : goal.returns-then-n-eq1
returns-then-n-eq1 c none = asked-odd _ _ _ c.if-n-eq1.true (c.won_within.ensures none)

pub returns : goal.returns
returns c none = asked-even _ _ _ c.if-n-eq1.false (c.lost_within.ensures none)
