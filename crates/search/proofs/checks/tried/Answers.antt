-- `search::tried` meets its contract.
use Rattle.search.proofs.laws.TriedLaws.{tried-every, tried-checks}
use Rattle.search.proofs.checks.tried.Goals as goal

pub returns-then-k-ne1 : goal.returns-then-k-ne1
returns-then-k-ne1 c none = tried-every _ _ _ _ c.legal_targets-targets.ensures

pub returns : goal.returns
returns c none =
    tried-checks _ _ _ _ c.legal_targets-targets.ensures none c.if-k-ne1.false _
    (c.checking.ensures none)
