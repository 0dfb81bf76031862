-- `retracting::stood_before` meets its contract.
use Rattle.retracting.proofs.laws.Code.{stood-none, stood-taken}
use Rattle.retracting.proofs.places.stood_before.Goals as goal

pub returns-then-taken-eq0 : goal.returns-then-taken-eq0
returns-then-taken-eq0 c = stood-none _ _ _ _ c.if-taken-eq0.true c.without.ensures

pub returns : goal.returns
returns c = stood-taken _ _ _ c.if-taken-eq0.false
