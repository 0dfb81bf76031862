-- `filling::last_before` meets its contract.
use Rattle.filling.proofs.laws.StepCode.{last-first, last-own, last-kept}
use Rattle.filling.proofs.steps.last_before.Goals as goal

pub returns-then-k-eq0 : goal.returns-then-k-eq0
returns-then-k-eq0 c = last-first _ _ _ c.if-k-eq0.true

pub returns-then-deepest-k : goal.returns-then-deepest-k
returns-then-deepest-k c = last-own _ _ _ c.if-k-eq0.false c.if-deepest-k.true

pub returns : goal.returns
returns c = last-kept _ _ _ c.if-k-eq0.false c.if-deepest-k.false
