-- `filling::last_step` meets its contract.
use Rattle.filling.proofs.laws.StepCode.{code-deep, code-last}
use Rattle.filling.proofs.steps.last_step.Goals as goal

pub returns-then-some_settles : goal.returns-then-some_settles
returns-then-some_settles c =
    code-deep _ _ _ _ _ _ _ _ c.some_settles.ensures c.if-some_settles.true c.clear.ensures
    c.last_before-before.ensures c.progress_at-over.ensures

pub returns : goal.returns
returns c =
    code-last _ _ _ _ _ _ _ _ c.some_settles.ensures c.if-some_settles.false c.requires.0
    c.last_before-before.ensures c.ended-end.ensures c.progress_at-over-2.ensures
