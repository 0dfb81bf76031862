-- `filling::step_below` meets its contract.
use Rattle.working_back.proofs.laws.Admitted.{sized}
use Rattle.filling.proofs.laws.StepCode.{code-more, code-done, code-skip}
use Rattle.filling.proofs.steps.step_below.Goals as goal

pub returns-then-settled-ne0 : goal.returns-then-settled-ne0
returns-then-settled-ne0 c =
    let p = c.pass_in-settled.ensures in
    code-more _ _ _ _ _ _ _ _ c.requires.0 p.0 c.if-settled-ne0.true p.1 c.progress_at-on.ensures

pub returns-then-deepest-k : goal.returns-then-deepest-k
returns-then-deepest-k c =
    let p = c.pass_in-settled.ensures in
    code-done _ _ _ _ _ _ _ _ _ _ (sized _ _ _ _ c.requires.1) p.0 c.if-settled-ne0.false p.1
    c.if-deepest-k.true c.last_before-before.ensures c.ended-end.ensures c.progress_at-over.ensures

pub returns : goal.returns
returns c =
    let p = c.pass_in-settled.ensures in
    code-skip _ _ _ _ _ _ _ _ _ p.0 c.if-settled-ne0.false p.1 c.if-deepest-k.false
    c.last_before-before.ensures c.progress_at-on-2.ensures
