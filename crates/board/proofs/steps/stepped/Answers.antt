use borrow.Author.Tests.{lt-ltb, le-ltb}
use Rattle.board.specs.StepLaws.{step_bits}
use Rattle.board.proofs.laws.StepLaws.{step-bit}
use Rattle.board.proofs.steps.stepped.Goals as goal

pub returns-then-step-lt18 : goal.returns-then-step-lt18
unfolding step_bits
returns-then-step-lt18 c =
    let a = c.args in let p = c.requires in
    step-bit a.b a.step a.ends p.0 p.1 p.2 (rw (lt-ltb _ _ c.if-step-lt18.true))

pub returns : goal.returns
unfolding step_bits
returns c =
    let a = c.args in let p = c.requires in
    step-bit a.b a.step a.ends p.0 p.1 p.2 (rw (le-ltb _ _ c.if-step-lt18.false))
