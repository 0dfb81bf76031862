-- `successors::sift_taking` meets its contract.
use Rattle.successors.proofs.laws.JudgeLaws.{no-moves}
use Rattle.successors.proofs.laws.TakingLaws.{taking-legal}
use Rattle.successors.proofs.quiet.sift_taking.Goals as goal

pub returns-then-targets-eq0 : goal.returns-then-targets-eq0
returns-then-targets-eq0 c = λ w e. no-moves _ _ _ _ _ _ e c.if-targets-eq0.true

pub returns : goal.returns
returns c = λ w e. c.sift_each.ensures w _ e (taking-legal _ _ _)
