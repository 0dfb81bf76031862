-- `checking::lent_accepted` meets its contract.
use mathlib.Core.Path.{◌∙◌}
use Rattle.checking.proofs.laws.Laws.{first-refused, second-decides}
use Rattle.checking.proofs.laws.Parts.{parts-lent}
use Rattle.checking.proofs.checker.lent_accepted.Goals as goal

pub returns-then-is_accepted : goal.returns-then-is_accepted
returns-then-is_accepted c =
    second-decides _ _ _ _ _ c.in-Two.is _ c.check.ensures.answered _
    c.is_accepted.ensures c.if-is_accepted.true _ c.check-then-is_accepted.ensures.answered _
    c.is_accepted-then-is_accepted.ensures

pub returns-else-is_accepted : goal.returns-else-is_accepted
returns-else-is_accepted c =
    c.if-is_accepted.false
    ∙ first-refused _ _ _ _ _ c.in-Two.is _ c.check.ensures.answered _
    c.is_accepted.ensures c.if-is_accepted.false

pub returns-in-Pawn : goal.returns-in-Pawn
returns-in-Pawn c = parts-lent _ _ _ c.in-Pawn.is c.parts_accepted.ensures
