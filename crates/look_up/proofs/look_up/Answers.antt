-- `look_up::look_up` meets its contract: one man is an instance, two are refused, and so is a pawn.
use borrow.Author.Rules.{rules}
use Rattle.look_up.proofs.laws.Laws.{two-refused, pawn-alone-refused, one-answered}
use Rattle.look_up.proofs.look_up.Goals as goal

pub returns-then-man-eq-PAWN : goal.returns-then-man-eq-PAWN
returns-then-man-eq-PAWN c = pawn-alone-refused _ _ _ c.man_in-man.ensures c.if-man-eq-PAWN.true

pub returns-in-Some : goal.returns-in-Some
returns-in-Some c = two-refused _ _ _ c.in-Some.is

pub returns-in-None : goal.returns-in-None
returns-in-None c =
    one-answered _ _ _ _ _ c.man_in-man.ensures c.if-man-eq-PAWN.false c.in-None.is
    c.look_up_with.ensures
