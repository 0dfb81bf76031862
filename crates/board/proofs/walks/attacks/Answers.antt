use mathlib.Core.Path.{sym, ◌∙◌}
use native.Mathlib.Omega.{arith}
use lib.Dec.{lit<}
use Rattle.board.specs.EmptyBoard.{nothing}
use Rattle.board.proofs.laws.ReachLaws.{reaches-has, near_same}
use Rattle.board.proofs.laws.WalkAttack.{attacks-by-walk}
use Rattle.board.proofs.laws.EmptyLaws.{never}
use Rattle.board.proofs.walks.attacks.Goals as goal

pub returns-then-not-has : goal.returns-then-not-has
returns-then-not-has c =
    let full = c.on_empty in
    sym (never _ _ _ _
    (sym (reaches-has nothing _ _ _ full.ensures full.type_inv) ∙ sym c.has.ensures ∙ c.if-not-has.true))

pub returns-in-0 : goal.returns-in-0
returns-in-0 c = c.meets.ensures ∙ sym (rw c.in-0.is (attacks-by-walk _ 0 _ _ (lit< tt)))

pub returns-in-1 : goal.returns-in-1
returns-in-1 c =
    c.meets-in-1.ensures ∙ sym (rw c.in-1.is (attacks-by-walk _ 1 _ _ (lit< tt)))

pub returns-in-2 : goal.returns-in-2
returns-in-2 c =
    c.meets-in-2.ensures ∙ sym (rw c.in-2.is (attacks-by-walk _ 2 _ _ (lit< tt)))

pub returns-in_default : goal.returns-in_default
returns-in_default c =
    let full = c.on_empty in
    sym c.if-not-has.false
    ∙ c.has.ensures
    ∙ reaches-has nothing _ _ _ full.ensures full.type_inv
    ∙ near_same nothing _ _ _ _ (omega arith)
