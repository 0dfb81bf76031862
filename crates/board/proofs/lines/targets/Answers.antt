use mathlib.Core.Path.{sym, ◌∙◌}
use native.Mathlib.Omega.{arith}
use Rattle.board.proofs.laws.SetLaws.{has-none, set_is}
use Rattle.board.proofs.laws.ReachLaws.{reaches-other}
use Rattle.board.proofs.laws.EmptyLaws.{king-anywhere, knight-anywhere, queen-targets}
use Rattle.board.proofs.lines.targets.Goals as goal

pub returns-in-0 : goal.returns-in-0
returns-in-0 c =
    let r = c.line_targets in
    let b = c.line_targets-in-0 in
    rw c.in-0.is (queen-targets _ _ r.type_inv b.type_inv r.ensures b.ensures)

pub returns-in-1 : goal.returns-in-1
returns-in-1 c = rw c.in-1.is c.line_targets-in-1.ensures

pub returns-in-2 : goal.returns-in-2
returns-in-2 c = rw c.in-2.is c.line_targets-in-2.ensures

pub returns-in-3 : goal.returns-in-3
returns-in-3 c = rw c.in-3.is (knight-anywhere _ _ c.knight_steps.ensures)

pub returns-in-5 : goal.returns-in-5
returns-in-5 c = rw c.in-5.is (king-anywhere _ _ c.king_steps.ensures)

pub returns-in_default : goal.returns-in_default
returns-in_default c =
    set_is _ 0 (omega arith)
    (λ t h. has-none t ∙ sym (reaches-other _ _ _ _ (omega arith) (omega arith) (omega arith)))
