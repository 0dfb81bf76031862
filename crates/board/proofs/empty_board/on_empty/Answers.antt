use mathlib.Core.Path.{sym, ◌∙◌}
use native.Mathlib.Omega.{arith}
use Rattle.board.proofs.laws.SetLaws.{has-none, set_is}
use Rattle.board.proofs.laws.ReachLaws.{reaches-other}
use Rattle.board.proofs.laws.EmptyLaws.{rook-lines, bishop-lines, knight-steps, king-steps, queen-targets}
use Rattle.board.proofs.empty_board.on_empty.Goals as goal

pub returns-in-0 : goal.returns-in-0
returns-in-0 c =
    let a = c.rook_lines in
    let b = c.bishop_lines in
    rw c.in-0.is
    (queen-targets _ _ a.type_inv b.type_inv (a.ensures ∙ rook-lines _) (b.ensures ∙ bishop-lines _))

pub returns-in-1 : goal.returns-in-1
returns-in-1 c = rw c.in-1.is (c.rook_lines-in-1.ensures ∙ rook-lines _)

pub returns-in-2 : goal.returns-in-2
returns-in-2 c = rw c.in-2.is (c.bishop_lines-in-2.ensures ∙ bishop-lines _)

pub returns-in-3 : goal.returns-in-3
returns-in-3 c = rw c.in-3.is (c.knight_steps.ensures ∙ knight-steps _)

pub returns-in-5 : goal.returns-in-5
returns-in-5 c = rw c.in-5.is (c.king_steps.ensures ∙ king-steps _)

pub returns-in_default : goal.returns-in_default
returns-in_default c =
    set_is _ 0 (omega arith)
    (λ t h. has-none t ∙ sym (reaches-other _ _ _ _ (omega arith) (omega arith) (omega arith)))
