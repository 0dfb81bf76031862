use mathlib.Core.Path.{sym, ◌∙◌}
use native.Mathlib.Omega.{arith}
use Rattle.board.proofs.laws.SquareLaws.{shift-out, shift-at}
use Rattle.board.proofs.steps.step_to.Goals as goal

pub returns-then-s-ge64 : goal.returns-then-s-ge64
returns-then-s-ge64 c = let off = c.then-s-ge64.either in sym (shift-out _ _ _ (λ w. omega (arith, w.square, w.right, w.top, off)))

pub returns : goal.returns
returns c = c.on_board.ensures ∙ sym (shift-at _ _ _ c.if-s-ge64.false)
