use mathlib.Core.Path.{sym, ◌∙◌}
use native.Mathlib.Omega.{arith}
use borrow.Author.Tests.{ne_eqb}
use Rattle.board.specs.SetLaws.{bit}
use Rattle.board.proofs.laws.SetLaws.{has-none, has-bit, set_is}
use Rattle.board.proofs.sets.one.Goals as goal

pub returns-then-s-ge64 : goal.returns-then-s-ge64
returns-then-s-ge64 c = set_is _ 0 (omega arith) (λ u h. has-none u ∙ sym (ne_eqb u c.args.s (λ e. omega arith)))

pub returns : goal.returns
returns c = set_is _ (bit c.args.s) (omega arith) (λ u h. has-bit c.args.s u c.if-s-ge64.false h)
