-- `movegen::one_if` meets its contract.
use mathlib.Core.Path.{sym, ◌∙◌}
use native.Mathlib.Omega.{arith}
use borrow.Author.Tests.{eq-eqb, ne_eqb}
use Rattle.board.proofs.laws.SetLaws.{set_is, has-none}
use Rattle.movegen.proofs.places.one_if.Goals as goal

pub returns-then-owner-side : goal.returns-then-owner-side
returns-then-owner-side c = rw (eq-eqb _ _ c.if-owner-side.true) c.one-bit.ensures

pub returns-else-owner-side : goal.returns-else-owner-side
returns-else-owner-side c =
    rw (ne_eqb _ _ c.if-owner-side.false) (set_is _ 0 (omega arith) (λ u l. has-none u ∙ sym (ne_eqb u 64 (λ e. omega arith))))
