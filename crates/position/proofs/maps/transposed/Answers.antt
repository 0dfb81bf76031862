-- `position::transposed` meets its contract: on the board and off it.
use mathlib.Core.Path.{sym}
use borrow.Author.Tests.{lt-ltb}
use Rattle.symmetry.specs.Symmetry.{mapped, exchange}
use Rattle.symmetry.proofs.laws.SymmetryLaws.{mapped-off}
use Rattle.position.proofs.maps.transposed.Goals as goal

pub returns-then-s-ge64 : goal.returns-then-s-ge64
returns-then-s-ge64 c = sym (mapped-off exchange c.args.s c.if-s-ge64.true)

pub returns : goal.returns
unfolding mapped
returns c = simp (lt-ltb _ _ c.if-s-ge64.false)
