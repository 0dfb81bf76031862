use mathlib.Core.Path.{sym}
use Rattle.board.proofs.laws.SetLaws.{has-off}
use Rattle.board.proofs.sets.has.Goals as goal

pub returns-then-s-ge64 : goal.returns-then-s-ge64
returns-then-s-ge64 c = sym (has-off c.args.set c.args.s c.if-s-ge64.true c.ranges.set.fits)
