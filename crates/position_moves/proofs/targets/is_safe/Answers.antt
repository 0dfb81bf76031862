-- `position_moves::targets::is_safe` meets its contract: check after a move is found on the position after it.
use Rattle.std.proofs.Common.{sym}
use Rattle.movegen.proofs.laws.Targets.{check-made}
use Rattle.position_moves.proofs.targets.is_safe.Goals as goal

pub returns : goal.returns
returns c = let x = c.args in sym (check-made x.p _ x.from x.t _ c.make.ensures c.in_check.ensures)
