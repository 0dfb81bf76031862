use Rattle.std.proofs.Common.{arith}
use Rattle.rules.proofs.laws.PawnSteps.{forward-other}
use Rattle.rules.proofs.pawn.forward.Goals as goal

pub returns-in_default : goal.returns-in_default
returns-in_default c = forward-other c.args.colour (omega arith) (omega arith)
