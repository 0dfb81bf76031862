use Prim.Native.Nat.{◌/◌}
use native.Mathlib.Omega.{arith}
use Rattle.rules.proofs.laws.PawnSteps.{rank-of, rank-other}
use Rattle.rules.proofs.pawn.on_first_rank.Goals as goal

pub returns-in-0 : goal.returns-in-0
returns-in-0 c = rank-of 0 _ c.in-0.is

pub returns-in-1 : goal.returns-in-1
returns-in-1 c = rank-of 1 _ c.in-1.is

pub returns-in_default : goal.returns-in_default
returns-in_default c = rank-other c.args.colour (c.args.s / 8) (omega arith) (omega arith) (omega arith)
