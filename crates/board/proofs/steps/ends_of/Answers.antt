use mathlib.Core.Path.{◌≡◌}
use Prim.Native.Nat.{◌%◌}
use native.Mathlib.Omega.{arith}
use lib.Dec.{lit<}
use Rattle.board.proofs.laws.StepLaws.{ends-are}
use Rattle.board.proofs.steps.ends_of.Goals as goal

pub returns-in-0 : goal.returns-in-0
returns-in-0 c = let e : c.args.step % 8 ≡ 0 = omega arith in rw e (ends-are 0 (lit< tt))

pub returns-in-1 : goal.returns-in-1
returns-in-1 c = let e : c.args.step % 8 ≡ 1 = omega arith in rw e (ends-are 1 (lit< tt))

pub returns-in-2 : goal.returns-in-2
returns-in-2 c = let e : c.args.step % 8 ≡ 2 = omega arith in rw e (ends-are 2 (lit< tt))

pub returns-in-3 : goal.returns-in-3
returns-in-3 c = let e : c.args.step % 8 ≡ 3 = omega arith in rw e (ends-are 3 (lit< tt))

pub returns-in_default : goal.returns-in_default
returns-in_default c = let e : c.args.step % 8 ≡ 4 = omega arith in rw e (ends-are 4 (lit< tt))
