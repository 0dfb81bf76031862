-- `index::with_man` meets its contract.
use native.Mathlib.Omega.{arith}
use Rattle.index.proofs.laws.AnswerLaws.{no_digit, one-digit}
use Rattle.index.proofs.with_man.Goals as goal

pub returns-in-None : goal.returns-in-None
returns-in-None c = (no_digit _ _ c.in-None.is, omega arith)

pub returns-in-Some : goal.returns-in-Some
returns-in-Some c = (one-digit _ _ _ c.in-Some.is, omega arith)
