-- `working_back::no_line` meets its contract.
use mathlib.Core.Path.{refl}
use native.Mathlib.Omega.{arith}
use Rattle.working_back.proofs.laws.Lines.{none-lined}
use Rattle.working_back.proofs.lines.no_line.Goals as goal

pub returns : goal.returns
returns c = λ m q taken to. none-lined m q taken to _ refl (omega arith)
