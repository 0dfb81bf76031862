-- `checking::part_accepted` meets its contract: a part that is there whole is checked.
use native.Mathlib.Omega.{arith}
use Rattle.checking.proofs.laws.Parts.{part-short, part-whole}
use Rattle.checking.proofs.checker.part_accepted.Goals as goal

pub returns-then-run-end : goal.returns-then-run-end
returns-then-run-end c = part-short _ _ (omega arith)

pub returns : goal.returns
returns c = part-whole _ _ _ _ c.check.ensures.answered c.is_accepted.ensures
