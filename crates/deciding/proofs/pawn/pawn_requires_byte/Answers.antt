-- `pawn::pawn_requires_byte` meets its contract: by the verdict.
use mathlib.Core.Path.{sym}
use Rattle.successors.proofs.laws.VerdictLaws.{told-wrong, told-right}
use Rattle.deciding.proofs.pawn.pawn_requires_byte.Goals as goal

pub returns-in-Wrong : goal.returns-in-Wrong
returns-in-Wrong c = λ o. sym (told-wrong _ _ _ _ (c.pawn_verdict-verdict.ensures o) c.in-Wrong.is)

pub returns-in-Right : goal.returns-in-Right
returns-in-Right c = λ o. sym (told-right _ _ _ _ _ (c.pawn_verdict-verdict.ensures o) c.in-Right.is).0
