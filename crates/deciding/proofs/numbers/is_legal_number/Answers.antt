-- `numbers::is_legal_number` meets its contract.
use mathlib.Core.Path.{sym}
use Rattle.deciding.proofs.laws.StandingLaws.{told-legal, told-nothing}
use Rattle.deciding.proofs.numbers.is_legal_number.Goals as goal

pub returns-in-Some : goal.returns-in-Some
returns-in-Some c = λ g l h. sym (told-legal c.args.m c.args.n _ _ c.in-Some.is (c.legal_at-standing.ensures g l h)).0

pub returns-in-None : goal.returns-in-None
returns-in-None c = λ g l h. sym (told-nothing c.args.m c.args.n _ c.in-None.is (c.legal_at-standing.ensures g l h))
