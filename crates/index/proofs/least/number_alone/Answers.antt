-- `index::least::number_alone` meets its contract.
use mathlib.Core.Path.{◌∙◌}
use Rattle.index.proofs.laws.SeatLaws.{number-black}
use Rattle.index.proofs.least.number_alone.Goals as goal

pub returns-then-colour-eq0 : goal.returns-then-colour-eq0
returns-then-colour-eq0 c =
    λ kind colour side w b x.
    c.number_one.ensures kind w b x ∙ rw c.if-colour-eq0.true

pub returns : goal.returns
returns c =
    λ kind colour side w b x.
    c.number_one-2.ensures kind b w x
    ∙ rw c.other.ensures
    (number-black kind _ _ _ _ _ c.if-colour-eq0.false colour side)
