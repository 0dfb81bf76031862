-- `successors::byte_after` meets its contract: by the frame, or by the place.
use mathlib.Core.Path.{sym, ◌∙◌}
use Rattle.successors.proofs.laws.ByteLaws.{byte-framed}
use Rattle.successors.proofs.after.byte_after.Goals as goal

pub returns-then-is_framed : goal.returns-then-is_framed
returns-then-is_framed c =
    λ w t e. byte-framed _ _ w _ _ _ _ _ _ _ _ _ _ t e c.square_after-x.ensures c.square_after-y.ensures
    (sym c.is_framed.ensures ∙ c.if-is_framed.true) (c.number_on.ensures ∙ rw c.alike.ensures)
    c.read_at.ensures

pub returns : goal.returns
returns c = λ w t e. c.byte_made.ensures w t
