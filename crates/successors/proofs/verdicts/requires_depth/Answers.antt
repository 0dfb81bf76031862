-- `successors::requires_depth` meets its contract: no mate without check or where the king may move, and else by the byte for that depth.
use mathlib.Core.Path.{sym, ◌∙◌}
use Rattle.successors.proofs.laws.VerdictLaws.{depth-mate, depth-byte}
use Rattle.successors.proofs.laws.PlaceVerdicts.{place-quiet, place-moving}
use Rattle.successors.proofs.verdicts.requires_depth.Goals as goal

pub returns-then-not-checked : goal.returns-then-not-checked
returns-then-not-checked c =
    λ w. place-quiet _ _ (sym (c.checked.ensures w) ∙ c.if-not-checked.true)
    ∙ depth-mate _ _ _ c.if-k-eq0.true

pub returns-then-king_targets-ne0 : goal.returns-then-king_targets-ne0
returns-then-king_targets-ne0 c =
    λ w. place-moving _ _ w _ (c.king_targets.ensures w) c.if-king_targets-ne0.true
    ∙ depth-mate _ _ _ c.if-k-eq0.true

pub returns : goal.returns
returns c =
    let a = c.args in
    λ w. depth-byte _ _ a.k _ (c.requires_byte.ensures w)
