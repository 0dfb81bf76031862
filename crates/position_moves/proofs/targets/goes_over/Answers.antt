use mathlib.Core.Path.{sym, ◌∙◌}
use Rattle.board.specs.Sets.{has}
use Rattle.position.specs.Over.{goes_from}
use Rattle.position.proofs.laws.Pieces.{goes-four, union-four}
use Rattle.position_moves.proofs.targets.goes_over.Goals as goal

pub returns : goal.returns
returns c =
    let x = c.args in
    λ t h.
    union-four (goes_from (has x.occ) x.p.side x.from t) c.pieces_of-all.result _ _ _ _ t
    (c.goes_set.ensures t h) (c.goes_set-2.ensures t h)
    (c.goes_set-3.ensures t h) (c.goes_set-4.ensures t h)
    ∙ sym (goes-four x.p _ c.pieces_of-all.ensures (has x.occ) x.from t)
