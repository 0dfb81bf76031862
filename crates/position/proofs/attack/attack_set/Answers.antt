use mathlib.Core.Path.{sym, ◌∙◌}
use Rattle.board.specs.Sets.{has}
use Rattle.position.specs.Over.{strikes}
use Rattle.position.proofs.laws.Pieces.{attacked-four, union-four}
use Rattle.position.proofs.attack.attack_set.Goals as goal

pub returns : goal.returns
returns c =
    let x = c.args in
    λ t h.
    union-four (strikes (has x.occ) x.colour t) c.pieces_of-all.result _ _ _ _ t
    (c.strike_set.ensures t h) (c.strike_set-2.ensures t h)
    (c.strike_set-3.ensures t h) (c.strike_set-4.ensures t h)
    ∙ sym (attacked-four x.p _ c.pieces_of-all.ensures (has x.occ) x.colour t)
