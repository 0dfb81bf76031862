use mathlib.Core.Path.{sym, ◌∙◌}
use Rattle.board.proofs.laws.SetLaws.{set_is}
use Rattle.position.specs.Pieces.{own_on}
use Rattle.position.proofs.laws.Pieces.{stands-four, union-four, union-lt}
use Rattle.position.proofs.occupancy.own.Goals as goal

pub returns : goal.returns
returns c =
    let a = c.own_square in
    let b = c.own_square-2 in
    let d = c.own_square-3 in
    let e = c.own_square-4 in
    let colour = c.args.colour in
    set_is _ _ (union-lt _ _ _ _ a.type_inv b.type_inv d.type_inv e.type_inv)
    (λ t h.
    union-four (own_on colour t) c.pieces_of-all.result _ _ _ _ t (a.ensures t h) (b.ensures t h) (d.ensures t h)
    (e.ensures t h)
    ∙ sym (stands-four c.args.p _ c.pieces_of-all.ensures colour t h))
