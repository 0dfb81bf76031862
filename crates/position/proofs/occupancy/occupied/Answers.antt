use mathlib.Core.Path.{sym, ◌∙◌}
use Rattle.board.proofs.laws.SetLaws.{set_is, set-has}
use Rattle.position.specs.Pieces.{stands_on}
use Rattle.position.proofs.laws.Pieces.{occupied-four, union-four, union-lt}
use Rattle.position.proofs.occupancy.occupied.Goals as goal

pub returns : goal.returns
returns c =
    let a = c.one in
    let b = c.one-2 in
    let d = c.one-3 in
    let e = c.one-4 in
    set_is _ _ (union-lt _ _ _ _ a.type_inv b.type_inv d.type_inv e.type_inv)
    (λ t h.
    union-four (stands_on t) c.pieces_of-all.result _ _ _ _ t (set-has _ a.ensures t h) (set-has _ b.ensures t h)
    (set-has _ d.ensures t h) (set-has _ e.ensures t h)
    ∙ sym (occupied-four c.args.p _ c.pieces_of-all.ensures t h))
