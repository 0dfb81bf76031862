use Rattle.rules.proofs.laws.PawnSteps.{goes_set}
use Rattle.rules.proofs.pawn.pawn_goes.Goals as goal

pub returns : goal.returns
returns c =
    λ t h.
    let a = c.args in
    goes_set a.occ a.colour a.s _ _ t (c.straight_on.ensures t h)
    (c.pawn_hits.ensures _ t h)
