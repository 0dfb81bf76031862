use Rattle.rules.proofs.laws.PawnSteps.{hits-set}
use Rattle.rules.proofs.pawn.pawn_hits.Goals as goal

pub returns : goal.returns
returns c =
    hits-set _ _ c.forward-dy.ensures c.step_to.ensures c.one.ensures c.step_to-2.ensures
    c.with.ensures
