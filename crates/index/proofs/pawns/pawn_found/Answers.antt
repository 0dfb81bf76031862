-- `index::pawns::pawn_found` meets its contract.
use Rattle.std.specs.Prelude.{Ok}
use mathlib.Core.Path.{ap, ap₂, ◌∙◌}
use Rattle.position.specs.Posed.{posed}
use Rattle.index.proofs.laws.PawnLaws.{pawn-unused, pawn-found}
use Rattle.std.proofs.Common.{not}
use Rattle.index.proofs.pawns.pawn_found.Goals as goal

pub returns-then-not-is_pawn_used : goal.returns-then-not-is_pawn_used
returns-then-not-is_pawn_used c =
    pawn-unused _ _ c.pawn_place_at-q.ensures _ c.is_pawn_used.ensures (ap not c.if-not-is_pawn_used.true)

pub returns : goal.returns
returns c =
    ap Ok
    (c.posed.ensures ∙ ap₂ posed c.pawn_men.ensures c.pawn_place.ensures)
    ∙ pawn-found _ _ c.pawn_place_at-q.ensures _ c.is_pawn_used.ensures (ap not c.if-not-is_pawn_used.false)
