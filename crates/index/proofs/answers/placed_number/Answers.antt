-- `index::answers::placed_number` meets its contract: a pawn's number, or that of pieces.
use mathlib.Core.Path.{◌∙◌}
use Rattle.index.proofs.laws.WithLaws.{number-pieces}
use Rattle.index.proofs.laws.PawnLaws.{pieces-told, pawn-number-told}
use Rattle.index.proofs.answers.placed_number.Goals as goal

pub returns-then-man-eq4 : goal.returns-then-man-eq4
returns-then-man-eq4 c =
    λ z.
    pawn-number-told c.args.p _ c.man_in-man.ensures c.if-man-eq4.true z _ c.pawn_normal-normal.ensures _
    c.pawn_key.ensures

pub returns : goal.returns
returns c =
    λ z.
    let t = pieces-told c.args.p _ c.man_in-man.ensures c.if-man-eq4.false z in
    let w = number-pieces _ _ c.arrange-a.ensures t z in c.number_listed.ensures w.0 ∙ w.1
