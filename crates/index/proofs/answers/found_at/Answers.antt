-- `index::answers::found_at` meets its contract: a pawn's number, or a number of pieces.
use Rattle.std.specs.Prelude.{Ok}
use mathlib.Core.Path.{ap, sym, ◌∙◌}
use Rattle.index.specs.Answers.{found_at}
use Rattle.index.proofs.laws.WithLaws.{pawn-ending, pieces-ending, found-unused, found-position}
use Rattle.std.proofs.Common.{not}
use Rattle.index.proofs.answers.found_at.Goals as goal

pub returns-then-men-eq4 : goal.returns-then-men-eq4
returns-then-men-eq4 c =
    λ t d h.
    let a = c.args in
    c.pawn_found.ensures ∙ ap (λ m. found_at m a.n) (sym (pawn-ending a.men c.if-men-eq4.true t))

pub returns-then-not-is_used : goal.returns-then-not-is_used
returns-then-not-is_used c =
    λ t d h.
    let k = pieces-ending c.args.men c.if-men-eq4.false t in
    found-unused _ _ k _ (c.place_at-q.ensures k d h) _ c.is_used.ensures (ap not c.if-not-is_used.true)

pub returns : goal.returns
returns c =
    λ t d h.
    let k = pieces-ending c.args.men c.if-men-eq4.false t in
    ap Ok c.posed.ensures
    ∙ found-position _ _ k _ (c.place_at-q.ensures k d h) _ c.is_used.ensures (ap not c.if-not-is_used.false)
