-- `successors::sift_steps` meets its contract: the king's moves that take a man, and those that take none.
use mathlib.Core.Path.{◌∙◌}
use Rattle.successors.proofs.laws.SiftLaws.{parts-refuted, rest-refuted, both-suited}
use Rattle.successors.proofs.laws.TakingLaws.{taking-set, quiet-set, taking-at}
use Rattle.successors.proofs.quiet.sift_steps.Goals as goal

pub returns-in_err-taking : goal.returns-in_err-taking
returns-in_err-taking c =
    λ w e k. c.from_residual.ensures ∙ parts-refuted _ _ _ _ _ _ _
    (taking-at _ _ _ _ _ _ c.king_at-king.ensures (c.sift_taking.ensures w) (taking-set _ _ _ _ e _ k))
    c.in_err-taking.was

pub returns-in_err-others : goal.returns-in_err-others
returns-in_err-others c =
    λ w e k. c.from_residual-in_err-others.ensures ∙ rest-refuted _ _ _ _ _ _ _
    (taking-at _ _ _ _ _ _ c.king_at-king.ensures (c.sift_taking.ensures w) (taking-set _ _ _ _ e _ k)) _
    c.in_ok-taking.was _ (c.sift_king.ensures w (quiet-set _ _ _ _ e _ k _ c.minus.ensures) _ _) c.in_err-others.was

pub returns : goal.returns
returns c =
    λ w e k. both-suited _ _ _ _ _ _ _
    (taking-at _ _ _ _ _ _ c.king_at-king.ensures (c.sift_taking.ensures w) (taking-set _ _ _ _ e _ k)) _
    c.in_ok-taking.was _ (c.sift_king.ensures w (quiet-set _ _ _ _ e _ k _ c.minus.ensures) _ _) _ c.in_ok-others.was
