-- `successors::judge_white` meets its contract: a piece at a time.
use mathlib.Core.Path.{refl, ◌∙◌}
use Rattle.successors.proofs.laws.JudgeLaws.{no-moves, king-refuted, first-refuted, all-suited}
use Rattle.successors.proofs.laws.LoneReach.{second_none}
use Rattle.successors.proofs.lone.judge_white.Goals as goal

pub returns-in_err-king : goal.returns-in_err-king
returns-in_err-king c =
    λ w h s r. c.from_residual.ensures
    ∙ king-refuted _ _ _ _ _ _ _ (c.sift_white.ensures _ w h s r.king _ _) c.in_err-king.was

pub returns-in_err-man : goal.returns-in_err-man
returns-in_err-man c =
    λ w h s r. c.from_residual-in_err-man.ensures
    ∙ first-refuted _ _ _ _ _ _ _ (c.sift_white.ensures _ w h s r.king _ _) _ c.in_ok-king.was _
    (c.sift_lone.ensures w h s r.first) c.in_err-man.was

pub returns : goal.returns
returns c =
    λ w h s r. all-suited _ _ _ _ _ _ _ (c.sift_white.ensures _ w h s r.king _ _) _ c.in_ok-king.was _
    (c.sift_lone.ensures w h s r.first) _ c.in_ok-man.was _ (no-moves _ _ _ _ _ _ (second_none _ _ w h) refl) _ refl
