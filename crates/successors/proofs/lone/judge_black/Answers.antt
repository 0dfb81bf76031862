-- `successors::judge_black` meets its contract: his king alone moves.
use mathlib.Core.Path.{refl, ◌∙◌}
use Rattle.successors.proofs.laws.JudgeLaws.{no-moves, king-refuted, all-suited}
use Rattle.successors.proofs.laws.LoneReach.{first-none, second_none}
use Rattle.successors.proofs.lone.judge_black.Goals as goal

pub returns-in_err-king : goal.returns-in_err-king
returns-in_err-king c =
    λ m w h s r first second. c.from_residual.ensures
    ∙ king-refuted _ _ _ _ _ _ _ (c.sift_king_alone.ensures m w h s r.king first second) c.in_err-king.was

pub returns : goal.returns
returns c =
    λ m w h s r first second. all-suited _ _ _ _ _ _ _ (c.sift_king_alone.ensures m w h s r.king first second) _ c.in_ok-king.was _
    (no-moves _ _ _ _ _ _ (first-none m _ w h s) refl) _ refl _ (no-moves _ _ _ _ _ _ (second_none m _ w h) refl) _ refl
