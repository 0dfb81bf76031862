-- `successors::sift_king_alone` meets its contract: the step that takes the man, and those that do not.
use mathlib.Core.Path.{◌∙◌}
use Rattle.successors.proofs.laws.SiftLaws.{parts-refuted, rest-refuted, both-suited}
use Rattle.successors.proofs.laws.TakingLaws.{taking-set, quiet-set}
use Rattle.successors.proofs.laws.LoneReach.{man-has}
use Rattle.successors.proofs.laws.LoneBytes.{bare_step}
use Rattle.successors.proofs.lone.sift_king_alone.Goals as goal

pub returns-in_err-taking : goal.returns-in_err-taking
returns-in_err-taking c =
    λ m w h z e first second. let k = man-has m _ w h _ c.one-man.ensures in
    c.from_residual.ensures
    ∙ parts-refuted _ _ _ _ _ _ _ (c.sift_bare.ensures _ _ _ _ (taking-set m _ _ _ e _ k) (bare_step m _ w h first second _ _))
    c.in_err-taking.was

pub returns-in_err-others : goal.returns-in_err-others
returns-in_err-others c =
    λ m w h z e first second. let k = man-has m _ w h _ c.one-man.ensures in
    c.from_residual-in_err-others.ensures
    ∙ rest-refuted _ _ _ _ _ _ _ (c.sift_bare.ensures _ _ _ _ (taking-set m _ _ _ e _ k) (bare_step m _ w h first second _ _)) _
    c.in_ok-taking.was _ (c.sift_quiet.ensures m w h z (quiet-set m _ _ _ e _ k _ c.minus.ensures) first second)
    c.in_err-others.was

pub returns : goal.returns
returns c =
    λ m w h z e first second. let k = man-has m _ w h _ c.one-man.ensures in
    both-suited _ _ _ _ _ _ _ (c.sift_bare.ensures _ _ _ _ (taking-set m _ _ _ e _ k) (bare_step m _ w h first second _ _)) _
    c.in_ok-taking.was _ (c.sift_quiet.ensures m w h z (quiet-set m _ _ _ e _ k _ c.minus.ensures) first second) _
    c.in_ok-others.was
