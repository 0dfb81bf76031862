-- `successors::judge` meets its contract: a piece at a time.
use mathlib.Core.Path.{refl, sym, ap, ◌∙◌}
use Rattle.std.specs.Prelude.{Some}
use Rattle.successors.proofs.laws.QuietLaws.{of-first, of-second}
use Rattle.successors.proofs.laws.JudgeLaws.{no-moves, king-refuted, first-refuted, second-refuted, all-suited}
use Rattle.successors.proofs.judging.judge.Goals.{then-reach-eq0, else-reach-eq0+in_ok-by_first}
use Rattle.successors.proofs.judging.judge.Goals as goal

pub returns-in_err-king : goal.returns-in_err-king
returns-in_err-king c =
    λ w t. c.from_residual.ensures
    ∙ king-refuted _ _ _ _ _ _ _ (c.sift_steps.ensures w t.king c.men_squares-men.ensures) c.in_err-king.was

pub returns-in_err-by_first : goal.returns-in_err-by_first
returns-in_err-by_first c =
    let s = c.men_squares-men in
    λ w t. c.from_residual-in_err-by_first.ensures
    ∙ first-refuted _ _ _ _ _ _ _ (c.sift_steps.ensures w t.king s.ensures) _ c.in_ok-king.was _
    (c.sift_moves.ensures w t.first s.ensures (of-first c.args.q)) c.in_err-by_first.was

pub returns-in_err-by_second : goal.returns-in_err-by_second
returns-in_err-by_second c =
    let s = c.men_squares-men in
    λ w t. c.from_residual-in_err-by_second.ensures
    ∙ second-refuted _ _ _ _ _ _ _ (c.sift_steps.ensures w t.king s.ensures) _ c.in_ok-king.was (Some c.if-reach-eq0.by_first)
    (elim c.if-reach-eq0.branch [
      | then-reach-eq0 v ↦ ap Some v.by_first-is ∙ no-moves _ _ _ _ _ _ t.first v.if-reach-eq0.true
      | else-reach-eq0+in_ok-by_first v ↦
          ap Some v.by_first-is ∙ sym v.in_ok-by_first.was ∙ v.sift_moves.ensures w t.first s.ensures (of-first c.args.q)
    ]) _ refl _ (c.sift_moves-else-reach-eq0-2.ensures w t.second s.ensures (of-second c.args.q)) c.in_err-by_second.was

pub returns-then-reach-eq0-2 : goal.returns-then-reach-eq0-2
returns-then-reach-eq0-2 c =
    let s = c.men_squares-men in
    λ w t. all-suited _ _ _ _ _ _ _ (c.sift_steps.ensures w t.king s.ensures) _ c.in_ok-king.was (Some c.if-reach-eq0.by_first)
    (elim c.if-reach-eq0.branch [
      | then-reach-eq0 v ↦ ap Some v.by_first-is ∙ no-moves _ _ _ _ _ _ t.first v.if-reach-eq0.true
      | else-reach-eq0+in_ok-by_first v ↦
          ap Some v.by_first-is ∙ sym v.in_ok-by_first.was ∙ v.sift_moves.ensures w t.first s.ensures (of-first c.args.q)
    ]) _ refl _ (no-moves _ _ _ _ _ _ t.second c.if-reach-eq0-2.true) _ refl

pub returns-in_ok-by_second : goal.returns-in_ok-by_second
returns-in_ok-by_second c =
    let s = c.men_squares-men in
    λ w t. all-suited _ _ _ _ _ _ _ (c.sift_steps.ensures w t.king s.ensures) _ c.in_ok-king.was (Some c.if-reach-eq0.by_first)
    (elim c.if-reach-eq0.branch [
      | then-reach-eq0 v ↦ ap Some v.by_first-is ∙ no-moves _ _ _ _ _ _ t.first v.if-reach-eq0.true
      | else-reach-eq0+in_ok-by_first v ↦
          ap Some v.by_first-is ∙ sym v.in_ok-by_first.was ∙ v.sift_moves.ensures w t.first s.ensures (of-first c.args.q)
    ]) _ refl _ (c.sift_moves-else-reach-eq0-2.ensures w t.second s.ensures (of-second c.args.q)) _ c.in_ok-by_second.was
