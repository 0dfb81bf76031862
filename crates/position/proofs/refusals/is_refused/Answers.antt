-- `position::is_refused` meets its contract: where every test fails, no refusal applies.
use mathlib.Core.Path.{sym, ◌∙◌}
use mathlib.Core.Bool.{false}
use Rattle.finite.specs.Truth.{refuted}
use Rattle.board.specs.Sets.{has}
use Rattle.board.proofs.laws.ReachLaws.{reaches-has, king-reaches}
use Rattle.rules.specs.Rules.{touching}
use Rattle.position.specs.Keyed.{board_of}
use Rattle.position.proofs.laws.Unrefused.{unrefused}
use Rattle.position.proofs.refusals.is_refused.Goals as goal

pub returns-then-p-white : goal.returns-then-p-white
returns-then-p-white c = λ e. absurd (refuted e tt)

pub returns-then-is_misplaced : goal.returns-then-is_misplaced
returns-then-is_misplaced c = λ e. absurd (refuted e tt)

pub returns-then-is_misplaced-2 : goal.returns-then-is_misplaced-2
returns-then-is_misplaced-2 c = λ e. absurd (refuted e tt)

pub returns-then-men_share : goal.returns-then-men_share
returns-then-men_share c = λ e. absurd (refuted e tt)

pub returns : goal.returns
unfolding touching board_of
returns c =
    let r = c.targets in
    λ e. unrefused _ c.if-p-white.false (sym c.is_misplaced.ensures ∙ c.if-is_misplaced.false)
    (sym c.is_misplaced-2.ensures ∙ c.if-is_misplaced-2.false) (sym c.men_share.ensures ∙ c.if-men_share.false)
    (sym (c.has.ensures ∙ reaches-has _ _ _ _ r.ensures r.type_inv ∙ king-reaches (has 0) (λ s. false) _ _) ∙ e)
