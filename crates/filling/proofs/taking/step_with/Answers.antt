-- `filling::step_with` meets its contract.
use mathlib.Core.Path.{sym, ◌∙◌}
use Rattle.finite.specs.Truth.{of-true}
use Rattle.filling.proofs.laws.Calls.{step-1, step-7, step-made, admitted-by}
use Rattle.filling.proofs.taking.step_with.Goals as goal

pub returns-then-not-is_given : goal.returns-then-not-is_given
returns-then-not-is_given c = step-1 _ _ _ _ _ _ (sym c.is_given.ensures ∙ c.if-not-is_given.true) c.refuse.ensures

pub returns-then-not-lengths_fit : goal.returns-then-not-lengths_fit
returns-then-not-lengths_fit c =
    step-7 _ _ _ _ _ _ (sym c.is_given.ensures ∙ c.if-not-is_given.false)
    (sym c.lengths_fit.ensures ∙ c.if-not-lengths_fit.true) c.refuse-then-not-lengths_fit.ensures

pub step_from-requires : goal.step_from-requires
step_from-requires c =
    admitted-by _ c.men_of.result _ _ _ _ _ c.is_given.ensures c.if-not-is_given.false
    c.lengths_fit.ensures c.if-not-lengths_fit.false c.men_of.ensures

pub returns : goal.returns
returns c =
    let k = sym c.is_given.ensures ∙ c.if-not-is_given.false in
    step-made _ _ _ _ _ c.men_of.result _ _ k (sym c.lengths_fit.ensures ∙ c.if-not-lengths_fit.false)
    (c.men_of.ensures (of-true k)).0 c.step_from.ensures
