use mathlib.Core.Path.{sym, ◌∙◌}
use Rattle.rules.proofs.laws.PawnSteps.{straight-one, straight-held, straight-two}
use Rattle.rules.proofs.pawn.straight_on.Goals as goal

pub returns-then-not-on_first_rank : goal.returns-then-not-on_first_rank
returns-then-not-on_first_rank c =
    let a = c.args in
    straight-one a.occ a.colour a.s c.forward-dy.ensures c.step_to-first.ensures c.one.ensures c.minus-near.ensures
    (sym c.on_first_rank.ensures ∙ c.if-not-on_first_rank.true)

pub returns-then-has : goal.returns-then-has
returns-then-has c =
    let a = c.args in
    straight-held a.occ a.colour a.s c.forward-dy.ensures c.step_to-first.ensures c.one.ensures c.minus-near.ensures
    (sym c.on_first_rank.ensures ∙ c.if-not-on_first_rank.false) (sym c.has.ensures ∙ c.if-has.true)

pub returns : goal.returns
returns c =
    let a = c.args in
    straight-two a.occ a.colour a.s c.forward-dy.ensures c.step_to-first.ensures c.one.ensures c.minus-near.ensures
    (sym c.on_first_rank.ensures ∙ c.if-not-on_first_rank.false) (sym c.has.ensures ∙ c.if-has.false)
    c.step_to.ensures c.one-2.ensures c.minus.ensures
