-- `checking::check_with` meets its contract: each return by the tests that led there.
use Rattle.four_men.proofs.laws.Checking.{check-promised-with}
use Rattle.checking.proofs.laws.Laws.{refused-ending, refused-lengths, their-table, refused-lent, found-last}
use Rattle.checking.proofs.checker.check_with.Goals as goal

pub returns-then-not-is_given : goal.returns-then-not-is_given
returns-then-not-is_given c =
    check-promised-with _ _ _ _
    (refused-ending _ _ _ _ c.is_given.ensures c.if-not-is_given.true)

pub returns-then-not-lengths_fit : goal.returns-then-not-lengths_fit
returns-then-not-lengths_fit c =
    check-promised-with _ _ _ _
    (refused-lengths _ _ _ _ c.is_given.ensures c.if-not-is_given.false _
    c.lengths_fit.ensures c.if-not-lengths_fit.true)

pub returns-then-not-lent_accepted : goal.returns-then-not-lent_accepted
returns-then-not-lent_accepted c =
    check-promised-with _ _ _ _
    (refused-lent _ _ _ _ c.is_given.ensures c.if-not-is_given.false _
    c.lengths_fit.ensures c.if-not-lengths_fit.false _ c.lent_accepted.ensures
    c.if-not-lent_accepted.true)

pub lowest_wrong-requires : goal.lowest_wrong-requires
lowest_wrong-requires c =
    their-table _ _ _ _ c.is_given.ensures c.if-not-is_given.false _ c.lengths_fit.ensures
    c.if-not-lengths_fit.false _ c.men_of.ensures

pub returns : goal.returns
returns c =
    check-promised-with _ _ _ _
    (found-last _ _ _ _ c.is_given.ensures c.if-not-is_given.false _ c.lengths_fit.ensures
    c.if-not-lengths_fit.false _ c.lent_accepted.ensures c.if-not-lent_accepted.false
    c.men_of.result c.men_of.ensures _ c.lowest_wrong.ensures)
