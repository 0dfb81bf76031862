-- `checking::check` meets its contract: each return by the tests that led there.
use mathlib.Core.Path.{refl}
use mathlib.Core.Bool.{true}
use Rattle.four_men.specs.Lending.{lent}
use Rattle.checking.proofs.laws.Laws.{refused-ending, refused-lengths, their-table, found-last, one-promised}
use Rattle.checking.proofs.checker.check.Goals as goal

pub returns-then-not-is_given : goal.returns-then-not-is_given
returns-then-not-is_given c =
    let t = c.args.table.now in
    one-promised _ (lent t t) _ _ (refused-ending _ _ _ _ c.is_given.ensures c.if-not-is_given.true)

pub returns-then-not-lengths_fit : goal.returns-then-not-lengths_fit
returns-then-not-lengths_fit c =
    let t = c.args.table.now in
    one-promised _ (lent t t) _ _
    (refused-lengths _ _ _ _ c.is_given.ensures c.if-not-is_given.false _
    c.lengths_fit.ensures c.if-not-lengths_fit.true)

pub lowest_wrong-requires : goal.lowest_wrong-requires
lowest_wrong-requires c =
    let t = c.args.table.now in
    their-table _ (lent t t) t _ c.is_given.ensures c.if-not-is_given.false _ c.lengths_fit.ensures
    c.if-not-lengths_fit.false _ c.men_of.ensures

pub returns : goal.returns
returns c =
    let t = c.args.table.now in
    one-promised _ (lent t t) _ _
    (found-last _ _ _ _ c.is_given.ensures c.if-not-is_given.false _ c.lengths_fit.ensures
    c.if-not-lengths_fit.false true refl refl c.men_of.result c.men_of.ensures _ c.lowest_wrong.ensures)
