-- `filling::start_with` meets its contract.
use mathlib.Core.Path.{sym, ◌∙◌}
use Rattle.finite.specs.Truth.{of-true}
use Rattle.filling.proofs.laws.Calls.{start-1, start-7, start-made, start-given}
use Rattle.filling.proofs.taking.start_with.Goals as goal

pub returns-then-not-is_given : goal.returns-then-not-is_given
returns-then-not-is_given c =
    start-1 _ _ _ c.progress_at-progress.ensures _ (sym c.is_given.ensures ∙ c.if-not-is_given.true)
    c.refuse.ensures

pub returns-then-table-size_of : goal.returns-then-table-size_of
returns-then-table-size_of c =
    start-7 _ _ _ c.progress_at-progress.ensures _ _ (sym c.is_given.ensures ∙ c.if-not-is_given.false)
    c.size_of.ensures c.if-table-size_of.true c.refuse-then-table-size_of.ensures

pub start-requires : goal.start-requires
start-requires c =
    start-given _ c.men_of.result c.args.table.now _ (sym c.is_given.ensures ∙ c.if-not-is_given.false) c.size_of.ensures
    c.if-table-size_of.false c.men_of.ensures

pub returns : goal.returns
returns c =
    let k = sym c.is_given.ensures ∙ c.if-not-is_given.false in
    start-made _ _ _ c.progress_at-progress.ensures _ c.men_of.result _ k c.size_of.ensures c.if-table-size_of.false
    (c.men_of.ensures (of-true k)).0 c.start.ensures
