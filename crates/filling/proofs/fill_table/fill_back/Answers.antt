-- `filling::fill_back` meets its contract.
use mathlib.Core.Path.{sym, ◌∙◌}
use Rattle.finite.specs.Truth.{of-true}
use Rattle.filling.proofs.laws.FillLaws.{back-refused, back-pieces}
use Rattle.filling.proofs.fill_table.fill_back.Goals as goal

pub returns-then-not-is_known : goal.returns-then-not-is_known
returns-then-not-is_known c = back-refused _ _ _ (sym c.is_known.ensures ∙ c.if-not-is_known.true)

pub fill_by-requires : goal.fill_by-requires
fill_by-requires c = λ e. of-true (sym c.is_known.ensures ∙ c.if-not-is_known.false)

pub returns : goal.returns
returns c =
    back-pieces _ _ _ (sym c.is_known.ensures ∙ c.if-not-is_known.false)
    _ _ c.fill_by.ensures
