-- `table_set::fill_at` meets its contract.
use Rattle.table_set.proofs.laws.Writing.{at-kept, at-cleared}
use mathlib.Core.Path.{◌∙◌}
use borrow.Author.Rules.{rules}
use Rattle.table_set.proofs.tables.fill_at.Goals as goal

pub returns-then-is_refused : goal.returns-then-is_refused
returns-then-is_refused c =
    let f = c.fill_part-filled in
    let k = at-cleared _ _ _ _ _ _ f.ensures.0 f.ensures.1
    c.is_refused.ensures f.auto.set
    c.if-is_refused.true in
    (k.0, c.clear.ensures ∙ k.1)

pub returns-else-is_refused : goal.returns-else-is_refused
returns-else-is_refused c =
    let f = c.fill_part-filled.ensures in
    at-kept _ _ _ _ _ _ f.0 f.1 c.is_refused.ensures c.if-is_refused.false
