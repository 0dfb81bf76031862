-- `sledgewren::sledgewren_fill` meets its contract. The word of the answer.
use borrow.Author.Rules.{rules}
use Rattle.sledgewren.proofs.laws.TableLaws.{filled-by}
use Rattle.sledgewren.proofs.tables.sledgewren_fill.Goals as goal

pub returns : goal.returns
returns c =
    filled-by _ _ _ _ _ _ _ c.material_read-m.ensures c.fill_with.ensures
    c.filled_word.ensures
