-- `sledgewren::sledgewren_fill_back` meets its contract. The word of the answer.
use borrow.Author.Rules.{rules}
use Rattle.sledgewren.proofs.laws.TableLaws.{filled-back-by}
use Rattle.sledgewren.proofs.tables.sledgewren_fill_back.Goals as goal

pub returns : goal.returns
returns c =
    filled-back-by _ _ _ _ _ _ _ c.material_read-m.ensures c.fill_back.ensures
    c.filled_word.ensures
