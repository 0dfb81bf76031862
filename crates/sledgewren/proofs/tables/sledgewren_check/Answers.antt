-- `sledgewren::sledgewren_check` meets its contract. The word of the answer.
use borrow.Author.Rules.{rules}
use Rattle.sledgewren.proofs.laws.TableLaws.{checked-by}
use Rattle.sledgewren.proofs.tables.sledgewren_check.Goals as goal

pub returns : goal.returns
returns c =
    checked-by _ _ _ _ _ _ c.material_read-m.ensures c.check_with.ensures
    c.checked_word.ensures
