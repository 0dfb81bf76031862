-- `comparison::sledgewren_fill_every` meets its contract. The word of the answer.
use borrow.Author.Rules.{rules}
use Rattle.sledgewren.proofs.laws.TableLaws.{filled-by}
use Rattle.comparison.proofs.sledgewren_fill_every.Goals as goal

pub returns : goal.returns
returns c =
    filled-by _ _ _ _ _ _ _ c.material_read-m.ensures c.fill_every.ensures
    c.filled_word.ensures
