-- `sledgewren::sledgewren_position` meets its contract. The word of the answer.
use borrow.Author.Rules.{rules}
use Rattle.sledgewren.proofs.laws.TableLaws.{placed_by}
use Rattle.sledgewren.proofs.numbers.sledgewren_position.Goals as goal

pub returns : goal.returns
returns c =
    placed_by _ _ _ _ _ c.material_read.ensures c.position_with.ensures
    c.placed_word.ensures
