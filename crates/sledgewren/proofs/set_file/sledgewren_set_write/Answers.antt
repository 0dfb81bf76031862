-- `host::sledgewren_set_write` meets its contract. The word of the answer.
use borrow.Author.Rules.{rules}
use Rattle.sets.specs.Answers.{write_of}
use Rattle.sledgewren.proofs.laws.SetLaws.{written-by}
use Rattle.sledgewren.proofs.set_file.sledgewren_set_write.Goals as goal

pub returns : goal.returns
returns c =
    let w = c.write.ensures in
    written-by write_of _ _ _ _ _ _ c.choice_by.ensures w.0 w.1
    c.written_word.ensures
