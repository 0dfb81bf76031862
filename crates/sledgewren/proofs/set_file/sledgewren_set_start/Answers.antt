-- `host::sledgewren_set_start` meets its contract. The word of the answer.
use borrow.Author.Rules.{rules}
use Rattle.sets.specs.Answers.{start_of}
use Rattle.sledgewren.proofs.laws.SetLaws.{written-by}
use Rattle.sledgewren.proofs.set_file.sledgewren_set_start.Goals as goal

pub returns : goal.returns
returns c =
    let w = c.start.ensures in
    written-by start_of _ _ _ _ _ _ c.choice_by.ensures w.0 w.1
    c.written_word.ensures
