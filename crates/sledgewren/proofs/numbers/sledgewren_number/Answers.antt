-- `host::sledgewren_number` meets its contract. The word of the answer.
use mathlib.Core.Path.{ap, ◌∙◌}
use Rattle.index.specs.Answers.{number_with}
use borrow.Author.Rules.{rules}
use Rattle.sledgewren.specs.Words.{number_word}
use Rattle.sledgewren.proofs.numbers.sledgewren_number.Goals as goal

pub returns : goal.returns
returns c =
    c.number_word.ensures
    ∙ ap number_word (c.number_with.ensures ∙ ap number_with c.position_read.ensures)
