-- `host::sledgewren_count` meets its contract. The word of the answer.
use mathlib.Core.Path.{ap, ◌∙◌}
use Rattle.move_list.specs.Answers.{count_answer}
use borrow.Author.Rules.{rules}
use Rattle.sledgewren.specs.Words.{count_word}
use Rattle.sledgewren.proofs.numbers.sledgewren_count.Goals as goal

pub returns : goal.returns
returns c =
    c.count_word.ensures
    ∙ ap count_word (c.move_count.ensures.answer ∙ ap count_answer c.position_read.ensures)
