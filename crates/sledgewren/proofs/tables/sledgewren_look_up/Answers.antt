-- `sledgewren::sledgewren_look_up` meets its contract. The word of the answer and its mark.
use mathlib.Core.Path.{ap, ◌∙◌}
use borrow.Author.Rules.{rules}
use Rattle.fifty.specs.Marks.{look_up_at_with}
use Rattle.sledgewren.specs.Words.{marked_word}
use Rattle.sledgewren.proofs.tables.sledgewren_look_up.Goals as goal

pub returns : goal.returns
returns c =
    c.marked_word.ensures
    ∙ ap marked_word
    (c.look_up_at_with.ensures ∙ ap (look_up_at_with _ _ _) c.position_read-p.ensures)
