-- `host::sledgewren_pocket_look_up` meets its contract. The word of the answer.
use mathlib.Core.Path.{ap, ◌∙◌}
use borrow.Author.Rules.{rules}
use Rattle.pocket.specs.Pocket.{pocket_look_up_of}
use Rattle.sledgewren.specs.PocketWords.{told_word}
use Rattle.sledgewren.proofs.pockets.sledgewren_pocket_look_up.Goals as goal

pub returns : goal.returns
returns c =
    c.pocket_word.ensures
    ∙ ap told_word (c.look_up.ensures ∙ ap (pocket_look_up_of _) c.position_read-p.ensures)
