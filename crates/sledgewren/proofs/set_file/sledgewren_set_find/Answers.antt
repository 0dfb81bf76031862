-- `host::sledgewren_set_find` meets its contract. The word of the answer.
use mathlib.Core.Path.{ap, ◌∙◌}
use Rattle.sledgewren.specs.SetWords.{found_word}
use Rattle.sledgewren.proofs.set_file.sledgewren_set_find.Goals as goal

pub returns : goal.returns
returns c = c.found_word.ensures ∙ ap found_word c.find.ensures
