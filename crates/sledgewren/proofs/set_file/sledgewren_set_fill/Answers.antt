-- `host::sledgewren_set_fill` meets its contract. The word of the answer.
use mathlib.Core.Path.{ap, ◌∙◌}
use borrow.Author.Rules.{rules}
use Rattle.sledgewren.specs.Words.{filled_word}
use Rattle.sledgewren.proofs.set_file.sledgewren_set_fill.Goals as goal

pub returns : goal.returns
returns c = let f = c.fill_ending.ensures in (c.filled_word.ensures ∙ ap filled_word f.0, f.1)
