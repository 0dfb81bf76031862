-- `host::sledgewren_tallies` meets its contract. The word of the answer.
use mathlib.Core.Path.{ap, ◌∙◌}
use borrow.Author.Rules.{rules}
use Rattle.sledgewren.specs.PocketWords.{tallied_word}
use Rattle.sledgewren.proofs.pockets.sledgewren_tallies.Goals as goal

pub returns : goal.returns
returns c = c.tallied_word.ensures ∙ ap tallied_word c.tally.ensures
