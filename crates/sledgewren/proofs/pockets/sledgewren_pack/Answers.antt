-- `host::sledgewren_pack` meets its contract. The word of the answer.
use mathlib.Core.Path.{ap, ◌∙◌}
use borrow.Author.Rules.{rules}
use Rattle.sledgewren.specs.PocketWords.{packed_word}
use Rattle.sledgewren.proofs.pockets.sledgewren_pack.Goals as goal

pub returns : goal.returns
returns c = (
  c.packed_word.ensures
      ∙ ap packed_word c.pack.ensures.0,
  c.pack.ensures.1,
)
