-- `host::sledgewren_write_number` meets its contract. The word of the answer.
use mathlib.Core.Path.{ap, ◌∙◌}
use borrow.Author.Rules.{rules}
use Rattle.sledgewren.specs.TypedWord.{written_word}
use Rattle.sledgewren.proofs.typed_number.sledgewren_write_number.Goals as goal

pub returns : goal.returns
returns c = c.written_word.ensures ∙ ap written_word c.write_number.ensures
