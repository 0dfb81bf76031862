-- `sledgewren::sledgewren_table_bytes` meets its contract.
use mathlib.Core.Path.{ap, ◌∙◌}
use Rattle.numbering.specs.declared.Material.{Material}
use Rattle.given_words.specs.Endings.{table_bytes}
use borrow.Author.Rules.{rules}
use Rattle.sledgewren.proofs.numbers.sledgewren_table_bytes.Goals as goal

pub returns : goal.returns
returns c = c.table_bytes.ensures ∙ ap (λ (m : Material). table_bytes m) c.material_read.ensures
