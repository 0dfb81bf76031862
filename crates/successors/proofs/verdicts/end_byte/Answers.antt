-- `successors::end_byte` meets its contract.
use mathlib.Core.Path.{sym, ◌∙◌}
use Rattle.successors.proofs.laws.PlaceVerdicts.{end-check, end_quiet}
use Rattle.successors.proofs.verdicts.end_byte.Goals as goal

pub returns-then-checked : goal.returns-then-checked
returns-then-checked c = λ w. end-check _ (sym (c.checked.ensures w) ∙ c.if-checked.true)

pub returns-else-checked : goal.returns-else-checked
returns-else-checked c = λ w. end_quiet _ (sym (c.checked.ensures w) ∙ c.if-checked.false)
