-- `host::said_word` meets its contract.
use mathlib.Core.Path.{ap}
use Rattle.filling.specs.Steps.{said_as}
use borrow.Author.Rules.{rules}
use Rattle.sledgewren.proofs.laws.StepWordLaws.{settled-word}
use Rattle.sledgewren.proofs.steps.said_word.Goals as goal

pub returns-in-Settled : goal.returns-in-Settled
returns-in-Settled c = settled-word _ _ (ap said_as c.in-Settled.is) c.requires
