-- `host::found_word` meets its contract. Each arm by the case it is.
use mathlib.Core.Path.{ap, sym}
use Rattle.desk_refusals.specs.Numbers.{by_number}
use borrow.Author.Rules.{rules}
use Rattle.sledgewren.specs.SetWords.{found_word}
use Rattle.sledgewren.proofs.set_file.found_word.Goals as goal

pub returns-in-Ok : goal.returns-in-Ok
returns-in-Ok c = sym (ap (λ f. found_word (by_number f)) c.in-Ok.is)
