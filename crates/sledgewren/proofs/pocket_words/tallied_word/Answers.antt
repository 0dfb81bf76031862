-- `host::tallied_word` meets its contract. Each arm by the case it is.
use mathlib.Core.Path.{ap, sym, ◌∙◌}
use Rattle.desk_refusals.specs.Numbers.{numbered}
use borrow.Author.Rules.{rules}
use Rattle.sledgewren.specs.PocketWords.{tallied_word}
use Rattle.sledgewren.proofs.pocket_words.tallied_word.Goals as goal

pub returns-in-Ok : goal.returns-in-Ok
returns-in-Ok g c = c.tallies_word.ensures ∙ sym (ap (λ t. tallied_word (numbered g.R.Numbered.shown_number t)) c.in-Ok.is)
