-- `host::sledgewren_second_opinion` meets its contract. The word of the opinion.
use mathlib.Core.Path.{ap, ◌∙◌}
use borrow.Author.Rules.{rules}
use Rattle.position.specs.declared.Position.{Position}
use Rattle.search.specs.Opinions.{opinion_of}
use Rattle.sledgewren.specs.OpinionWord.{opinion_word}
use Rattle.sledgewren.proofs.opinions.sledgewren_second_opinion.Goals as goal

pub returns : goal.returns
returns c =
    c.opinion_word.ensures
    ∙ ap opinion_word
    (c.second_opinion.ensures
    ∙ ap (λ (p : Position). opinion_of p c.args.plies)
    c.position_read-p.ensures)
