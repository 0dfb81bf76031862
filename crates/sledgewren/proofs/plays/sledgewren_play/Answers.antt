-- `sledgewren::sledgewren_play` meets its contract. The word of the answer.
use mathlib.Core.Path.{ap, ◌∙◌}
use borrow.Author.Rules.{rules}
use Rattle.position.specs.declared.Position.{Position}
use Rattle.playing.specs.Playing.{play_of}
use Rattle.words.specs.Played.{played_word}
use Rattle.sledgewren.proofs.plays.sledgewren_play.Goals as goal

pub returns : goal.returns
returns c =
    let a = c.args in
    c.played_word.ensures
    ∙ ap played_word
    (c.play.ensures
    ∙ ap (λ (p : Position). play_of p a.from a.to a.becomes) c.position_read-p.ensures)
