-- `playing::promoting::make_as` meets its contract.
use mathlib.Core.Path.{ap, ◌∙◌}
use Rattle.playing.specs.Playing.{promoted_to}
use Rattle.playing.proofs.laws.PlayLaws.{after-plain, after-named}
use borrow.Author.Rules.{rules}
use Rattle.playing.proofs.promoting.make_as.Goals as goal

pub returns-then-becomes-eq0 : goal.returns-then-becomes-eq0
returns-then-becomes-eq0 c =
    let a = c.args in
    c.make-made.ensures ∙ after-plain a.p a.from a.to a.becomes c.if-becomes-eq0.true

pub returns : goal.returns
returns c =
    let a = c.args in
    c.promoted_to.ensures ∙ ap (promoted_to a.p.side a.to _) c.make-made.ensures
    ∙ after-named a.p a.from a.to a.becomes c.if-becomes-eq0.false
