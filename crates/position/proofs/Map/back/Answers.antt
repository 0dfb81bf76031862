-- `Map::back` meets its contract: the exchange first, then the reversals.
use mathlib.Core.Path.{ap, ◌∙◌}
use Rattle.symmetry.specs.Symmetry.{mapped}
use Rattle.position.specs.Maps.{reversals}
use Rattle.position.proofs.laws.MapLaws.{back-exchanged, back-plain}
use Rattle.position.proofs.Map.back.Goals as goal

pub returns-then-self : goal.returns-then-self
returns-then-self c =
    let m = c.args.self in
    c.square_flipped.ensures ∙ ap (mapped (reversals m.files m.ranks)) c.transposed.ensures
    ∙ back-exchanged m _ c.if-self.true

pub returns : goal.returns
returns c = c.square_flipped-2.ensures ∙ back-plain c.args.self _ c.if-self.false
