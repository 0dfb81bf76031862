use mathlib.Core.Path.{ap, ◌∙◌}
use mathlib.Core.Bool.{not, ◌&&◌}
use Rattle.board.specs.Sets.{has}
use Rattle.board.proofs.laws.SetLaws.{set_of-same, set-has}
use Rattle.board.proofs.sets.without.Goals as goal

pub returns : goal.returns
returns c =
    let set = c.args.set in
    c.minus.ensures ∙ set_of-same _ _ (λ u h. ap (λ b. has set u && not b) (set-has _ c.one.ensures u h))
