use mathlib.Core.Path.{ap, ◌∙◌}
use mathlib.Core.Bool.{◌||◌}
use lib.Bits.{or_lt}
use Rattle.board.specs.Sets.{has}
use Rattle.board.proofs.laws.SetLaws.{has-or, set_is, set-has}
use Rattle.board.proofs.sets.with.Goals as goal

pub returns : goal.returns
returns c =
    let set = c.args.set in
    let it = c.one.result in
    set_is _ _ (or_lt 64 set it c.ranges.set.fits c.one.type_inv)
    (λ u h. has-or set it u ∙ ap (λ b. has set u || b) (set-has _ c.one.ensures u h))
