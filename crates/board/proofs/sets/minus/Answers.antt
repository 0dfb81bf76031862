use mathlib.Core.Path.{ap, ◌∙◌}
use mathlib.Core.Bool.{◌&&◌}
use Prim.Native.Nat.{◌-◌, ◌^◌}
use native.Mathlib.Omega.{arith}
use lib.Bits.{and_lt}
use Rattle.board.specs.Sets.{has}
use Rattle.board.proofs.laws.SetLaws.{has-and, has-not, set_is}
use Rattle.board.proofs.sets.minus.Goals as goal

pub returns : goal.returns
returns c =
    let set = c.args.set in
    let out = c.args.other in
    set_is _ _ (and_lt 64 set ((2 ^ 64 - 1) - out) c.ranges.set.fits (omega arith))
    (λ u h. has-and set ((2 ^ 64 - 1) - out) u ∙ ap (λ b. has set u && b) (has-not out u h c.ranges.other.fits))
