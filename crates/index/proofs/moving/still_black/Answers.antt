-- `index::moving::still_black` meets its contract.
use mathlib.Core.Path.{refl}
use native.Mathlib.Omega.{arith}
use Rattle.index.proofs.laws.MovingLaws.{black-keyed}
use Rattle.index.proofs.moving.still_black.Goals as goal

pub still_keyed-requires : goal.still_keyed-requires
still_keyed-requires c = omega arith

pub returns-then-row-eq0 : goal.returns-then-row-eq0
returns-then-row-eq0 c =
    let x = c.args in
    c.still_keyed.ensures _ (black-keyed x.white 0 x.x x.y)

pub still_rowed-requires : goal.still_rowed-requires
still_rowed-requires c = (c.row_beside-row.ensures, c.if-row-eq0.false, refl)

pub returns : goal.returns
returns c = c.still_rowed.ensures
