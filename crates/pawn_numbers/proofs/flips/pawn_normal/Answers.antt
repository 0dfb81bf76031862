-- `pawn_numbers::pawn_normal` meets its contract: by the flip of its board.
use mathlib.Core.Path.{sym}
use mathlib.Core.Bool.{true, false}
use borrow.Author.Tests.{eq-eqb, ne_eqb}
use Rattle.pawn_numbers.proofs.laws.PlaceLaws.{normal-by}
use Rattle.pawn_numbers.proofs.flips.pawn_normal.Goals as goal

pub returns-then-colours : goal.returns-then-colours
returns-then-colours c =
    let e = eq-eqb c.args.colour 1 c.if-colours.true in
    rw (c.place_by-place.ensures, e) (sym (normal-by _ _ _ _ _ true e))

pub returns-else-colours : goal.returns-else-colours
returns-else-colours c =
    let e = ne_eqb c.args.colour 1 c.if-colours.false in
    rw (c.place_by-place-else-colours.ensures, e) (sym (normal-by _ _ _ _ _ false e))
