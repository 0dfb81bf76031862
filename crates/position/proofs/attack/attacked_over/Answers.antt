use mathlib.Core.Path.{sym}
use Rattle.board.specs.Sets.{has}
use Rattle.position.proofs.laws.Pieces.{attacked-four}
use Rattle.position.proofs.attack.attacked_over.Goals as goal

pub returns : goal.returns
returns c =
    let x = c.args in
    rw (
      c.strikes.ensures,
      c.strikes-2.ensures,
      c.strikes-3.ensures,
      c.strikes-4.ensures,
    )
    (sym (attacked-four x.p _ c.pieces_of-all.ensures (has x.occ) x.colour x.t))
