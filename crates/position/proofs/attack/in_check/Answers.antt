use mathlib.Core.Path.{◌∙◌}
use Rattle.board.specs.Sets.{has}
use Rattle.board.proofs.laws.SetLaws.{set-has}
use Rattle.rules.specs.Rules.{occupied, attacked, in_check, king}
use Rattle.position.specs.Keyed.{board_of}
use Rattle.position.specs.Over.{attacked_over}
use Rattle.position.proofs.laws.Over.{attacked-same}
use Rattle.position.proofs.attack.in_check.Goals as goal

pub returns : goal.returns
unfolding in_check attacked attacked_over
returns c =
    let x = c.args in
    let b = board_of x.p in
    c.attacked_over.ensures
    ∙ rw (c.other.ensures, c.king_square.ensures)
    (attacked-same (has c.occupied.result) (occupied b) (set-has _ c.occupied.ensures) b _ (king b x.side))
