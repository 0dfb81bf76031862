-- `movegen::man_targets` meets its contract.
use mathlib.Core.Path.{ap, ◌∙◌}
use Rattle.board.specs.Sets.{set_of}
use Rattle.rules.specs.declared.Piece.{Piece}
use Rattle.rules.specs.Rules.{can_move}
use Rattle.position.specs.Keyed.{board_of}
use Rattle.position_moves.proofs.laws.InPosition.{man-none, man-free}
use Rattle.position_moves.proofs.in_position.man_targets.Goals as goal

pub returns-then-struck-eq0 : goal.returns-then-struck-eq0
returns-then-struck-eq0 c =
    let x = c.args in
    λ occ v i e. man-free v x.goes c.if-struck-eq0.true _ c.minus.ensures c.minus.type_inv x.slot i e

pub returns-then-goes-eq0 : goal.returns-then-goes-eq0
returns-then-goes-eq0 c =
    let x = c.args in
    λ occ v i e. man-none v x.goes x.slot i e c.if-goes-eq0.true

pub returns : goal.returns
returns c =
    λ occ v i e. c.legal_targets.ensures
    ∙ ap (λ (m : Piece). set_of (can_move (board_of c.args.p) m.square))
    c.man_in.ensures
