-- `movegen::goes_to` meets its contract.
use mathlib.Core.Path.{sym, ◌∙◌}
use borrow.Author.Tests.{eq-eqb, ne_eqb}
use Rattle.board.specs.Sets.{has}
use Rattle.board.proofs.laws.SetLaws.{set-has}
use Rattle.rules.specs.Rules.{piece_of}
use Rattle.rules.proofs.laws.CanMove.{goes-piece}
use Rattle.rules.proofs.laws.OnBoard.{goes-pawn}
use Rattle.position_moves.proofs.targets.goes_to.Goals as goal

pub returns-then-kind-eq-PAWN : goal.returns-then-kind-eq-PAWN
returns-then-kind-eq-PAWN c =
    let x = c.args in
    λ t h. c.pawn_goes.ensures t h
    ∙ sym (goes-pawn (has x.occ) (piece_of x.kind x.colour x.square) t (eq-eqb _ _ c.if-kind-eq-PAWN.true))

pub returns : goal.returns
returns c =
    let x = c.args in
    λ t h. set-has _ c.targets.ensures t h
    ∙ sym (goes-piece (has x.occ) (piece_of x.kind x.colour x.square) t (ne_eqb _ _ c.if-kind-eq-PAWN.false))
