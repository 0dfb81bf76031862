-- `position::man_strikes` meets its contract.
use mathlib.Core.Path.{sym, ◌∙◌}
use borrow.Author.Tests.{eq-eqb, ne_eqb}
use Rattle.board.proofs.laws.ReachLaws.{reaches_same}
use Rattle.board.proofs.laws.SetLaws.{set-has}
use Rattle.rules.specs.Rules.{piece_of, occupied}
use Rattle.rules.proofs.laws.CanMove.{attacks-piece}
use Rattle.rules.proofs.laws.OnBoard.{attacks-pawn, hits-has}
use Rattle.position.specs.Keyed.{board_of}
use Rattle.position.proofs.attack.man_strikes.Goals as goal

pub returns-then-kind-eq-PAWN : goal.returns-then-kind-eq-PAWN
returns-then-kind-eq-PAWN c =
    let h = c.pawn_hits in
    let x = c.args in
    let occ = occupied (board_of x.p) in
    c.has.ensures
    ∙ hits-has occ x.colour x.square _ x.t h.type_inv (h.ensures occ)
    ∙ sym (attacks-pawn occ (piece_of x.kind x.colour x.square) x.t (eq-eqb _ _ c.if-kind-eq-PAWN.true))

pub returns : goal.returns
returns c =
    let x = c.args in
    let occ = occupied (board_of x.p) in
    c.attacks.ensures
    ∙ reaches_same _ occ (set-has _ c.occupied.ensures) x.kind x.square x.t
    ∙ sym (attacks-piece occ (piece_of x.kind x.colour x.square) x.t (ne_eqb _ _ c.if-kind-eq-PAWN.false))
