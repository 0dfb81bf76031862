use mathlib.Core.Path.{sym, ◌∙◌}
use borrow.Author.Tests.{eq-eqb, ne_eqb}
use Rattle.board.specs.Sets.{has}
use Rattle.rules.proofs.laws.CanMove.{attacks-piece}
use Rattle.rules.proofs.laws.OnBoard.{attacks-pawn, hits-has}
use Rattle.position.proofs.laws.Pieces.{ne-and, eq-and}
use Rattle.position.proofs.attack.strikes.Goals as goal

pub returns-then-m-colour : goal.returns-then-m-colour
returns-then-m-colour c = sym (ne-and _ _ _ c.if-m-colour.true)

pub returns-then-m-eq-PAWN : goal.returns-then-m-eq-PAWN
returns-then-m-eq-PAWN c =
    let h = c.pawn_hits in
    let x = c.args in
    let occ = has x.occ in
    c.has.ensures
    ∙ hits-has occ x.m.colour x.m.square _ x.t h.type_inv (h.ensures occ)
    ∙ sym (attacks-pawn occ x.m x.t (eq-eqb _ _ c.if-m-eq-PAWN.true))
    ∙ sym (eq-and _ _ _ c.if-m-colour.false)

pub returns : goal.returns
returns c =
    let x = c.args in
    c.attacks.ensures
    ∙ sym (attacks-piece (has x.occ) x.m x.t (ne_eqb _ _ c.if-m-eq-PAWN.false))
    ∙ sym (eq-and _ _ _ c.if-m-colour.false)
