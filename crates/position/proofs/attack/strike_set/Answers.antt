use mathlib.Core.Path.{sym, ◌∙◌}
use borrow.Author.Tests.{eq-eqb, ne_eqb}
use Rattle.board.specs.Sets.{has}
use Rattle.board.proofs.laws.SetLaws.{has-none, set-has}
use Rattle.rules.proofs.laws.CanMove.{attacks-piece}
use Rattle.rules.proofs.laws.OnBoard.{attacks-pawn}
use Rattle.position.proofs.laws.Pieces.{ne-and, eq-and}
use Rattle.position.proofs.attack.strike_set.Goals as goal

pub returns-then-m-colour : goal.returns-then-m-colour
returns-then-m-colour c = λ t h. has-none t ∙ sym (ne-and _ _ _ c.if-m-colour.true)

pub returns-then-m-eq-PAWN : goal.returns-then-m-eq-PAWN
returns-then-m-eq-PAWN c =
    let x = c.args in
    λ t h. c.pawn_hits.ensures (has x.occ) t h
    ∙ sym (attacks-pawn (has x.occ) x.m t (eq-eqb _ _ c.if-m-eq-PAWN.true))
    ∙ sym (eq-and _ _ _ c.if-m-colour.false)

pub returns : goal.returns
returns c =
    let x = c.args in
    λ t h. set-has _ c.targets.ensures t h
    ∙ sym (attacks-piece (has x.occ) x.m t (ne_eqb _ _ c.if-m-eq-PAWN.false))
    ∙ sym (eq-and _ _ _ c.if-m-colour.false)
