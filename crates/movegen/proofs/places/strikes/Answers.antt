-- `movegen::strikes` meets its contract: each return by the tests that led there.
use mathlib.Core.Path.{sym}
use mathlib.Core.Bool.{and-false}
use mathlib.Core.Logic.{inl}
use lib.Dec.{eqb}
use borrow.Author.Tests.{eq-eqb}
use Rattle.board.specs.Sets.{has}
use Rattle.board.proofs.laws.ReachLaws.{reaches-off}
use Rattle.position.proofs.laws.Pieces.{ne-and}
use Rattle.movegen.proofs.places.strikes.Goals as goal

pub returns-then-owner-colour : goal.returns-then-owner-colour
returns-then-owner-colour c = sym (ne-and _ _ _ c.if-owner-colour.true)

pub returns-then-square-ge64 : goal.returns-then-square-ge64
returns-then-square-ge64 c =
    let x = c.args in
    sym (rw (reaches-off (has x.occ) x.kind x.square x.t (inl c.if-square-ge64.true)) (and-false (eqb x.owner x.colour)))

pub returns : goal.returns
returns c = rw (eq-eqb _ _ c.if-owner-colour.false) c.attacks.ensures
