-- `index::moving::still_king` meets its contract.
use mathlib.Core.Path.{subst⁻¹}
use mathlib.Core.Bool.{Bool}
use native.Mathlib.Omega.{arith}
use borrow.Author.Tests.{eq-eqb, ne_eqb}
use Rattle.index.specs.Moving.{king_on, Stands}
use Rattle.index.proofs.laws.MovingLaws.{white-keyed}
use Rattle.index.proofs.moving.still_king.Goals as goal

pub returns-then-owner-ne0 : goal.returns-then-owner-ne0
returns-then-owner-ne0 c =
    let x = c.args in
    subst⁻¹ (λ (b : Bool). Stands x.m c.still_black.result (king_on b x.white x.black x.x x.y)) (ne_eqb _ _ c.if-owner-ne0.true)
    c.still_black.ensures

pub still_keyed-requires : goal.still_keyed-requires
still_keyed-requires c = omega arith

pub returns : goal.returns
returns c =
    let x = c.args in
    subst⁻¹ (λ (b : Bool). Stands x.m c.still_keyed.result (king_on b x.white x.black x.x x.y)) (eq-eqb _ _ c.if-owner-ne0.false)
    (c.still_keyed.ensures _ (white-keyed 0 x.black x.x x.y))
