-- `movegen::shielding` meets its contract.
use mathlib.Core.Path.{sym, ◌∙◌}
use native.Mathlib.Omega.{arith}
use Rattle.position.specs.Keyed.{board_of}
use Rattle.position.specs.Posed.{posed}
use Rattle.movegen.proofs.laws.Movers.{mover-none, mover-stays, mover-free, mover-parried}
use Rattle.movegen.proofs.reaching.shielding.Goals as goal

pub returns-then-free-eq0 : goal.returns-then-free-eq0
returns-then-free-eq0 c = λ kind owner v. mover-none v c.if-free-eq0.true

pub returns-then-not-has : goal.returns-then-not-has
unfolding board_of posed
returns-then-not-has c =
    λ kind owner v. mover-free v c.if-free-eq0.false _ _ _ c.other-foe.ensures c.without.ensures
    c.strike_set-strike.ensures _ c.king_at.ensures (sym c.has.ensures ∙ c.if-not-has.true)
    c.ranges.free.fits

pub returns : goal.returns
unfolding board_of posed
returns c =
    let foe = c.other-foe.ensures in
    let some = c.if-free-eq0.false in
    λ kind owner v. mover-parried v some _ _ _ foe c.without.ensures c.strike_set-strike.ensures _
    c.king_at.ensures _ (c.own_at.ensures (omega (arith, foe)))
    (sym c.has.ensures ∙ c.if-not-has.false) _ c.tested.type_inv
    (c.tested.ensures (mover-stays v some))
