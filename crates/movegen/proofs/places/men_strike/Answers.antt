-- `movegen::men_strike` meets its contract.
use Rattle.movegen.proofs.laws.Places.{or-first, or-next}
use Rattle.movegen.proofs.places.men_strike.Goals as goal

pub returns-then-strikes : goal.returns-then-strikes
returns-then-strikes c = or-first _ _ _ c.strikes.ensures c.if-strikes.true

pub returns : goal.returns
returns c = or-next _ _ _ _ c.strikes.ensures c.if-strikes.false c.strikes-2.ensures
