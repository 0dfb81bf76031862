-- `position::men_check` meets its contract.
use Rattle.position.proofs.laws.MenOver.{by_first, by-second}
use Rattle.position.proofs.attack.men_check.Goals as goal

pub returns-then-slot_strikes : goal.returns-then-slot_strikes
returns-then-slot_strikes c =
    let x = c.args in
    λ apart. by_first x.p apart x.side _ _ c.other-foe.ensures c.king_square-t.ensures _
    c.slot_strikes.ensures c.if-slot_strikes.true

pub returns : goal.returns
returns c =
    let x = c.args in
    λ apart. by-second x.p apart x.side _ _ c.other-foe.ensures c.king_square-t.ensures _
    c.slot_strikes.ensures c.if-slot_strikes.false _ c.slot_strikes-2.ensures
